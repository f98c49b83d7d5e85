-- From rows to reasons, for any order: where each row is given exactly where its reason applies,
-- with the reason's number, the first row that is given is the first reason that applies. So the
-- number of the answer depends on the reasons alone.
use Prim.Native.Nat.{ℕ}
use mathlib.Core.Path.{◌≡◌, refl, sym, ◌∙◌, subst}
use mathlib.Core.Logic.{◌↔◌, inl, inr}
use mathlib.Core.Bool.{Bool, true, false, false≢true, or-true}
use mathlib.Core.Option.{none, some}
use mathlib.Core.List.{List, [], ◌∷◌, ◌++◌}
use lib.Dec.{eqb}
use Rattle.alphabet.specs.Letters.{among}
use Rattle.paper.specs.Hearing.{Said, Row, Outcome, row_when, first, heard, refused_numbers}
use Rattle.reasons.specs.Reasons.{Reason, ◌when◌, FirstApplies}

-- ---- the first reason that applies

-- it has one number
pub first_once : (rs : List Reason) (n m : ℕ) → FirstApplies rs n → FirstApplies rs m → n ≡ m
first_once [] n m e f = e ∙ sym f
first_once (r ∷ rs) n m (inl e) (inl f) = e.1 ∙ sym f.1
first_once (r ∷ rs) n m (inl e) (inr f) = absurd (f.0 e.0)
first_once (r ∷ rs) n m (inr e) (inl f) = absurd (e.0 f.0)
first_once (r ∷ rs) n m (inr e) (inr f) = first_once rs n m e.1 f.1

-- the number of every reason of a list is one of these numbers
abbrev pub NumbersAmong : List ℕ → List Reason → Type 0
NumbersAmong numbers [] = Unit {0}
NumbersAmong numbers (r ∷ rs) = (among r.number numbers ≡ true) × NumbersAmong numbers rs

-- then the number of the first that applies is one of them, or 0
pub first_among : (numbers : List ℕ) (rs : List Reason) (n : ℕ) → NumbersAmong numbers rs
    → FirstApplies rs n → among n (0 ∷ numbers) ≡ true
unfolding among
first_among numbers [] n a e = rw e
first_among numbers (r ∷ rs) n a (inl e) =
    subst (λ (m : ℕ). among m (0 ∷ numbers) ≡ true) (sym e.1) (rw a.0 (or-true (eqb r.number 0)))
first_among numbers (r ∷ rs) n a (inr e) = first_among numbers rs n a.1 e.1

-- ---- from rows to reasons

-- a row that is given exactly where a reason applies, with the reason's number
abbrev pub Fits : Row → Reason → Type 0
Fits none r = ¬ r.applies
Fits (some s) r = r.applies × (s.number ≡ r.number)

-- each row of an order fits the reason at its place in a list
abbrev pub AllFit : List Row → List Reason → Type 0
AllFit [] [] = Unit {0}
AllFit [] (r ∷ rs) = ⊥
AllFit (x ∷ xs) [] = ⊥
AllFit (x ∷ xs) (r ∷ rs) = Fits x r × AllFit xs rs

pub parts_fit : (xs ys : List Row) (rs qs : List Reason) → AllFit xs rs → AllFit ys qs
    → AllFit (xs ++ ys) (rs ++ qs)
parts_fit [] ys [] qs f g = g
parts_fit [] ys (r ∷ rs) qs f g = absurd f
parts_fit (x ∷ xs) ys [] qs f g = absurd f
parts_fit (x ∷ xs) ys (r ∷ rs) qs f g = (f.0, parts_fit xs ys rs qs f.1 g)

-- a row fits where its test says whether the reason applies
pub when_fits : (number place : ℕ) (test : Bool) {A : Type 0} → (test ≡ true → A)
    → (A → test ≡ true)
    → Fits (row_when number place test) (number when A)
unfolding row_when
when_fits number place true to from = (to refl, refl)
when_fits number place false to from = λ a. false≢true (from a)

-- the number of an answer, where an order is heard whose rows fit the reasons
pub heard_fits : (rows : List Row) (rs : List Reason) (kept : List (List ℕ)) (done : Outcome)
    → AllFit rows rs → done.numbers.number ≡ 0
    → FirstApplies rs (heard (first rows) kept done).numbers.number
unfolding first heard refused_numbers
heard_fits [] [] kept done f z = z
heard_fits [] (r ∷ rs) kept done f z = absurd f
heard_fits (x ∷ xs) [] kept done f z = absurd f
heard_fits (none ∷ xs) (r ∷ rs) kept done f z = inr (f.0, heard_fits xs rs kept done f.1 z)
heard_fits (some s ∷ xs) (r ∷ rs) kept done f z = inl f.0

-- so an answer has a number exactly where the first reason that applies has it
pub heard_exactly : {row : Row} (rows : List Row) (rs : List Reason) (kept : List (List ℕ))
    (done : Outcome) → row ≡ first rows → AllFit rows rs → done.numbers.number ≡ 0
    → (n : ℕ) → ((heard row kept done).numbers.number ≡ n) ↔ FirstApplies rs n
heard_exactly {row} rows rs kept done e f z n = (
  λ same. rw same at given,
  λ a. first_once rs _ n given a,
)
  where
    given : FirstApplies rs (heard row kept done).numbers.number
    given = rw e (heard_fits rows rs kept done f z)

-- ---- places

-- "A place not named is 0": a row that names no place
pub data NoPlace : Row → Type 0 where
  none_given : NoPlace none
  at_0 : {s : Said} → s.place ≡ 0 → NoPlace (some s)

abbrev pub NoPlaces : List Row → Type 0
NoPlaces [] = Unit {0}
NoPlaces (x ∷ xs) = NoPlace x × NoPlaces xs

pub no_places_parts : (xs ys : List Row) → NoPlaces xs → NoPlaces ys → NoPlaces (xs ++ ys)
no_places_parts [] ys f g = g
no_places_parts (x ∷ xs) ys f g = (f.0, no_places_parts xs ys f.1 g)

pub when_no_place : (number : ℕ) (test : Bool) → NoPlace (row_when number 0 test)
unfolding row_when
when_no_place number true = at_0 refl
when_no_place number false = none_given

pub first_no_place : (rows : List Row) → NoPlaces rows → NoPlace (first rows)
unfolding first
first_no_place [] f = none_given
first_no_place (none ∷ xs) f = first_no_place xs f.1
first_no_place (some s ∷ xs) f = f.0

pub heard_no_place : (row : Row) (kept : List (List ℕ)) (done : Outcome) → NoPlace row
    → done.numbers.place ≡ 0
    → (heard row kept done).numbers.place ≡ 0
unfolding heard refused_numbers
heard_no_place row kept done none_given z = z
heard_no_place row kept done (at_0 e) z = e

-- ---- places by number

-- a row that is given has a number and a place of which `right` is so
abbrev pub Tells : (ℕ → ℕ → Type 0) → Row → Type 0
Tells right none = Unit {0}
Tells right (some s) = right s.number s.place

-- what follows from it is so too
pub tell_alike : {right other : ℕ → ℕ → Type 0} (r : Row)
    → ((n place : ℕ) → right n place → other n place) → Tells right r
    → Tells other r
tell_alike none to f = tt
tell_alike (some s) to f = to s.number s.place f

abbrev pub AllTell : (ℕ → ℕ → Type 0) → List Row → Type 0
AllTell right [] = Unit {0}
AllTell right (x ∷ xs) = Tells right x × AllTell right xs

module _ (right : ℕ → ℕ → Type 0) where
  pub parts_tell : (xs ys : List Row) → AllTell right xs → AllTell right ys
      → AllTell right (xs ++ ys)
  parts_tell [] ys f g = g
  parts_tell (x ∷ xs) ys f g = (f.0, parts_tell xs ys f.1 g)

  pub when_tells : (number place : ℕ) (test : Bool) → right number place
      → Tells right (row_when number place test)
  unfolding row_when
  when_tells number place true r = r
  when_tells number place false r = tt

  -- so it is of the answer, where an order is heard whose rows tell it
  pub heard_tells : (rows : List Row) (kept : List (List ℕ)) (done : Outcome)
      → AllTell right rows → right done.numbers.number done.numbers.place
      → right (heard (first rows) kept done).numbers.number
      (heard (first rows) kept done).numbers.place
  unfolding first heard refused_numbers
  heard_tells [] kept done f z = z
  heard_tells (none ∷ xs) kept done f z = heard_tells xs kept done f.1 z
  heard_tells (some s ∷ xs) kept done f z = f.0
