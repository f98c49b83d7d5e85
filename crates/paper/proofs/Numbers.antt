-- Which numbers an order can give. A row gives its own number or none, a joined order gives the
-- numbers of its parts, so its first row has one of these numbers. Where 0 is not among them, an
-- answer with number 0 is done.
use Prim.Native.Nat.{ℕ, ◌+◌}
use mathlib.Core.Path.{◌≡◌, refl, sym, ◌∙◌, ap}
use mathlib.Core.Bool.{Bool, true, false, true≢false, or-true}
use mathlib.Core.Option.{Option, none, some}
use mathlib.Core.List.{List, [], ◌∷◌, ◌++◌}
use native.Mathlib.Omega.{arith}
use lib.Dec.{ltb}
use Rattle.trie.specs.Lowest.{lowest}
use Rattle.alphabet.specs.Letters.{among}
use Rattle.alphabet.proofs.Alphabets.{among_append}
use Rattle.paper.specs.Hearing.{Said, Row, Outcome, row_when, first, heard, refused_numbers}
use Rattle.paper.specs.Rows.{row_when_lowest, row6_at}

-- if the row is given, it has one of these numbers
pub data Says (numbers : List ℕ) : Row → Type 0 where
  silent : Says numbers none
  saying : {s : Said} → among s.number numbers ≡ true → Says numbers (some s)

-- and so does every row of an order
infixr 5 ◌then◌
pub data AllSay (numbers : List ℕ) : List Row → Type 0 where
  end : AllSay numbers []
  ◌then◌ : {r : Row} {rows : List Row} → Says numbers r → AllSay numbers rows
      → AllSay numbers (r ∷ rows)

-- ---- one row

pub given_says : {numbers : List ℕ} (number place : ℕ) (test : Bool) → among number numbers ≡ true
    → Says numbers (row_when number place test)
unfolding row_when
given_says number place true e = saying e
given_says number place false e = silent

pub lowest_says : {numbers : List ℕ} (number : ℕ) (test : ℕ → Bool) (a k : ℕ)
    → among number numbers ≡ true
    → Says numbers (row_when_lowest number test a k)
unfolding row_when_lowest
lowest_says number test a k e =
    given_says number (lowest test a k) (ltb (lowest test a k) (a + k)) e

pub at_says : {numbers : List ℕ} (at : Option ℕ) → among 6 numbers ≡ true
    → Says numbers (row6_at at)
unfolding row6_at
at_says none e = silent
at_says (some q) e = saying e

-- ---- an order

says_left : {numbers : List ℕ} {r : Row} (more : List ℕ) → Says numbers r
    → Says (numbers ++ more) r
says_left more silent = silent
says_left {numbers} more (saying {s} e) =
    saying {s = s} (rw (among_append s.number numbers more, e))

says_right : (more : List ℕ) {numbers : List ℕ} {r : Row} → Says numbers r
    → Says (more ++ numbers) r
says_right more silent = silent
says_right more {numbers} (saying {s} e) =
    saying {s = s} (rw (among_append s.number more numbers, e)
    (or-true (among s.number more)))

pub parts_say : {numbers more : List ℕ} {xs ys : List Row} → AllSay numbers xs → AllSay more ys
    → AllSay (numbers ++ more) (xs ++ ys)
parts_say end end = end
parts_say {numbers} end (s then q) = says_right numbers s then parts_say {numbers = numbers} end q
parts_say {more = more} (s then p) q = says_left more s then parts_say p q

pub first_says : {numbers : List ℕ} {rows : List Row} → AllSay numbers rows
    → Says numbers (first rows)
unfolding first
first_says end = silent
first_says (silent then p) = first_says p
first_says (saying e then p) = saying e

pub one_of : {numbers : List ℕ} {r : Row} {s : Said} → Says numbers r → r ≡ some s
    → among s.number numbers ≡ true
one_of silent e = let z : ◌≡◌ {A = ℕ} 0 1 = cc in absurd (omega arith)
one_of (saying p) e = cc

-- ---- an outcome

-- where 0 is not among the numbers, an answer with number 0 is no refusal
pub none_heard : {numbers : List ℕ} {r : Row} (kept : List (List ℕ)) (done : Outcome)
    → Says numbers r → among 0 numbers ≡ false
    → (heard r kept done).numbers.number ≡ 0 → r ≡ none
unfolding heard refused_numbers
none_heard kept done silent z e = refl
none_heard {numbers} kept done (saying p) z e =
    absurd (true≢false (sym p ∙ ap (λ (m : ℕ). among m numbers) e ∙ z))

-- ---- which row gave a number

-- a row that cannot have the number did not give it
pub pass_row : {numbers : List ℕ} {r : Row} (rows : List Row) {s : Said} (n : ℕ) → Says numbers r
    → among n numbers ≡ false → s.number ≡ n
    → first (r ∷ rows) ≡ some s → (r ≡ none) × (first rows ≡ some s)
unfolding first
pass_row rows n silent z k e = (refl, e)
pass_row {numbers} rows {s} n (saying {s = t} p) z k e =
    let same : t.number ≡ s.number = cc in
    absurd (true≢false (sym p ∙ ap (λ (m : ℕ). among m numbers) (same ∙ k) ∙ z))

pub pass_part : {numbers : List ℕ} {xs : List Row} (ys : List Row) {s : Said} (n : ℕ)
    → AllSay numbers xs → among n numbers ≡ false → s.number ≡ n
    → first (xs ++ ys) ≡ some s → (first xs ≡ none) × (first ys ≡ some s)
unfolding first
pass_part ys n end z k e = (refl, e)
pass_part ys n (silent then p) z k e = pass_part ys n p z k e
pass_part {numbers} ys {s} n (saying {s = t} q then p) z k e =
    let same : t.number ≡ s.number = cc in
    absurd (true≢false (sym q ∙ ap (λ (m : ℕ). among m numbers) (same ∙ k) ∙ z))
