-- 02, Ask 7, "new in demand 3's list for a store with counts": the number that such a store
-- answers on an accepted image is that of the first reason that applies. Its order is 5, 25, the
-- plain store's from 9 on, and 5 again; each row is given exactly where its reason applies.
use Prim.Native.Nat.{ℕ, ◌+◌, ◌≤◌, ◌<◌}
use mathlib.Core.Path.{◌≡◌, refl, sym, ◌∙◌}
use mathlib.Core.Logic.{◌↔◌, ◌≢◌, ◌⊎◌, inl, inr, ⊎_elim}
use mathlib.Core.Bool.{true, false≢true, or-true}
use mathlib.Core.Option.{none, some}
use mathlib.Core.List.{List, [], ◌∷◌, ◌++◌}
use native.Mathlib.Decide.{dec_lt}
use native.Mathlib.Omega.{arith}
use lib.Dec.{ltb, eqb}
use lib.ListN.{length}
use borrow.Author.Tests.{ltb-true, lt-ltb}
use Rattle.head.specs.Fields.{head_of}
use Rattle.alphabet.specs.Letters.{among}
use Rattle.paper.specs.Hearing.{Row, Outcome, first, heard, done_numbers, refused_numbers}
use Rattle.paper.specs.Rows.{row5}
use Rattle.paper.specs.Given.{Given, as_letters, as_text, key_in}
use Rattle.paper.specs.Orders.{key_rows, new_of}
use Rattle.paper.specs.Accepted.{Accepted}
use Rattle.reasons.specs.Reasons.{Reason, ◌when◌, FirstApplies, key_reasons, value_reasons}
use Rattle.paper.proofs.Hearing.{first_none}
use Rattle.reasons.proofs.FirstReason.{NumbersAmong, first_among, Fits, AllFit, parts_fit}
use Rattle.reasons.proofs.FirstReason.{when_fits}
use Rattle.reasons.proofs.FirstReason.{heard_exactly, NoPlace, NoPlaces, no_places_parts}
use Rattle.reasons.proofs.FirstReason.{when_no_place, first_no_place, heard_no_place}
use Rattle.reasons.proofs.KeyReasons.{key_fits, key_no_places}
use Rattle.reasons.proofs.Reasons.{value_fits, value_no_places, five_fits}
use Rattle.paper.proofs.StoreCall.{valued}
use Rattle.position.specs.Counts.{row25, row5again}
use Rattle.position.specs.Orders.{usable, store_counts_order}
use Rattle.position.specs.Calls.{store_counts_of}
use Rattle.reasons.specs.CheckReasons.{LowestOf}
use Rattle.reasons.specs.CountsReasons.{DifferentAt, DifferentCounts, list_reasons}
use Rattle.reasons.specs.CountsReasons.{store_counts_reasons}
use Rattle.position.proofs.Plain.{both_lent}
use Rattle.position.proofs.Right.{none_25, says_25}
use Rattle.position.proofs.StoreCounts.{accepted_order}

-- ---- the rows

-- 5 for either list
lists_fit : (l work counts : List ℕ)
    → Fits (row5 (head_of l) (length (usable work counts)))
    (5 when ((length work < (head_of l).g + 1) ⊎ (length counts < (head_of l).g + 1)))
unfolding row5
lists_fit l work counts = when_fits 5 0 (ltb lent most) (λ e. to (ltb-true lent most e)) from
  where
    lent : ℕ
    lent = length (usable work counts)

    most : ℕ
    most = (head_of l).g + 1

    to : lent < most → (length work < most) ⊎ (length counts < most)
    to few = go (dec_lt (length work) most) (dec_lt (length counts) most)
      where
        go : Dec (length work < most) → Dec (length counts < most)
            → (length work < most) ⊎ (length counts < most)
        go (yes a) _ = inl a
        go (no a) (yes b) = inr b
        go (no a) (no b) =
            absurd (omega (arith, (both_lent l work counts).1 (omega arith, omega arith)))

    from : (length work < most) ⊎ (length counts < most) → ltb lent most ≡ true
    from few = lt-ltb lent most (go (dec_lt lent most))
      where
        go : Dec (lent < most) → lent < most
        go (yes a) = a
        go (no a) =
            let both = (both_lent l work counts).0 (omega arith) in
            absurd (⊎_elim (λ b. omega arith) (λ b. omega arith) few)

-- 25
differ_fit : (l counts : List ℕ) → Fits (row25 l counts) (25 when DifferentCounts l counts)
differ_fit l counts = go (row25 l counts) refl
  where
    go : (r : Row) → row25 l counts ≡ r → Fits r (25 when DifferentCounts l counts)
    go none e = λ d. let (q, at) = d in at.1 ((none_25 l counts).0 e q at.0)
    go (some s) e = let (number, b, wrong, _) = says_25 l counts e in
        ((s.place, (b, wrong)), number)

-- ---- an order in which only the second row names a place

second_place : (x y : Row) (rows : List Row) → NoPlace x → NoPlaces rows
    → (first (x ∷ y ∷ rows) ≡ y) ⊎ NoPlace (first (x ∷ y ∷ rows))
unfolding first
second_place (some s) y rows f g = inr f
second_place none (some t) rows f g = inl refl
second_place none none rows f g = inr (first_no_place rows g)

-- a row whose reason does not apply is not given
fits_none : (x : Row) (r : Reason) → Fits x r → ¬ r.applies → x ≡ none
fits_none none r f z = refl
fits_none (some s) r f z = absurd (z f.0)

-- one whose reason applies is the first
first_alone : (x : Row) (r : Reason) (rows : List Row) → Fits x r → r.applies
    → first (x ∷ rows) ≡ x
unfolding first
first_alone none r rows f z = absurd (f z)
first_alone (some s) r rows f z = refl

-- the answer where 25 is heard
heard_25 : (l counts : List ℕ) (r : Row) (kept : List (List ℕ)) (done : Outcome)
    → r ≡ row25 l counts
    → done.numbers.number ≡ 0
    → done.numbers.place ≡ 0
    → ((heard r kept done).numbers.number ≡ 25
    → LowestOf (DifferentAt l counts) (heard r kept done).numbers.place)
    × ((heard r kept done).numbers.number ≢ 25 → (heard r kept done).numbers.place ≡ 0)
unfolding heard refused_numbers
heard_25 l counts none kept done e z p = (λ f. absurd (omega arith), λ f. p)
heard_25 l counts (some s) kept done e z p =
    let (number, node, different, lowest) = says_25 l counts (sym e) in (
      λ f. ((node, different), λ q b d. d.1 (lowest q b)),
      λ f. absurd (f number),
    )

-- ---- a store with counts on an accepted image

-- the reasons after 25: 9 to 13, and 5 again
module _ (l : List ℕ) (value k : ℕ) (counts : List ℕ) where
  abbrev later : Given → List Reason
  later given = key_reasons l given ++ (value_reasons l value k ++ list_reasons l k counts)

  abbrev later_numbers : List ℕ
  later_numbers = 9 ∷ 10 ∷ 11 ∷ 12 ∷ 13 ∷ 5 ∷ []

  later_among : (given : Given) → NumbersAmong later_numbers (later given)
  unfolding key_reasons value_reasons list_reasons among
  later_among (as_letters key) = (refl, (refl, (refl, (refl, (refl, (refl, tt))))))
  later_among (as_text text) = (refl, (refl, (refl, (refl, (refl, (refl, tt))))))

  -- none of them gives 25
  not_25 : (given : Given) → ¬ FirstApplies (later given) 25
  unfolding among
  not_25 given f =
      false≢true (first_among later_numbers (later given) 25 (later_among given) f)

  with_25 : (given : Given) (n : ℕ)
      → FirstApplies (25 when DifferentCounts l counts ∷ later given) n
      → among n (25 ∷ 0 ∷ later_numbers) ≡ true
  unfolding among
  with_25 given n (inl f) = rw f.1
  with_25 given n (inr f) =
      rw (first_among later_numbers (later given) n (later_among given) f.1)
      (or-true (eqb n 25))

module _ (l work : List ℕ) (given : Given) (value : ℕ) (counts : List ℕ) where
  abbrev key : List ℕ
  key = key_in l given

  abbrev new : ℕ
  new = new_of (head_of l) l key value

  -- 9 to 13, and 5 again
  abbrev rest : List Row
  rest = key_rows l given ++ (valued l key value ++
      (row5again (head_of l) new (length counts) ∷ []))

  -- the order of a store with counts on an accepted image
  abbrev rows : List Row
  rows = row5 (head_of l) (length (usable work counts)) ∷ row25 l counts ∷ rest

  again_fits : AllFit (row5again (head_of l) new (length counts) ∷ []) (list_reasons l new counts)
  unfolding row5again list_reasons
  again_fits = (five_fits (length counts) ((head_of l).g + new + 1), tt)

  store_fits : AllFit rows (store_counts_reasons l work given value counts)
  unfolding store_counts_reasons
  store_fits = (
    lists_fit l work counts,
    (
      differ_fit l counts,
      parts_fit (key_rows l given) _ (key_reasons l given) _ (key_fits l given)
          (parts_fit (valued l key value) _ (value_reasons l value new) _ (value_fits l key value)
          again_fits),
    ),
  )

  -- "25, counts differ, new in demand 3's list for a store with counts": the answer's number is n
  -- exactly where n is the number of the first reason that applies, or n is 0 and none applies
  pub store_counts_number_exactly : Accepted l → (n : ℕ)
      → ((store_counts_of l work given value counts).numbers.number ≡ n)
      ↔ FirstApplies (store_counts_reasons l work given value counts) n
  unfolding store_counts_of done_numbers
  store_counts_number_exactly a n =
      heard_exactly rows (store_counts_reasons l work given value counts) _ _
      (accepted_order l work given value counts a) store_fits refl n

  abbrev number : ℕ
  number = (store_counts_of l work given value counts).numbers.number

  -- with a list that is too short it is 5, else 25, 0, one of 9 to 13, or 5 again
  pub store_counts_numbers_lem : Accepted l
      → ((length work < (head_of l).g + 1) ⊎ (length counts < (head_of l).g + 1) → number ≡ 5)
      × ((head_of l).g + 1 ≤ length work → (head_of l).g + 1 ≤ length counts
      → among number (25 ∷ 0 ∷ 9 ∷ 10 ∷ 11 ∷ 12 ∷ 13 ∷ 5 ∷ []) ≡ true)
  unfolding store_counts_reasons
  store_counts_numbers_lem a = (
    λ few. (store_counts_number_exactly a 5).1 (inl (few, refl)),
    λ lent long. ⊎_elim
        (λ f. absurd (⊎_elim (λ b. omega arith) (λ b. omega arith) f.0))
        (λ f. with_25 l value new counts given number f.1)
        ((store_counts_number_exactly a number).0 refl),
  )

  -- ---- its place

  abbrev place : ℕ
  place = (store_counts_of l work given value counts).numbers.place

  -- the row that it gives
  abbrev row : Row
  row = first (store_counts_order l work given value counts)

  rest_no_places : NoPlaces rest
  unfolding row5again
  rest_no_places =
      no_places_parts (key_rows l given) _ (key_no_places l given)
      (no_places_parts (valued l key value) _ (value_no_places l key value)
      (when_no_place 5 (ltb (length counts) ((head_of l).g + new + 1)), tt))

  -- it is 25's, or it names no place
  row_place : Accepted l → (row ≡ row25 l counts) ⊎ NoPlace row
  unfolding row5
  row_place a =
      let e = accepted_order l work given value counts a in
      rw e
      (second_place (row5 (head_of l) (length (usable work counts))) (row25 l counts) rest
      (when_no_place 5 (ltb (length (usable work counts)) ((head_of l).g + 1))) rest_no_places)

  -- where the number is 25, it is 25's
  row_25 : Accepted l → number ≡ 25 → row ≡ row25 l counts
  unfolding store_counts_reasons
  row_25 a z = accepted_order l work given value counts a
      ∙ ⊎_elim (λ f. let w : ◌≡◌ {A = ℕ} 25 5 = f.1 in absurd (omega arith))
      (λ f. first_none _ _ (fits_none _ _ (lists_fit l work counts) f.0)
      ∙ ⊎_elim (λ g. first_alone _ _ rest (differ_fit l counts) g.0)
      (λ g. absurd (not_25 l value new counts given g.1)) f.1)
      ((store_counts_number_exactly a 25).0 z)

  -- "place the lowest such node" where the number is 25, else the place is 0
  pub store_counts_place : Accepted l
      → (number ≡ 25 → LowestOf (DifferentAt l counts) place) × (number ≢ 25 → place ≡ 0)
  unfolding store_counts_of done_numbers
  store_counts_place a = (
    λ z. (heard_25 l counts row _ _ (row_25 a z) refl refl).0 z,
    λ other. ⊎_elim (λ e. (heard_25 l counts row _ _ e refl refl).1 other)
        (λ named. heard_no_place row _ _ named refl) (row_place a),
  )
