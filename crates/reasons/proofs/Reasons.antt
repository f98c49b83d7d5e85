-- Demand 3, "each exactly when 01 says": the number that a store answers on an accepted image is
-- that of the first reason that applies. Each row of its order is given exactly where its reason
-- applies, and has the reason's number, so the first row that is given is the first such reason.
use Prim.Native.Nat.{ℕ, ◌+◌, ◌-◌, ◌*◌, ◌^◌, ◌≤◌, ◌<◌}
use mathlib.Core.Path.{◌≡◌, refl}
use mathlib.Core.Logic.{◌↔◌, inl, ⊎_elim}
use mathlib.Core.Bool.{Bool, true, false, ◌&&◌, cond}
use mathlib.Core.List.{List, [], ◌∷◌, ◌++◌}
use native.Mathlib.Omega.{arith}
use lib.Dec.{ltb, eqb}
use lib.ListN.{length}
use lib.Seq.{sets}
use borrow.Author.Tests.{ltb-true, lt-ltb}
use Rattle.field.proofs.Range.{both}
use Rattle.head.specs.declared.Head.{Head}
use Rattle.head.specs.Fields.{head_of, node_width, used_len}
use Rattle.alphabet.specs.Letters.{among}
use Rattle.node.specs.Writes.{Write, noted}
use Rattle.paper.specs.Hearing.{Row, Outcome, row_when, first, outcome, done_numbers}
use Rattle.paper.specs.Rows.{row5, row11, row12, row13}
use Rattle.paper.specs.Given.{Given, as_letters, as_text, key_in}
use Rattle.paper.specs.Orders.{key_rows, adding_rows, new_of, store_order}
use Rattle.paper.specs.Calls.{writes_in, store_of, with_writes, store_writes_of}
use Rattle.paper.specs.Accepted.{Accepted}
use Rattle.reasons.specs.Reasons.{◌when◌, FirstApplies, key_reasons, value_reasons}
use Rattle.reasons.specs.Reasons.{store_reasons}
use Rattle.paper.proofs.StoreCall.{valued, accepted_order, writes_number}
use Rattle.reasons.proofs.FirstReason.{NumbersAmong, first_among, Fits, AllFit, parts_fit}
use Rattle.reasons.proofs.FirstReason.{when_fits, heard_exactly, NoPlace, NoPlaces}
use Rattle.reasons.proofs.FirstReason.{no_places_parts, when_no_place, first_no_place}
use Rattle.reasons.proofs.FirstReason.{heard_no_place}
use Rattle.reasons.proofs.KeyReasons.{key_fits, key_no_places}

-- ---- 11, 12 and 13

-- a test "with k above 0"
new_fits : (number k most x : ℕ)
    → Fits (row_when number 0 (ltb 0 k && ltb most x)) (number when ((most < x) × (0 < k)))
new_fits number k most x =
    when_fits number 0 (ltb 0 k && ltb most x)
    (λ e. let (a, b) = both (ltb 0 k) (ltb most x) e in (ltb-true most x b, ltb-true 0 k a))
    (λ s. rw (lt-ltb 0 k s.1, lt-ltb most x s.0))

pub value_fits : (l key : List ℕ) (value : ℕ) → AllFit (valued l key value)
    (value_reasons l value (new_of (head_of l) l key value))
unfolding adding_rows row11 row12 row13 value_reasons
value_fits l key value =
    let h : Head = head_of l in
    let k : ℕ = new_of h l key value in (
      when_fits 11 0 (ltb (256 ^ h.d - 1) value) (ltb-true (256 ^ h.d - 1) value)
          (lt-ltb (256 ^ h.d - 1) value),
      (
        new_fits 12 k (256 ^ h.a - 1) (h.g + k),
        (new_fits 13 k (length l) (used_len h + k * node_width h), tt),
      ),
    )

pub value_no_places : (l key : List ℕ) (value : ℕ) → NoPlaces (valued l key value)
unfolding adding_rows row11 row12 row13
value_no_places l key value =
    let h : Head = head_of l in
    let k : ℕ = new_of h l key value in (
      when_no_place 11 (ltb (256 ^ h.d - 1) value),
      (
        when_no_place 12 (ltb 0 k && ltb (256 ^ h.a - 1) (h.g + k)),
        (when_no_place 13 (ltb 0 k && ltb (length l) (used_len h + k * node_width h)), tt),
      ),
    )

-- ---- a store on an accepted image

pub five_fits : (lent most : ℕ) → Fits (row_when 5 0 (ltb lent most)) (5 when (lent < most))
five_fits lent most = when_fits 5 0 (ltb lent most) (ltb-true lent most) (lt-ltb lent most)

-- the numbers from 9 on
after_five : (l : List ℕ) (given : Given) (value k : ℕ)
    → NumbersAmong (9 ∷ 10 ∷ 11 ∷ 12 ∷ 13 ∷ []) (key_reasons l given ++ value_reasons l value k)
unfolding key_reasons value_reasons among
after_five l (as_letters key) value k = (refl, (refl, (refl, (refl, (refl, tt)))))
after_five l (as_text text) value k = (refl, (refl, (refl, (refl, (refl, tt)))))

module _ (l work : List ℕ) (given : Given) (value : ℕ) where
  -- 5 and 9 to 13, the order of a store on an accepted image
  abbrev rows : List Row
  rows = row5 (head_of l) (length work) ∷ (key_rows l given ++ valued l (key_in l given) value)

  store_fits : AllFit rows (store_reasons l work given value)
  unfolding store_reasons row5
  store_fits = (
    five_fits (length work) ((head_of l).g + 1),
    parts_fit (key_rows l given) (valued l (key_in l given) value) (key_reasons l given) _
        (key_fits l given) (value_fits l (key_in l given) value),
  )

  -- "each exactly when 01 says": the answer's number is n exactly where n is the number of the
  -- first reason that applies, or n is 0 and none applies
  pub store_number_exactly : Accepted l → (n : ℕ)
      → ((store_of l work given value).numbers.number ≡ n)
      ↔ FirstApplies (store_reasons l work given value) n
  unfolding store_of done_numbers
  store_number_exactly a n =
      heard_exactly rows (store_reasons l work given value) _ _
      (accepted_order l work given value a) store_fits refl n

  -- with too few working numbers it is 5, else one of 0 and 9 to 13
  pub store_numbers_lem : Accepted l
      → (length work < (head_of l).g + 1 → (store_of l work given value).numbers.number ≡ 5)
      × ((head_of l).g + 1 ≤ length work
      → among (store_of l work given value).numbers.number
      (0 ∷ 9 ∷ 10 ∷ 11 ∷ 12 ∷ 13 ∷ []) ≡ true)
  unfolding store_reasons
  store_numbers_lem a = (
    λ few. (store_number_exactly a 5).1 (inl (few, refl)),
    λ lent. ⊎_elim (λ f. absurd (omega (arith, f.0)))
        (λ f. first_among (9 ∷ 10 ∷ 11 ∷ 12 ∷ 13 ∷ [])
        (key_reasons l given ++ value_reasons l value k) number (after_five l given value k) f.1)
        ((store_number_exactly a number).0 refl),
  )
    where
      k : ℕ
      k = new_of (head_of l) l (key_in l given) value

      number : ℕ
      number = (store_of l work given value).numbers.number

  none_named : NoPlaces rows
  unfolding row5
  none_named = (
    when_no_place 5 (ltb (length work) ((head_of l).g + 1)),
    no_places_parts (key_rows l given) (valued l (key_in l given) value) (key_no_places l given)
        (value_no_places l (key_in l given) value),
  )

  -- and the place is 0
  pub store_place : Accepted l → (store_of l work given value).numbers.place ≡ 0
  unfolding store_of done_numbers
  store_place a =
      let named : NoPlace (first (store_order l work given value)) =
      rw (accepted_order l work given value a) (first_no_place rows none_named) in
      heard_no_place _ _ _ named refl

-- ---- a store with writes

-- its place is the store's
writes_place : (ws : List Write) (list : List ℕ) (o : Outcome) → o.numbers.place ≡ 0
    → (with_writes ws list o).numbers.place ≡ 0
unfolding with_writes done_numbers
writes_place ws list o z = go (eqb o.numbers.number 0)
  where
    go : (b : Bool)
        → (cond b (outcome (done_numbers (length ws) o.numbers.change 0)
        (o.lent ++ (sets list 0 (noted ws) ∷ [])))
        (outcome o.numbers (o.lent ++ (list ∷ [])))).numbers.place
        ≡ 0
    go true = refl
    go false = z

module _ (l work : List ℕ) (given : Given) (value : ℕ) (list : List ℕ) where
  same : (store_writes_of l work given value list).numbers.number
      ≡ (store_of l work given value).numbers.number
  unfolding store_writes_of
  same = writes_number (writes_in l (key_in l given) value) list (store_of l work given value)

  pub store_writes_number_exactly : Accepted l → (n : ℕ)
      → ((store_writes_of l work given value list).numbers.number ≡ n)
      ↔ FirstApplies (store_reasons l work given value) n
  store_writes_number_exactly a n = rw same (store_number_exactly l work given value a n)

  pub store_writes_numbers : Accepted l
      → (length work < (head_of l).g + 1 → (store_writes_of l work given value list).numbers.number
      ≡ 5)
      × ((head_of l).g + 1 ≤ length work
      → among (store_writes_of l work given value list).numbers.number
      (0 ∷ 9 ∷ 10 ∷ 11 ∷ 12 ∷ 13 ∷ []) ≡ true)
  store_writes_numbers a = rw same (store_numbers_lem l work given value a)

  pub store_writes_place : Accepted l → (store_writes_of l work given value list).numbers.place ≡ 0
  unfolding store_writes_of
  store_writes_place a = writes_place (writes_in l (key_in l given) value) list
      (store_of l work given value) (store_place l work given value a)
