-- 02, Ask 7, on the counts alone: when 25 is given and at which node, that the counts worked out
-- are right, and for which images and lists working out and the check with counts are done. Each
-- law follows the rows; the check's part is the theorem on `Accepted`.
use Prim.Native.Nat.{ℕ, ◌+◌, ◌≤◌, ◌<◌}
use mathlib.Core.Path.{◌≡◌, refl, sym, ◌∙◌, ap}
use mathlib.Core.Logic.{◌↔◌, ◌≢◌, inr}
use mathlib.Core.Bool.{Bool, true, false, not}
use mathlib.Core.Option.{none, some}
use mathlib.Core.List.{List, [], ◌∷◌}
use native.Mathlib.Decide.{dec_le}
use native.Mathlib.Omega.{arith}
use lib.Dec.{ltb, eqb}
use lib.IntN.{pos}
use lib.ListN.{length, get_or, drop, get_or-append}
use lib.Seq.{length-sets, sets-eq, ext_get_or}
use borrow.Author.Tests.{ltb-true, eqb-true, eqb-false, eq-eqb, not-true, not-false}
use Rattle.field.proofs.Sets.{get_d_outside}
use Rattle.trie.proofs.Lowest.{lowest_found}
use Rattle.trie.specs.Lowest.{lowest}
use Rattle.head.specs.Fields.{head_of}
use Rattle.alphabet.specs.Letters.{among}
use Rattle.passing.proofs.Reached.{each_length, each_at}
use Rattle.paper.specs.Hearing.{Said, Row, Outcome, row_when, first, heard, outcome, done_numbers}
use Rattle.paper.specs.Rows.{row_when_lowest}
use Rattle.paper.specs.Calls.{work_after}
use Rattle.paper.specs.Accepted.{Accepted}
use Rattle.paper.proofs.Hearing.{untrue, first_nil, first_none, second_part, heard_done, kept_lent}
use Rattle.paper.proofs.Numbers.{first_says, none_heard}
use Rattle.paper.proofs.CheckCall.{checked, check_accepts, accepted_checks, checking_says}
use Rattle.paper.proofs.Linking.{lowest_passed, passed_lowest}
use Rattle.position.specs.Counts.{count_in, counts_in, row25, RightCounts}
use Rattle.position.specs.Orders.{usable, counts_order, check_counts_order}
use Rattle.position.specs.Calls.{work_left, worked, counts_of, check_counts_of}
use Rattle.position.proofs.Plain.{both_lent, work_left_lem, counts_say, counts_checked}

-- ---- 25

module _ (l counts : List ℕ) where
  -- does the list hold another number for a node than its count?
  abbrev differs : ℕ → Bool
  differs q = not (eqb (get_or counts q 0) (count_in l q))

  pub none_25 : (row25 l counts ≡ none)
      ↔ ((q : ℕ) → q ≤ (head_of l).g → get_or counts q 0 ≡ count_in l q)
  unfolding row25
  none_25 = (
    λ e q b.
        let same = passed_lowest 25 differs 0 ((head_of l).g + 1) e q (omega arith) (omega arith)
        in
        eqb-true (get_or counts q 0) (count_in l q) (not-false _ same),
    λ f. lowest_passed 25 differs 0 ((head_of l).g + 1)
        (λ q _ b. untrue (eq-eqb (get_or counts q 0) (count_in l q) (f q (omega arith)))),
  )

  -- "25, counts differ, .. place the lowest such node"
  pub says_25 : {s : Said} → row25 l counts ≡ some s
      → (s.number ≡ 25)
      × (s.place ≤ (head_of l).g)
      × (get_or counts s.place 0 ≢ count_in l s.place)
      × ((q : ℕ) → q < s.place → get_or counts q 0 ≡ count_in l q)
  unfolding row25 row_when_lowest row_when
  says_25 {s} e = go (ltb low (0 + ((head_of l).g + 1))) refl e
    where
      low : ℕ
      low = lowest differs 0 ((head_of l).g + 1)

      go : (b : Bool) → ltb low (0 + ((head_of l).g + 1)) ≡ b → row_when 25 low b ≡ some s
          → (s.number ≡ 25)
          × (s.place ≤ (head_of l).g)
          × (get_or counts s.place 0 ≢ count_in l s.place)
          × ((q : ℕ) → q < s.place → get_or counts q 0 ≡ count_in l q)
      go true f m =
          let number : 25 ≡ s.number = cc in
          let at : low ≡ s.place = cc in
          let high : low < 0 + ((head_of l).g + 1) = ltb-true low (0 + ((head_of l).g + 1)) f in
          let found = lowest_found differs 0 ((head_of l).g + 1) high in
          let wrong : differs s.place ≡ true = sym (ap differs at) ∙ found.0 in (
            sym number,
            omega arith,
            eqb-false (get_or counts s.place 0) (count_in l s.place) (not-true _ wrong),
            λ q b. eqb-true (get_or counts q 0) (count_in l q)
                (not-false _ (found.1 q (omega arith) (omega arith))),
          )
      go false f m = let z : ◌≡◌ {A = ℕ} 0 1 = cc in absurd (omega arith)

-- ---- the counts worked out

pub counts_length : (l : List ℕ) → length (counts_in l) ≡ (head_of l).g + 1
unfolding counts_in
counts_length l = each_length (count_in l) 0 ((head_of l).g + 1)

module _ (l counts : List ℕ) where
  pub worked_length : length (worked l counts) ≡ length counts
  unfolding worked
  worked_length = length-sets counts 0 (counts_in l)

  -- "the rest keep what they held"
  pub worked_rest : (q : ℕ) → (head_of l).g < q → get_or (worked l counts) q 0 ≡ get_or counts q 0
  unfolding worked
  worked_rest q b = get_d_outside counts (counts_in l) 0 q 0 (inr (omega (arith, counts_length l)))

  pub worked_at : (head_of l).g + 1 ≤ length counts → (q : ℕ) → q ≤ (head_of l).g
      → get_or (worked l counts) q 0 ≡ count_in l q
  unfolding worked counts_in
  worked_at long q b =
      let e = counts_length l in
      ap (λ (r : List ℕ). get_or r q 0) (sets-eq (counts_in l) counts 0 (omega arith))
      ∙ get_or-append (counts_in l) (drop (0 + length (counts_in l)) counts) 0 q (omega arith)
      ∙ each_at (count_in l) 0 ((head_of l).g + 1) q (omega arith)
      ∙ ap (count_in l) (omega arith)

  pub worked_right : (head_of l).g + 1 ≤ length counts → RightCounts l (worked l counts)
  worked_right long = record { long = omega (arith, worked_length); each = worked_at long }

  -- working out right counts changes none of them
  pub right_worked : RightCounts l counts → worked l counts ≡ counts
  right_worked r =
      ext_get_or 0 (worked l counts) counts worked_length (λ q _. go q (dec_le q (head_of l).g))
    where
      go : (q : ℕ) → Dec (q ≤ (head_of l).g) → get_or (worked l counts) q 0 ≡ get_or counts q 0
      go q (yes b) = worked_at r.long q b ∙ sym (r.each q b)
      go q (no b) = worked_rest q (omega arith)

-- ---- the calls

module _ (l work counts : List ℕ) where
  -- in an accepted image, with lists that are long enough, the check's rows pass
  pub works_out : Accepted l → (head_of l).g + 1 ≤ length work → (head_of l).g + 1 ≤ length counts
      → first (counts_order l work counts) ≡ none
  unfolding counts_order
  works_out a lent long =
      accepted_checks l (usable work counts) a ((both_lent l work counts).1 (lent, long))

  pub counts_passed : (counts_of l work counts).numbers.number ≡ 0
      → first (counts_order l work counts) ≡ none
  unfolding counts_of counts_order among
  counts_passed z = none_heard _ _ (first_says (checking_says l (usable work counts))) refl z

  pub counts_exactly : ((counts_of l work counts).numbers.number ≡ 0)
      ↔ (((head_of l).g + 1 ≤ length work) × ((head_of l).g + 1 ≤ length counts) × Accepted l)
  unfolding counts_of counts_order done_numbers
  counts_exactly = (
    λ z.
        let e = counts_passed z in
        let both = (both_lent l work counts).0 (checked l (usable work counts) e).lent in
        (both.0, both.1, check_accepts l (usable work counts) e),
    λ s. ap (λ (o : Outcome). o.numbers.number)
        (heard_done _ _ _ (works_out s.2 s.0 s.1)),
  )

  pub counts_leaves : (counts_of l work counts).numbers.number ≡ 0
      → counts_of l work counts ≡ outcome (done_numbers 0 (pos 0) 0)
      (work_after l work ∷ worked l counts ∷ [])
  unfolding counts_of counts_order
  counts_leaves z =
      let e = counts_passed z in
      heard_done _ _ _ e
      ∙ ap (λ (w : List ℕ). outcome (done_numbers 0 (pos 0) 0) (w ∷ worked l counts ∷ []))
      (work_left_lem l work counts e).0

  pub counts_kept : (counts_of l work counts).numbers.number ≢ 0 → (counts_of l work counts).lent
      ≡ work_left l work counts ∷ counts ∷ []
  unfolding counts_of done_numbers
  counts_kept z =
      kept_lent (first (counts_order l work counts)) (work_left l work counts ∷ counts ∷ []) _
      refl z

  -- with right counts, 25 is passed too
  pub checks_counts : Accepted l → (head_of l).g + 1 ≤ length work → RightCounts l counts
      → first (check_counts_order l work counts) ≡ none
  unfolding check_counts_order
  checks_counts a lent r =
      second_part (counts_order l work counts) (row25 l counts ∷ []) (works_out a lent r.long)
      ∙ first_none (row25 l counts) [] ((none_25 l counts).1 r.each)
      ∙ first_nil

  pub check_counts_passed : (check_counts_of l work counts).numbers.number ≡ 0
      → first (check_counts_order l work counts) ≡ none
  unfolding check_counts_of among
  check_counts_passed z = none_heard _ _ (first_says (counts_say l work counts)) refl z

  pub check_counts_exactly : ((check_counts_of l work counts).numbers.number ≡ 0)
      ↔ (((head_of l).g + 1 ≤ length work) × Accepted l × RightCounts l counts)
  unfolding check_counts_of done_numbers
  check_counts_exactly = (
    λ z.
        let c = counts_checked l work counts (check_counts_passed z) in
        (c.lent, c.accepted, record { long = c.listed; each = (none_25 l counts).0 c.same }),
    λ s. ap (λ (o : Outcome). o.numbers.number)
        (heard_done _ _ _ (checks_counts s.1 s.0 s.2)),
  )

  -- done or refused, the check with counts writes the working numbers alone
  pub check_counts_kept : (check_counts_of l work counts).lent ≡ work_left l work counts ∷ []
  unfolding check_counts_of heard
  check_counts_kept = go (first (check_counts_order l work counts))
    where
      go : (r : Row) → (heard r (work_left l work counts ∷ [])
          (outcome (done_numbers 0 (pos 0) 0) (work_left l work counts ∷ []))).lent
          ≡ work_left l work counts ∷ []
      go none = refl
      go (some s) = refl

-- counts that were worked out pass the check with counts
pub counts_then_check : (l work counts : List ℕ) → (counts_of l work counts).numbers.number ≡ 0
    → (work₂ : List ℕ) → (head_of l).g + 1 ≤ length work₂
    → (check_counts_of l work₂ (worked l counts)).numbers.number ≡ 0
counts_then_check l work counts z work₂ lent =
    let (_, long, a) = (counts_exactly l work counts).0 z in
    (check_counts_exactly l work₂ (worked l counts)).1 (lent, a, worked_right l counts long)
