-- 02, Ask 7, on stores: a store with counts is done exactly where the plain store is, the counts
-- are right and they are long enough for the new nodes; it leaves right counts, changed on the
-- key's path alone; and for which reasons it is refused. With right counts its order is the plain
-- store's but for the second 5. What a store does to the counts is the law on tables (`Shifted`).
use Prim.Native.Nat.{ℕ, ◌+◌, ◌≤◌, ◌<◌}
use mathlib.Core.Path.{◌≡◌, refl, sym, ◌∙◌, ap, ap₂, subst}
use mathlib.Core.Logic.{◌↔◌, ◌≢◌}
use mathlib.Core.Bool.{true, false, ◌||◌, true≢false, or-false}
use mathlib.Core.Option.{none, some}
use mathlib.Core.List.{List, [], ◌∷◌, ◌++◌, append_assoc}
use native.Mathlib.Decide.{dec_le}
use native.Mathlib.Omega.{arith}
use lib.Dec.{ltb}
use lib.ListN.{length, get_or}
use borrow.Author.Tests.{lt-ltb, le-ltb, ltb-false}
use Rattle.field.proofs.Range.{between_true}
use Rattle.trie.specs.Table.{Table, answer}
use Rattle.trie.specs.Storing.{change_of}
use Rattle.head.specs.declared.Head.{Head}
use Rattle.head.specs.Fields.{head_of}
use Rattle.node.specs.Image.{table_of}
use Rattle.alphabet.specs.Letters.{or_empty}
use Rattle.passing.specs.Passing.{passes, count_at}
use Rattle.passing.proofs.Shifted.{stored_counts_off}
use Rattle.passing.proofs.Added.{stored_new_passes}
use Rattle.paper.specs.Hearing.{Row, Numbers, Outcome, row_when, first, heard, outcome}
use Rattle.paper.specs.Hearing.{done_numbers}
use Rattle.paper.specs.Rows.{row5}
use Rattle.paper.specs.Given.{Given, meant_in, key_in}
use Rattle.paper.specs.Orders.{opening_rows_of, node_rows, check_order, key_rows, new_of}
use Rattle.paper.specs.Orders.{store_order}
use Rattle.paper.specs.Calls.{table_in, work_after, stored_image, store_of}
use Rattle.paper.specs.Accepted.{Accepted}
use Rattle.paper.specs.Granted.{Granted}
use Rattle.paper.proofs.Hearing.{was_false, first_nil, first_none, yes_row, no_row}
use Rattle.paper.proofs.Hearing.{first_part, second_part, silent_end}
use Rattle.paper.proofs.Hearing.{heard_done}
use Rattle.paper.proofs.CheckCall.{accepted_opens, accepted_linked}
use Rattle.paper.proofs.StoreCall.{stored_head, stored_table, accepted_again, valued}
use Rattle.paper.proofs.StoreCall.{order_passed}
use Rattle.paper.proofs.StoreCall.{store_passed, store_granted, store_means, store_done_exactly}
use Rattle.position.specs.Counts.{count_in, row25, row5again, RightCounts}
use Rattle.position.specs.Orders.{usable, counts_order, check_counts_order, store_counts_order}
use Rattle.position.specs.Calls.{work_left, worked, check_counts_of, store_counts_of}
use Rattle.position.proofs.Plain.{both_lent, five_either, store_order_lem}
use Rattle.position.proofs.Plain.{store_counts_passed, store_counts_plain}
use Rattle.position.proofs.Right.{none_25, worked_at, worked_rest, worked_right}
use Rattle.position.proofs.Right.{works_out, checks_counts, check_counts_exactly}

-- ---- the number of an answer

-- the numbers of an answer do not depend on what is kept
same_numbers : (r : Row) (kept kept' : List (List ℕ)) (done done' : Outcome) → done.numbers
    ≡ done'.numbers
    → (heard r kept done).numbers ≡ (heard r kept' done').numbers
unfolding heard
same_numbers none kept kept' done done' e = e
same_numbers (some s) kept kept' done done' e = refl

-- where the counts are long enough, 5 depends on the working numbers alone
same_check : (l work counts : List ℕ) → (head_of l).g + 1 ≤ length counts
    → counts_order l work counts
    ≡ check_order l work
unfolding counts_order check_order row5
same_check l work counts long =
    let h : Head = head_of l in
    let same : row5 h (length (usable work counts)) ≡ row5 h (length work) =
    five_either h work counts
    ∙ ap (row_when 5 0)
    (ap (ltb (length work) (h.g + 1) ||◌) (le-ltb (length counts) (h.g + 1) long)
    ∙ or-false (ltb (length work) (h.g + 1))) in
    ap (λ (r : Row). opening_rows_of l ++ (r ∷ node_rows h (table_of h l))) same

module _ (l work : List ℕ) (given : Given) (value : ℕ) (counts : List ℕ) where
  abbrev key : List ℕ
  key = key_in l given

  abbrev new : ℕ
  new = new_of (head_of l) l key value

  abbrev image : List ℕ
  image = stored_image l key value

  -- 9 to 13, and 5 again
  abbrev rest : List Row
  rest = key_rows l given ++ (valued l key value ++
      (row5again (head_of l) new (length counts) ∷ []))

  -- ---- where a store with counts is done

  -- with right counts: where the plain store is done, only the second 5 can refuse
  module _ (right : RightCounts l counts) (done : (store_of l work given value).numbers.number ≡ 0)
    where
      left_5 : first (store_counts_order l work given value counts)
          ≡ first (row5again (head_of l) new (length counts) ∷ [])
      unfolding store_counts_order
      left_5 =
          let (_, keys, values) =
          order_passed l work given value (store_passed l work given value done) in
          let granted = store_granted l work given value done in
          let lent = ((store_done_exactly l work given value).0 done).0 in
          second_part (check_counts_order l work counts) rest
          (checks_counts l work counts granted.accepted lent right)
          ∙ second_part (key_rows l given)
          (valued l key value ++ (row5again (head_of l) new (length counts) ∷ [])) keys
          ∙ second_part (valued l key value) (row5again (head_of l) new (length counts) ∷ [])
          values

      done_too : (head_of l).g + new + 1 ≤ length counts
          → (store_counts_of l work given value counts).numbers.number ≡ 0
      unfolding store_counts_of row5again done_numbers
      done_too long =
          ap (λ (o : Outcome). o.numbers.number)
          (heard_done _ _ _ (left_5 ∙ no_row 5 0 []
          (le-ltb (length counts) ((head_of l).g + new + 1) long) ∙ first_nil))

  -- what is known where a store with counts is done
  long_enough : (store_counts_of l work given value counts).numbers.number ≡ 0
      → (head_of l).g + new
      + 1 ≤ length counts
  unfolding row5again
  long_enough z =
      let p = store_order_lem l work given value counts
      (store_counts_passed l work given value counts z) in
      ltb-false (length counts) ((head_of l).g + new + 1) (was_false 5 0 _ p.again)

  were_right : (store_counts_of l work given value counts).numbers.number ≡ 0
      → RightCounts l counts
  were_right z =
      let c = (store_order_lem l work given value counts
      (store_counts_passed l work given value counts z)).counts_passed in
      record { long = c.listed; each = (none_25 l counts).0 c.same }

  is_granted : (store_counts_of l work given value counts).numbers.number ≡ 0 → Granted l key value
  is_granted z =
      store_granted l work given value (store_counts_plain l work given value counts z).0

  pub store_counts_done_exactly : ((store_counts_of l work given value counts).numbers.number ≡ 0)
      ↔ (((head_of l).g + 1 ≤ length work)
      × RightCounts l counts
      × (k : List ℕ)
      × (meant_in l given ≡ some k)
      × Granted l k value
      × ((head_of l).g + new_of (head_of l) l k value + 1 ≤ length counts))
  unfolding key_in or_empty
  store_counts_done_exactly = (
    λ z.
        let plain = (store_counts_plain l work given value counts z).0 in (
          ((store_done_exactly l work given value).0 plain).0,
          were_right z,
          key,
          store_means l work given value plain,
          is_granted z,
          long_enough z,
        ),
    λ s.
        let (lent, right, k, meant, granted, long) = s in
        let same : k ≡ key = sym (ap or_empty meant) in
        let fits : (head_of l).g + new + 1 ≤ length counts =
        subst (λ (j : List ℕ). (head_of l).g + new_of (head_of l) l j value + 1 ≤ length counts)
        same
        long in
        done_too right ((store_done_exactly l work given value).1 (lent, k, meant, granted)) fits,
  )

  -- ---- the counts after the store

  module _ (z : (store_counts_of l work given value counts).numbers.number ≡ 0) where
    new_total : (head_of image).g ≡ (head_of l).g + new
    new_total = ap (λ (h : Head). h.g) (stored_head (is_granted z))

    lasts : (head_of image).g + 1 ≤ length counts
    lasts = omega (arith, new_total, long_enough z)

    -- "the result equals the counts worked out afresh"
    pub store_counts_right : RightCounts image (worked image counts)
    store_counts_right = worked_right image counts lasts

    pub store_counts_again : (work₂ : List ℕ) → (head_of image).g + 1 ≤ length work₂
        → (check_counts_of image work₂ (worked image counts)).numbers.number ≡ 0
    store_counts_again work₂ lent =
        (check_counts_exactly image work₂ (worked image counts)).1
        (lent, accepted_again (is_granted z), store_counts_right)

    -- the count of an old node off the key's path stays
    count_stays : (q : ℕ) → passes (table_in image) q 0 key ≡ false → count_in image q
        ≡ count_in l q
    unfolding count_in
    count_stays q off =
        let s = is_granted z in
        let t = stored_table s in
        let (low, high) =
        between_true (length key) (head_of l).min (head_of l).max s.fit.allowed in
        ap₂ (λ (h : Head) (t : Table). count_at t h.n h.min h.max q) (stored_head s) t
        ∙ stored_counts_off (accepted_linked s.accepted) key s.fit.below value
        (head_of l).min (head_of l).max low high q
        (subst (λ (t : Table). passes t q 0 key ≡ false) t off)

    -- a new node is on the key's path
    new_on_path : (q : ℕ) → (head_of l).g < q → q ≤ (head_of l).g + new
        → passes (table_in image) q 0 key ≡ true
    unfolding new_of table_in
    new_on_path q low high =
        let s = is_granted z in
        ap (λ (t : Table). passes t q 0 key) (stored_table s)
        ∙ stored_new_passes (accepted_linked s.accepted) key s.fit.below value q low high

    -- "A store changes counts only on the key's path and at the new nodes"
    pub store_counts_path : (q : ℕ) → passes (table_in image) q 0 key ≡ false
        → get_or (worked image counts) q 0 ≡ get_or counts q 0
    store_counts_path q off = go (dec_le q (head_of l).g) (dec_le q ((head_of l).g + new))
      where
        go : Dec (q ≤ (head_of l).g) → Dec (q ≤ (head_of l).g + new)
            → get_or (worked image counts) q 0
            ≡ get_or counts q 0
        go (yes old) b =
            worked_at image counts lasts q (omega (arith, new_total)) ∙ count_stays q off
            ∙ sym ((were_right z).each q old)
        go (no later) (yes b) = absurd (true≢false (sym (new_on_path q (omega arith) b) ∙ off))
        go (no later) (no past) = worked_rest image counts q (omega (arith, new_total))

  -- ---- its refusals

  abbrev five : Row
  five = row5 (head_of l) (length (usable work counts))

  -- in an accepted image the order is 5, then 25, then 9 to 13 and the second 5
  pub accepted_order : Accepted l → first (store_counts_order l work given value counts)
      ≡ first (five ∷ row25 l counts ∷ rest)
  unfolding store_counts_order check_counts_order counts_order check_order row5
  accepted_order a = go (dec_le ((head_of l).g + 1) (length (usable work counts)))
    where
      go : Dec ((head_of l).g + 1 ≤ length (usable work counts))
          → first (store_counts_order l work given value counts)
          ≡ first (five ∷ row25 l counts ∷ rest)
      go (yes b) =
          let both = (both_lent l work counts).0 b in
          ap first (append_assoc (counts_order l work counts) (row25 l counts ∷ []) rest)
          ∙ second_part (counts_order l work counts) (row25 l counts ∷ rest)
          (works_out l work counts a both.0 both.1)
          ∙ sym (no_row 5 0 (row25 l counts ∷ rest)
          (le-ltb (length (usable work counts)) ((head_of l).g + 1) b))
      go (no b) =
          let few : ltb (length (usable work counts)) ((head_of l).g + 1) ≡ true =
          lt-ltb (length (usable work counts)) ((head_of l).g + 1) (omega arith) in
          first_part (check_counts_order l work counts) rest
          (first_part (counts_order l work counts) (row25 l counts ∷ [])
          (second_part (opening_rows_of l) _ (accepted_opens a) ∙ yes_row 5 0 _ few))
          ∙ sym (yes_row 5 0 (row25 l counts ∷ rest) few)

  -- ---- the same numbers as the plain store

  -- 25 and the second 5 are not given, so the plain order decides
  same_order : RightCounts l counts → (head_of l).g + new + 1 ≤ length counts
      → first (store_counts_order l work given value counts)
      ≡ first (store_order l work given value)
  unfolding store_counts_order check_counts_order store_order row5again
  same_order right long =
      ap (λ (c : List Row). first ((c ++ (row25 l counts ∷ [])) ++ rest))
      (same_check l work counts right.long) ∙ go (first c) refl
    where
      c : List Row
      c = check_order l work

      plain : List Row
      plain = key_rows l given ++ valued l key value

      last : List Row
      last = row5again (head_of l) new (length counts) ∷ []

      silent_25 : row25 l counts ≡ none
      silent_25 = (none_25 l counts).1 right.each

      silent_5 : first last ≡ none
      silent_5 = no_row 5 0 [] (le-ltb (length counts) ((head_of l).g + new + 1) long) ∙ first_nil

      go : (r : Row) → first c ≡ r → first ((c ++ (row25 l counts ∷ [])) ++ rest)
          ≡ first (c ++ plain)
      go none e =
          second_part (c ++ (row25 l counts ∷ [])) rest
          (second_part c (row25 l counts ∷ []) e ∙ first_none (row25 l counts) [] silent_25
          ∙ first_nil)
          ∙ ap first (sym (append_assoc (key_rows l given) (valued l key value) last))
          ∙ silent_end plain last silent_5
          ∙ sym (second_part c plain e)
      go (some s) e = first_part (c ++ (row25 l counts ∷ [])) rest
          (first_part c (row25 l counts ∷ []) e) ∙ sym (first_part c plain e)

  pub store_counts_same : RightCounts l counts → (head_of l).g + new + 1 ≤ length counts
      → (store_counts_of l work given value counts).numbers ≡ (store_of l work given value).numbers
  unfolding store_counts_of store_of
  store_counts_same right long =
      let told : Numbers = done_numbers 0 (change_of (answer (table_in l) key) value) 0 in
      let with_counts : List (List ℕ) =
      image ∷ work_left l work counts ∷ worked image counts ∷ [] in
      let without : List (List ℕ) = image ∷ work_after l work ∷ [] in
      let kept : List (List ℕ) = l ∷ work_left l work counts ∷ counts ∷ [] in
      ap (λ (r : Row). (heard r kept (outcome told with_counts)).numbers) (same_order right long)
      ∙ same_numbers (first (store_order l work given value))
      kept (l ∷ work_after l work ∷ []) (outcome told with_counts) (outcome told without) refl
