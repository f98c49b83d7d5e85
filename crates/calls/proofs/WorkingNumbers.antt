-- 01 on the working numbers, for every call. They end as 01 states, refused or done. "No answer
-- depends on what they held": all outcomes have them by their length alone, but for what the rest
-- of them keep.
use Prim.Native.Nat.{ℕ, ◌+◌, ◌-◌, min}
use mathlib.Core.Path.{◌≡◌, refl, sym, ap, subst, ◌∙◌}
use mathlib.Core.Bool.{Bool, true, false}
use mathlib.Core.Option.{none, some}
use mathlib.Core.List.{List, [], ◌∷◌, ◌++◌, map}
use lib.Dec.{eqb}
use lib.IntN.{ℤ}
use lib.ListN.{length, length-take}
use Rattle.head.specs.Fields.{head_of, put_total}
use Rattle.trie.specs.Table.{answer}
use Rattle.trie.specs.Storing.{change_of}
use Rattle.node.specs.Image.{table_of}
use Rattle.node.specs.Writes.{Write}
use Rattle.passing.specs.Passing.{key_at as key_at_place}
use Rattle.paper.specs.Hearing.{Row, Numbers, Outcome, outcome, first, heard, done_numbers}
use Rattle.paper.specs.Hearing.{refused_numbers}
use Rattle.paper.specs.Given.{Given, key_in}
use Rattle.paper.specs.Rows.{row5, row14, row15}
use Rattle.paper.specs.Orders.{opening_rows, opening_rows_of, node_rows, check_order, key_rows}
use Rattle.paper.specs.Orders.{next_rows}
use Rattle.paper.specs.Orders.{new_of, store_order, next_key_order}
use Rattle.paper.specs.Calls.{work_after, fresh_head, make_of, check_of, count_of}
use Rattle.paper.specs.Calls.{stored_keys, store_of}
use Rattle.paper.specs.Calls.{writes_in, with_writes, store_writes_of, can_mend, mend_of, next_in}
use Rattle.paper.specs.Calls.{found_in}
use Rattle.paper.specs.Calls.{next_key_of, table_in, stored_image}
use Rattle.paper.proofs.MendCall.{mend_kept, mend_lowered}
use Rattle.paper.proofs.StoreCall.{valued}
use Rattle.position.specs.Counts.{row25, row5again}
use Rattle.position.specs.Orders.{usable, counts_order, check_counts_order, store_counts_order}
use Rattle.position.specs.Orders.{key_at_order, if_stored, position_order}
use Rattle.position.specs.Calls.{counts_of, check_counts_of, store_counts_of, placed_key}
use Rattle.position.specs.Calls.{key_at_of, position_of}
use Rattle.calls.specs.Call.{Call, make, check, count, look_up, store, store_writes, mend}
use Rattle.calls.specs.Call.{next_key, counts, check_counts, store_counts, key_at, position}
use Rattle.calls.specs.Call.{outcome_of, Buffer, answering, working, working_with, lent_to}
use Rattle.calls.specs.Call.{refused_leaves, work_in, others_in, work_lent, with_work}

-- ---- what is the same whichever way a call ends

-- what holds of both of the contents that a call may leave holds of the one that it leaves
pub either_left : {X : Type 0} (f : List (List ℕ) → X) {x : X} (row : Row) (kept : List (List ℕ))
    (done : Outcome) → f kept ≡ x → f done.lent ≡ x → f (heard row kept done).lent ≡ x
unfolding heard
either_left f none kept done e d = d
either_left f (some s) kept done e d = e

writes_left : {X : Type 0} (f : List (List ℕ) → X) {x : X} (ws : List Write) (list : List ℕ)
    (o : Outcome) → ((last : List ℕ) → f (o.lent ++ (last ∷ [])) ≡ x)
    → f (with_writes ws list o).lent ≡ x
unfolding with_writes
writes_left f {x} ws list o e = go (eqb o.numbers.number 0) refl
  where
    go : (b : Bool) → eqb o.numbers.number 0 ≡ b → f (with_writes ws list o).lent ≡ x
    go true q = rw q (e _)
    go false q = rw q (e _)

-- ---- as 01 states

module _ (l : List ℕ) where
  work_store : (work : List ℕ) (given : Given) (value : ℕ) (list last : List ℕ)
      → work_in (answering l ∷ working work ∷ answering list ∷ [])
      ((store_of l work given value).lent ++ (last ∷ [])) ≡ work_after l work ∷ []
  unfolding store_of work_in
  work_store work given value list last =
      either_left (λ ls. work_in (answering l ∷ working work ∷ answering list ∷ [])
      (ls ++ (last ∷ []))) (first (store_order l work given value)) _ _ refl refl

  work_mend : (work : List ℕ) → work_in (answering l ∷ working work ∷ []) (mend_of l work).lent
      ≡ work_after l work ∷ []
  unfolding work_in
  work_mend work = go (can_mend l (check_of l work).numbers) refl
    where
      go : (b : Bool) → can_mend l (check_of l work).numbers ≡ b
          → work_in (answering l ∷ working work ∷ []) (mend_of l work).lent
          ≡ work_after l work ∷ []
      go true e = ap (λ (o : Outcome). work_in (answering l ∷ working work ∷ []) o.lent)
          (mend_lowered l work e)
      go false e = ap (λ (o : Outcome). work_in (answering l ∷ working work ∷ []) o.lent)
          (mend_kept l work e)

  -- "Once 5 is passed, the first G+1 of them are 0 when the call returns, with the G of entry,
  -- whatever the answer; the rest keep what they held. If the call stops at 5, where its order
  -- first names it, or before that, all keep what they held."
  pub work_ends : (c : Call) → work_in (lent_to l c) (outcome_of l c).lent
      ≡ work_in (lent_to l c) (map (refused_leaves l) (lent_to l c))
  unfolding outcome_of lent_to refused_leaves work_in make_of check_of count_of store_writes_of
      next_key_of
      found_in counts_of check_counts_of store_counts_of key_at_of placed_key position_of
  work_ends (make n a d alphabet least most) =
      either_left (work_in (answering l ∷ []))
      (first (opening_rows (fresh_head n a d alphabet least most) alphabet (length l))) _ _ refl
      refl
  work_ends (check work) =
      either_left (work_in (working work ∷ [])) (first (check_order l work)) _ _ refl refl
  work_ends (count work) =
      either_left (work_in (working work ∷ [])) (first (check_order l work)) _ _ refl refl
  work_ends (look_up given) = refl
  work_ends (store work given value) =
      either_left (work_in (answering l ∷ working work ∷ []))
      (first (store_order l work given value)) _ _ refl refl
  work_ends (store_writes work given value list) =
      writes_left (work_in (answering l ∷ working work ∷ answering list ∷ []))
      (writes_in l (key_in l given) value) list (store_of l work given value)
      (work_store work given value list)
  work_ends (mend work) = work_mend work
  work_ends (next_key work key after buffer) =
      either_left (work_in (working work ∷ answering buffer ∷ []))
      (first (next_key_order l work key (length buffer) (next_in l key after))) _ _ refl refl
  work_ends (counts work tally) =
      either_left (work_in (working_with tally work ∷ answering tally ∷ []))
      (first (counts_order l work tally)) _ _ refl refl
  work_ends (check_counts work tally) =
      either_left (work_in (working_with tally work ∷ []))
      (first (check_counts_order l work tally))
      _ _ refl refl
  work_ends (store_counts work given value tally) =
      either_left (work_in (answering l ∷ working_with tally work ∷ answering tally ∷ []))
      (first (store_counts_order l work given value tally)) _ _ refl refl
  work_ends (key_at work tally at buffer) =
      either_left (work_in (working_with tally work ∷ answering buffer ∷ []))
      (first (key_at_order l work tally at (length buffer))) _ _ refl refl
  work_ends (position work tally given) =
      either_left (work_in (working_with tally work ∷ []))
      (first (position_order l work tally given))
      _ _ refl refl

-- ---- by their length alone

-- the numbers, and the buffers that are not working numbers, of two outcomes are the same
record SameBesides (bs cs : List Buffer) (o p : Outcome) : Type 0 where
  numbers : o.numbers ≡ p.numbers
  others : others_in bs o.lent ≡ others_in cs p.lent

-- a row that is the same, numbers and other buffers that are the same, refused or done
same_heard : (bs cs : List Buffer) {row row' : Row} (kept kept' : List (List ℕ))
    (done done' : Outcome) → row ≡ row' → others_in bs kept ≡ others_in cs kept'
    → done.numbers ≡ done'.numbers → others_in bs done.lent ≡ others_in cs done'.lent
    → SameBesides bs cs (heard row kept done) (heard row' kept' done')
unfolding heard
same_heard bs cs {row} {row'} kept kept' done done' e k n d =
    subst (λ (t : Row). SameBesides bs cs (heard row kept done) (heard t kept' done')) e (go row)
  where
    go : (r : Row) → SameBesides bs cs (heard r kept done) (heard r kept' done')
    go none = record { numbers = n; others = d }
    go (some t) = record { numbers = refl; others = k }

-- the same for a store with writes, whose numbers decide whether the writes are noted
with_same : (l w work : List ℕ) (ws : List Write) (list : List ℕ) (row : Row) (change : ℤ)
    (image a b : List ℕ)
    → SameBesides (answering l ∷ working w ∷ answering list ∷ [])
    (answering l ∷ working work ∷ answering list ∷ [])
    (with_writes ws list (heard row (l ∷ a ∷ []) (outcome (done_numbers 0 change 0)
    (image ∷ a ∷ []))))
    (with_writes ws list (heard row (l ∷ b ∷ []) (outcome (done_numbers 0 change 0)
    (image ∷ b ∷ []))))
unfolding with_writes heard done_numbers refused_numbers others_in
with_same l w work ws list none change image a b = record { numbers = refl; others = refl }
with_same l w work ws list (some s) change image a b = go (eqb s.number 0) refl
  where
    go : (t : Bool) → eqb s.number 0 ≡ t
        → SameBesides (answering l ∷ working w ∷ answering list ∷ [])
        (answering l ∷ working work ∷ answering list ∷ [])
        (with_writes ws list (outcome (refused_numbers s) (l ∷ a ∷ [])))
        (with_writes ws list (outcome (refused_numbers s) (l ∷ b ∷ [])))
    go true f = rw f (record { numbers = refl; others = refl })
    go false f = rw f (record { numbers = refl; others = refl })

module _ (l w work : List ℕ) (e : length w ≡ length work) where
  -- the check's rows are judged by the length of the working numbers alone
  checks_same : check_order l w ≡ check_order l work
  unfolding check_order
  checks_same = ap (λ (n : ℕ). opening_rows_of l
      ++ (row5 (head_of l) n ∷ node_rows (head_of l) (table_of (head_of l) l))) e

  check_same : SameBesides (working w ∷ []) (working work ∷ []) (check_of l w) (check_of l work)
  unfolding check_of others_in
  check_same = same_heard _ _ _ _ _ _ (ap first checks_same) refl refl refl

  count_same : SameBesides (working w ∷ []) (working work ∷ []) (count_of l w) (count_of l work)
  unfolding count_of others_in
  count_same = same_heard _ _ _ _ _ _ (ap first checks_same) refl refl refl

  same_row : (given : Given) (value : ℕ) → first (store_order l w given value)
      ≡ first (store_order l work given value)
  unfolding store_order
  same_row given value = ap (λ (rows : List Row). first (rows ++ (key_rows l given
      ++ valued l (key_in l given) value))) checks_same

  store_same : (given : Given) (value : ℕ)
      → SameBesides (answering l ∷ working w ∷ []) (answering l ∷ working work ∷ [])
      (store_of l w given value) (store_of l work given value)
  unfolding store_of others_in
  store_same given value = same_heard _ _ _ _ _ _ (same_row given value) refl refl refl

  next_same : (key : List ℕ) (after : Bool) (buffer : List ℕ)
      → SameBesides (working w ∷ answering buffer ∷ []) (working work ∷ answering buffer ∷ [])
      (next_key_of l w key after buffer) (next_key_of l work key after buffer)
  unfolding next_key_of next_key_order found_in others_in
  next_same key after buffer =
      same_heard _ _ _ _ _ _ (ap (λ (rows : List Row). first (rows ++ (next_rows (head_of l) key
      ++ (row14 (head_of l) (length buffer) ∷ row15 (next_in l key after) ∷ [])))) checks_same)
      refl
      refl refl

  -- mending goes by the check's numbers
  mend_same : SameBesides (answering l ∷ working w ∷ []) (answering l ∷ working work ∷ [])
      (mend_of l w) (mend_of l work)
  unfolding others_in
  mend_same = go (can_mend l (check_of l work).numbers) refl
    where
      same : (check_of l w).numbers ≡ (check_of l work).numbers
      same = check_same.numbers

      go : (b : Bool) → can_mend l (check_of l work).numbers ≡ b
          → SameBesides (answering l ∷ working w ∷ []) (answering l ∷ working work ∷ [])
          (mend_of l w) (mend_of l work)
      go true q =
          rw (mend_lowered l w (ap (can_mend l) same ∙ q), mend_lowered l work q)
          (record {
            numbers = refl;
            others = ap (λ (n : Numbers). put_total l (n.place - 1) ∷ []) same;
          })
      go false q =
          rw (mend_kept l w (ap (can_mend l) same ∙ q), mend_kept l work q)
          (record { numbers = same; others = refl })

  writes_same : (given : Given) (value : ℕ) (list : List ℕ)
      → SameBesides (answering l ∷ working w ∷ answering list ∷ [])
      (answering l ∷ working work ∷ answering list ∷ [])
      (store_writes_of l w given value list) (store_writes_of l work given value list)
  unfolding store_writes_of store_of
  writes_same given value list =
      subst (λ (r : Row). SameBesides (answering l ∷ working w ∷ answering list ∷ [])
      (answering l ∷ working work ∷ answering list ∷ [])
      (with_writes ws list (ending r (work_after l w)))
      (with_writes ws list (ending (first (store_order l work given value)) (work_after l work))))
      (sym (same_row given value))
      (with_same l w work ws list (first (store_order l work given value))
      (change_of (answer (table_in l) (key_in l given)) value)
      (stored_image l (key_in l given) value) (work_after l w) (work_after l work))
    where
      ws : List Write
      ws = writes_in l (key_in l given) value

      ending : Row → List ℕ → Outcome
      ending r x = heard r (l ∷ x ∷ [])
          (outcome (done_numbers 0 (change_of (answer (table_in l) (key_in l given)) value) 0)
          (stored_image l (key_in l given) value ∷ x ∷ []))

  -- ---- the calls with counts

  usable_same : (tally : List ℕ) → check_order l (usable w tally)
      ≡ check_order l (usable work tally)
  unfolding check_order usable
  usable_same tally = ap (λ (n : ℕ). opening_rows_of l
      ++ (row5 (head_of l) n ∷ node_rows (head_of l) (table_of (head_of l) l)))
      (length-take (length tally) w ∙ ap (min (length tally)) e
      ∙ sym (length-take (length tally) work))

  compares_same : (tally : List ℕ) → check_counts_order l w tally ≡ check_counts_order l work tally
  unfolding check_counts_order counts_order
  compares_same tally =
      ap (λ (rows : List Row). rows ++ (row25 l tally ∷ [])) (usable_same tally)

  counts_same : (tally : List ℕ)
      → SameBesides (working_with tally w ∷ answering tally ∷ [])
      (working_with tally work ∷ answering tally ∷ []) (counts_of l w tally)
      (counts_of l work tally)
  unfolding counts_of counts_order others_in
  counts_same tally = same_heard _ _ _ _ _ _ (ap first (usable_same tally)) refl refl refl

  check_counts_same : (tally : List ℕ)
      → SameBesides (working_with tally w ∷ []) (working_with tally work ∷ [])
      (check_counts_of l w tally) (check_counts_of l work tally)
  unfolding check_counts_of others_in
  check_counts_same tally = same_heard _ _ _ _ _ _ (ap first (compares_same tally)) refl refl refl

  store_counts_same : (given : Given) (value : ℕ) (tally : List ℕ)
      → SameBesides (answering l ∷ working_with tally w ∷ answering tally ∷ [])
      (answering l ∷ working_with tally work ∷ answering tally ∷ [])
      (store_counts_of l w given value tally) (store_counts_of l work given value tally)
  unfolding store_counts_of store_counts_order others_in
  store_counts_same given value tally =
      same_heard _ _ _ _ _ _
      (ap (λ (rows : List Row). first (rows ++ (key_rows l given
      ++ (valued l (key_in l given) value ++ (row5again (head_of l)
      (new_of (head_of l) l (key_in l given) value) (length tally) ∷ [])))))
      (compares_same tally)) refl refl refl

  key_at_same : (tally : List ℕ) (at : ℕ) (buffer : List ℕ)
      → SameBesides (working_with tally w ∷ answering buffer ∷ [])
      (working_with tally work ∷ answering buffer ∷ [])
      (key_at_of l w tally at buffer) (key_at_of l work tally at buffer)
  unfolding key_at_of key_at_order placed_key others_in
  key_at_same tally at buffer =
      same_heard _ _ _ _ _ _
      (ap (λ (rows : List Row). first (rows ++ (row14 (head_of l) (length buffer)
      ∷ row15 (key_at_place (stored_keys l) at) ∷ []))) (compares_same tally)) refl refl refl

  position_same : (tally : List ℕ) (given : Given)
      → SameBesides (working_with tally w ∷ []) (working_with tally work ∷ [])
      (position_of l w tally given) (position_of l work tally given)
  unfolding position_of position_order others_in
  position_same tally given =
      same_heard _ _ _ _ _ _
      (ap (λ (rows : List Row). first (rows ++ (key_rows l given
      ++ (row15 (if_stored l (key_in l given)) ∷ [])))) (compares_same tally)) refl refl refl

-- "No answer depends on what they held": lent other working numbers, as many, a call answers the
-- same numbers and leaves the same in every buffer but the working numbers
pub work_unread : (l w : List ℕ) (c : Call) → length w ≡ length (work_lent (lent_to l c))
    → ((outcome_of l (with_work w c)).numbers ≡ (outcome_of l c).numbers)
    × (others_in (lent_to l (with_work w c)) (outcome_of l (with_work w c)).lent
    ≡ others_in (lent_to l c) (outcome_of l c).lent)
unfolding outcome_of lent_to with_work work_lent
work_unread l w (make n a d alphabet least most) e = (refl, refl)
work_unread l w (check work) e = let s = check_same l w work e in (s.numbers, s.others)
work_unread l w (count work) e = let s = count_same l w work e in (s.numbers, s.others)
work_unread l w (look_up given) e = (refl, refl)
work_unread l w (store work given value) e =
    let s = store_same l w work e given value in (s.numbers, s.others)
work_unread l w (store_writes work given value list) e =
    let s = writes_same l w work e given value list in (s.numbers, s.others)
work_unread l w (mend work) e = let s = mend_same l w work e in (s.numbers, s.others)
work_unread l w (next_key work key after buffer) e =
    let s = next_same l w work e key after buffer in (s.numbers, s.others)
work_unread l w (counts work tally) e =
    let s = counts_same l w work e tally in (s.numbers, s.others)
work_unread l w (check_counts work tally) e =
    let s = check_counts_same l w work e tally in (s.numbers, s.others)
work_unread l w (store_counts work given value tally) e =
    let s = store_counts_same l w work e given value tally in (s.numbers, s.others)
work_unread l w (key_at work tally at buffer) e =
    let s = key_at_same l w work e tally at buffer in (s.numbers, s.others)
work_unread l w (position work tally given) e =
    let s = position_same l w work e tally given in (s.numbers, s.others)
