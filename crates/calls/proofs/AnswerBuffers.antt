-- 01, "a call that is done changes only what it is said to write", for the buffers of answers and
-- for every call: from the end of what it is said to write on, a buffer is as it was lent. Of the
-- image the laws on a store, on make and on mending say it.
use Prim.Native.Nat.{ℕ, ◌+◌, ◌*◌, ◌≤◌}
use mathlib.Core.Path.{◌≡◌, refl, ap}
use mathlib.Core.Logic.{inr}
use mathlib.Core.Bool.{Bool, true, false}
use mathlib.Core.Option.{none, some}
use mathlib.Core.List.{List, [], ◌∷◌}
use native.Mathlib.Omega.{arith}
use lib.Dec.{eqb}
use lib.ListN.{length, get_or}
use lib.Seq.{sets}
use lib.IntN.{pos}
use Rattle.field.proofs.Sets.{get_d_outside}
use Rattle.alphabet.specs.Letters.{or_empty}
use Rattle.head.specs.Fields.{head_of}
use Rattle.node.specs.Writes.{Write, noted}
use Rattle.passing.specs.Passing.{key_at as key_at_place}
use Rattle.paper.specs.Hearing.{Said, Row, Outcome, first, heard, outcome, done_numbers}
use Rattle.paper.specs.Hearing.{refused_numbers}
use Rattle.paper.specs.Given.{Given, key_in}
use Rattle.paper.specs.Orders.{opening_rows, check_order, store_order, next_key_order}
use Rattle.paper.specs.Calls.{table_in, fresh_head, make_of, check_of, count_of, look_up_of}
use Rattle.paper.specs.Calls.{can_mend}
use Rattle.paper.specs.Calls.{mend_of}
use Rattle.paper.specs.Calls.{work_after, stored_keys, stored_image, store_of, writes_in}
use Rattle.paper.specs.Calls.{with_writes}
use Rattle.paper.specs.Calls.{store_writes_of, next_in, found_in, next_key_of}
use Rattle.position.specs.Orders.{counts_order, check_counts_order, store_counts_order}
use Rattle.position.specs.Orders.{key_at_order}
use Rattle.position.specs.Orders.{position_order}
use Rattle.position.specs.Calls.{work_left, worked, counts_of, check_counts_of, store_counts_of}
use Rattle.position.specs.Calls.{placed_key, key_at_of, position_of}
use Rattle.position.proofs.Right.{worked_rest}
use Rattle.paper.proofs.MendCall.{mend_kept, mend_lowered}
use Rattle.trie.specs.Table.{answer}
use Rattle.trie.specs.Storing.{change_of}
use Rattle.calls.proofs.WorkingNumbers.{either_left}
use Rattle.calls.specs.Call.{Call, make, check, count, look_up, store, store_writes, mend}
use Rattle.calls.specs.Call.{next_key, counts, check_counts, store_counts, key_at, position}
use Rattle.paper.specs.Repeated.{first_left}
use Rattle.calls.specs.Call.{outcome_of, writes_image, rest_left, image_after, lent_to}
use Rattle.calls.specs.Call.{refused_leaves, others_in, answer_in, answer_after, answer_lent}
use Rattle.calls.specs.Call.{front_of, answering, working, working_with}

-- what is written at the front of a list leaves the rest
rest : (l vs : List ℕ) (p : ℕ) → length vs ≤ p → get_or (sets l 0 vs) p 0 ≡ get_or l p 0
rest l vs p b = get_d_outside l vs 0 p 0 (inr (omega arith))

pub length_noted : (ws : List Write) → length (noted ws) ≡ 2 * length ws
unfolding noted
length_noted [] = refl
length_noted (w ∷ ws) = omega (arith, length_noted ws)

-- ---- each call that has such a buffer

module _ (l : List ℕ) (p : ℕ) where
  -- a key that was found, or none
  next_rest : (work key : List ℕ) (after : Bool) (buffer : List ℕ)
      → front_of l (next_key work key after buffer) ≤ p
      → get_or (answer_after l (next_key work key after buffer)) p 0 ≡ get_or buffer p 0
  unfolding front_of answer_after answer_in writes_image first_left others_in lent_to outcome_of
      next_key_of
      found_in done_numbers refused_numbers heard
  next_rest work key after buffer =
      go (first (next_key_order l work key (length buffer) (next_in l key after)))
    where
      k : List ℕ
      k = or_empty (next_in l key after)

      go : (row : Row)
          → (heard row (work_after l work ∷ buffer ∷ []) (found_in l work buffer k)).numbers.length
          ≤ p
          → get_or (answer_in (next_key work key after buffer)
          (others_in (working work ∷ answering buffer ∷ [])
          (heard row (work_after l work ∷ buffer ∷ []) (found_in l work buffer k)).lent)) p 0
          ≡ get_or buffer p 0
      go none b = rest buffer k p b
      go (some s) b = refl

  at_rest : (work tally : List ℕ) (at : ℕ) (buffer : List ℕ)
      → front_of l (key_at work tally at buffer) ≤ p
      → get_or (answer_after l (key_at work tally at buffer)) p 0 ≡ get_or buffer p 0
  unfolding front_of answer_after answer_in writes_image first_left others_in lent_to outcome_of
      key_at_of
      placed_key done_numbers refused_numbers heard
  at_rest work tally at buffer = go (first (key_at_order l work tally at (length buffer)))
    where
      k : List ℕ
      k = or_empty (key_at_place (stored_keys l) at)

      go : (row : Row)
          → (heard row (work_left l work tally ∷ buffer ∷ [])
          (placed_key l work tally buffer k)).numbers.length ≤ p
          → get_or (answer_in (key_at work tally at buffer)
          (others_in (working_with tally work ∷ answering buffer ∷ [])
          (heard row (work_left l work tally ∷ buffer ∷ [])
          (placed_key l work tally buffer k)).lent)) p 0
          ≡ get_or buffer p 0
      go none b = rest buffer k p b
      go (some s) b = refl

  counts_rest : (work tally : List ℕ) → (head_of l).g + 1 ≤ p
      → get_or (answer_after l (counts work tally)) p 0 ≡ get_or tally p 0
  unfolding answer_after answer_in writes_image first_left others_in lent_to outcome_of counts_of
      worked
      heard
  counts_rest work tally b = go (first (counts_order l work tally))
    where
      done : Outcome
      done = outcome (done_numbers 0 (pos 0) 0) (work_left l work tally ∷ worked l tally ∷ [])

      go : (row : Row)
          → get_or (answer_in (counts work tally)
          (others_in (working_with tally work ∷ answering tally
          ∷ []) (heard row (work_left l work tally ∷ tally ∷ []) done).lent)) p 0
          ≡ get_or tally p 0
      go none = worked_rest l tally p (omega arith)
      go (some s) = refl

  store_counts_rest : (work : List ℕ) (given : Given) (value : ℕ) (tally : List ℕ)
      → front_of l (store_counts work given value tally) ≤ p
      → get_or (answer_after l (store_counts work given value tally)) p 0 ≡ get_or tally p 0
  unfolding front_of image_after answer_after answer_in writes_image first_left rest_left
      others_in lent_to
      outcome_of store_counts_of worked heard
  store_counts_rest work given value tally =
      go (first (store_counts_order l work given value tally))
    where
      image : List ℕ
      image = stored_image l (key_in l given) value

      done : Outcome
      done =
          outcome (done_numbers 0 (change_of (answer (table_in l) (key_in l given)) value) 0)
          (image ∷ work_left l work tally ∷ worked image tally ∷ [])

      kept : List (List ℕ)
      kept = l ∷ work_left l work tally ∷ tally ∷ []

      go : (row : Row) → (head_of (first_left (heard row kept done).lent)).g + 1 ≤ p
          → get_or (answer_in (store_counts work given value tally)
          (others_in (answering l ∷ working_with tally work ∷ answering tally ∷ [])
          (heard row kept done).lent)) p 0 ≡ get_or tally p 0
      go none b = worked_rest image tally p (omega arith)
      go (some s) b = refl

  writes_rest : (work : List ℕ) (given : Given) (value : ℕ) (list : List ℕ)
      → front_of l (store_writes work given value list) ≤ p
      → get_or (answer_after l (store_writes work given value list)) p 0 ≡ get_or list p 0
  unfolding front_of answer_after answer_in writes_image first_left rest_left others_in lent_to
      outcome_of
      store_writes_of store_of with_writes done_numbers refused_numbers heard
  writes_rest work given value list = go (first (store_order l work given value))
    where
      ws : List Write
      ws = writes_in l (key_in l given) value

      done : Outcome
      done =
          outcome (done_numbers 0 (change_of (answer (table_in l) (key_in l given)) value) 0)
          (stored_image l (key_in l given) value ∷ work_after l work ∷ [])

      kept : List (List ℕ)
      kept = l ∷ work_after l work ∷ []

      Keeps : Outcome → Type 0
      Keeps o =
          2 * (with_writes ws list o).numbers.length ≤ p
          → get_or (answer_in (store_writes work given value list)
          (others_in (answering l ∷ working work ∷ answering list ∷ [])
          (with_writes ws list o).lent)) p 0 ≡ get_or list p 0

      refused : (s : Said) (t : Bool) → eqb s.number 0 ≡ t
          → Keeps (outcome (refused_numbers s) kept)
      refused s true e = rw e (λ b. rest list (noted ws) p (omega (arith, length_noted ws)))
      refused s false e = rw e (λ b. refl)

      go : (row : Row) → Keeps (heard row kept done)
      go none b = rest list (noted ws) p (omega (arith, length_noted ws))
      go (some s) b = refused s (eqb s.number 0) refl b

-- a call that has no such buffer leaves nothing there
no_answer : (l : List ℕ) (c : Call) (p : ℕ) → answer_after l c ≡ [] → answer_lent l c ≡ []
    → get_or (answer_after l c) p 0 ≡ get_or (answer_lent l c) p 0
no_answer l c p e f = rw (e, f)

-- "a call that is done changes only what it is said to write"
pub answer_rest : (l : List ℕ) (c : Call) (p : ℕ) → front_of l c ≤ p
    → get_or (answer_after l c) p 0 ≡ get_or (answer_lent l c) p 0
unfolding answer_after answer_lent answer_in writes_image first_left rest_left others_in lent_to
    refused_leaves outcome_of front_of make_of check_of count_of look_up_of store_of
    check_counts_of
    position_of
answer_rest l (make n a d alphabet least most) p b =
    no_answer l (make n a d alphabet least most) p
    (either_left (λ ls. answer_in (make n a d alphabet least most)
    (others_in (answering l ∷ []) ls))
    (first (opening_rows (fresh_head n a d alphabet least most) alphabet (length l))) _ _ refl
    refl)
    refl
answer_rest l (check work) p b =
    no_answer l (check work) p
    (either_left (λ ls. answer_in (check work) (others_in (working work ∷ []) ls))
    (first (check_order l work)) _ _ refl refl) refl
answer_rest l (count work) p b =
    no_answer l (count work) p
    (either_left (λ ls. answer_in (count work) (others_in (working work ∷ []) ls))
    (first (check_order l work)) _ _ refl refl) refl
answer_rest l (look_up given) p b = no_answer l (look_up given) p refl refl
answer_rest l (store work given value) p b =
    no_answer l (store work given value) p
    (either_left (λ ls. answer_in (store work given value)
    (others_in (answering l ∷ working work ∷ []) ls))
    (first (store_order l work given value)) _ _ refl refl) refl
answer_rest l (store_writes work given value list) p b = writes_rest l p work given value list b
answer_rest l (mend work) p b =
    no_answer l (mend work) p (go (can_mend l (check_of l work).numbers) refl) refl
  where
    left : List (List ℕ) → List ℕ
    left ls = answer_in (mend work) (others_in (answering l ∷ working work ∷ []) ls)

    go : (t : Bool) → can_mend l (check_of l work).numbers ≡ t → left (mend_of l work).lent ≡ []
    go true e = ap (λ (o : Outcome). left o.lent) (mend_lowered l work e)
    go false e = ap (λ (o : Outcome). left o.lent) (mend_kept l work e)
answer_rest l (next_key work key after buffer) p b = next_rest l p work key after buffer b
answer_rest l (counts work tally) p b = counts_rest l p work tally b
answer_rest l (check_counts work tally) p b =
    no_answer l (check_counts work tally) p
    (either_left (λ ls. answer_in (check_counts work tally)
    (others_in (working_with tally work ∷ []) ls))
    (first (check_counts_order l work tally)) _ _ refl refl) refl
answer_rest l (store_counts work given value tally) p b =
    store_counts_rest l p work given value tally b
answer_rest l (key_at work tally at buffer) p b = at_rest l p work tally at buffer b
answer_rest l (position work tally given) p b =
    no_answer l (position work tally given) p
    (either_left (λ ls. answer_in (position work tally given)
    (others_in (working_with tally work ∷ []) ls))
    (first (position_order l work tally given)) _ _ refl refl) refl
