-- Demand 1, for every call: a refusal "leaves the image and every answer buffer unchanged; the
-- working numbers end as 01 states", and they end so where the call is done too.
use Prim.Native.Nat.{ℕ}
use mathlib.Core.Path.{◌≡◌, refl, ap}
use mathlib.Core.Logic.{◌≢◌}
use mathlib.Core.Bool.{Bool, true, false}
use mathlib.Core.List.{List, [], ◌∷◌, ◌++◌, map}
use lib.Dec.{eqb}
use lib.ListN.{length}
use borrow.Author.Tests.{eqb-false}
use Rattle.node.specs.Writes.{Write}
use Rattle.paper.specs.Hearing.{Outcome, first, done_numbers}
use Rattle.paper.specs.Given.{key_in}
use Rattle.paper.specs.Orders.{opening_rows, check_order, look_up_order, next_key_order}
use Rattle.paper.specs.Calls.{work_after, fresh_head, make_of, check_of, count_of, look_up_of}
use Rattle.paper.specs.Calls.{store_of}
use Rattle.paper.specs.Calls.{writes_in, with_writes, store_writes_of, can_mend, mend_of}
use Rattle.paper.specs.Calls.{next_in, found_in, next_key_of}
use Rattle.paper.proofs.Hearing.{kept_lent}
use Rattle.paper.proofs.StoreCall.{refused_keeps}
use Rattle.paper.proofs.MendCall.{mend_kept, mend_lowered}
use Rattle.position.specs.Orders.{counts_order, check_counts_order, store_counts_order}
use Rattle.position.specs.Orders.{key_at_order}
use Rattle.position.specs.Orders.{position_order}
use Rattle.position.specs.Calls.{work_left, counts_of, check_counts_of, store_counts_of}
use Rattle.position.specs.Calls.{placed_key}
use Rattle.position.specs.Calls.{key_at_of, position_of}
use Rattle.calls.specs.Call.{Call, make, check, count, look_up, store, store_writes, mend}
use Rattle.calls.specs.Call.{next_key, counts, check_counts, store_counts, key_at, position}
use Rattle.calls.specs.Call.{outcome_of, lent_to, refused_leaves}

-- ---- a refusal

-- a store with writes that is refused leaves what the store leaves, and the list as it was
refused_writes : (ws : List Write) (list : List ℕ) (o : Outcome) (kept : List (List ℕ))
    → (o.numbers.number ≢ 0 → o.lent ≡ kept)
    → (with_writes ws list o).numbers.number ≢ 0
    → (with_writes ws list o).lent ≡ kept ++ (list ∷ [])
unfolding with_writes done_numbers
refused_writes ws list o kept e z = go (eqb o.numbers.number 0) refl
  where
    go : (b : Bool) → eqb o.numbers.number 0 ≡ b → (with_writes ws list o).lent
        ≡ kept ++ (list ∷ [])
    go true f = absurd (z (rw f))
    go false f = rw f (ap (λ (ls : List (List ℕ)). ls ++ (list ∷ [])) (e (eqb-false _ 0 f)))

-- mending that answers another number than 0 leaves the image as it was
refused_mend : (l work : List ℕ) → (mend_of l work).numbers.number ≢ 0
    → (mend_of l work).lent ≡ l ∷ work_after l work ∷ []
unfolding done_numbers
refused_mend l work z = go (can_mend l (check_of l work).numbers) refl
  where
    go : (b : Bool) → can_mend l (check_of l work).numbers ≡ b → (mend_of l work).lent
        ≡ l ∷ work_after l work ∷ []
    go true e = absurd (z (ap (λ (o : Outcome). o.numbers.number) (mend_lowered l work e)))
    go false e = ap (λ (o : Outcome). o.lent) (mend_kept l work e)

-- "A refused call changes nothing in the image or in any other lent buffer but the working
-- numbers"
pub call_refused : (l : List ℕ) (c : Call) → (outcome_of l c).numbers.number ≢ 0
    → (outcome_of l c).lent ≡ map (refused_leaves l) (lent_to l c)
unfolding outcome_of lent_to refused_leaves make_of check_of count_of look_up_of store_writes_of
    next_key_of
    found_in counts_of check_counts_of store_counts_of key_at_of placed_key position_of
    done_numbers
call_refused l (make n a d alphabet least most) z =
    kept_lent (first (opening_rows (fresh_head n a d alphabet least most) alphabet (length l)))
    (l ∷ []) _ refl z
call_refused l (check work) z =
    kept_lent (first (check_order l work)) (work_after l work ∷ []) _ refl z
call_refused l (count work) z =
    kept_lent (first (check_order l work)) (work_after l work ∷ []) _ refl z
call_refused l (look_up given) z = kept_lent (first (look_up_order l given)) [] _ refl z
call_refused l (store work given value) z = refused_keeps l work given value z
call_refused l (store_writes work given value list) z =
    refused_writes (writes_in l (key_in l given) value) list (store_of l work given value)
    (l ∷ work_after l work ∷ []) (refused_keeps l work given value) z
call_refused l (mend work) z = refused_mend l work z
call_refused l (next_key work key after buffer) z =
    kept_lent (first (next_key_order l work key (length buffer) (next_in l key after)))
    (work_after l work ∷ buffer ∷ []) _ refl z
call_refused l (counts work tally) z =
    kept_lent (first (counts_order l work tally)) (work_left l work tally ∷ tally ∷ []) _ refl z
call_refused l (check_counts work tally) z =
    kept_lent (first (check_counts_order l work tally)) (work_left l work tally ∷ []) _ refl z
call_refused l (store_counts work given value tally) z =
    kept_lent (first (store_counts_order l work given value tally))
    (l ∷ work_left l work tally ∷ tally ∷ []) _ refl z
call_refused l (key_at work tally at buffer) z =
    kept_lent (first (key_at_order l work tally at (length buffer)))
    (work_left l work tally ∷ buffer ∷ []) _ refl z
call_refused l (position work tally given) z =
    kept_lent (first (position_order l work tally given)) (work_left l work tally ∷ []) _ refl z
