-- Demand 3, of the outcome of every store: where it answers 0, the image that it leaves is
-- accepted again, the key answers the new value, every other key answers as before, and only what
-- 01 says has changed. A store ends in one of two ways (`Ended`): it is done and leaves the stored
-- image, of which `paper` has these laws, or it is refused and leaves the image as it was.
use Prim.Native.Nat.{ℕ}
use mathlib.Core.Path.{◌≡◌, refl, sym, ap, subst, ◌∙◌}
use mathlib.Core.Logic.{◌≢◌}
use mathlib.Core.Bool.{true}
use mathlib.Core.Option.{none, some, some-ne-none, some-injective}
use mathlib.Core.List.{List, [], ◌∷◌}
use native.Mathlib.Decide.{ℕ_discrete}
use lib.IntN.{pos}
use lib.ListN.{length}
use borrow.Author.Tests.{ne_eqb}
use Rattle.trie.specs.Table.{answer}
use Rattle.trie.specs.Storing.{change_of}
use Rattle.head.specs.declared.Head.{Head}
use Rattle.node.specs.Writes.{Write}
use Rattle.paper.specs.Hearing.{Row, Numbers, Outcome, outcome, first, heard, refused_numbers}
use Rattle.paper.specs.Hearing.{done_numbers}
use Rattle.paper.specs.Given.{Given, meant_in, key_in}
use Rattle.paper.specs.Orders.{store_order}
use Rattle.paper.specs.Calls.{table_in, work_after, stored_image, store_of, writes_in, with_writes}
use Rattle.paper.specs.Calls.{store_writes_of}
use Rattle.paper.specs.Granted.{Granted}
use Rattle.paper.proofs.StoreCall.{stored_head, stored_frame, stored_length, accepted_again}
use Rattle.paper.proofs.StoreCall.{stored_answers, others_answer, stored_change, store_granted}
use Rattle.paper.proofs.StoreCall.{store_means, store_leaves, refused_keeps}
use Rattle.position.specs.Calls.{worked, store_counts_of}
use Rattle.position.proofs.Plain.{store_counts_plain, store_counts_kept}
use Rattle.calls.specs.Call.{Call, make, check, count, look_up, store, store_writes, mend}
use Rattle.calls.specs.Call.{next_key, counts, check_counts, store_counts, key_at, position}
use Rattle.paper.specs.Repeated.{first_left}
use Rattle.calls.specs.Call.{outcome_of, writes_image, image_after}
use Rattle.calls.specs.StoreDone.{Wanted, wanted_by, StoreDone}

-- ---- how a store ends

-- a refused store answers no change
refused_change : (l work : List ℕ) (given : Given) (value : ℕ)
    → (store_of l work given value).numbers.number ≢ 0
    → (store_of l work given value).numbers.change ≡ pos 0
unfolding store_of heard done_numbers refused_numbers
refused_change l work given value = go (first (store_order l work given value))
  where
    done : Outcome
    done =
        outcome (done_numbers 0 (change_of (answer (table_in l) (key_in l given)) value) 0)
        (stored_image l (key_in l given) value ∷ work_after l work ∷ [])

    go : (row : Row) → (heard row (l ∷ work_after l work ∷ []) done).numbers.number ≢ 0
        → (heard row (l ∷ work_after l work ∷ []) done).numbers.change ≡ pos 0
    go none z = absurd (z refl)
    go (some s) z = refl

-- with writes, with counts or with neither: granted and done, or refused with the image as it was
pub data Ended (l : List ℕ) (w : Wanted) : Outcome → Type 0 where
  was_done : (writes : ℕ) {others : List (List ℕ)}
      → Granted l (key_in l w.given) w.value
      → meant_in l w.given ≡ some (key_in l w.given)
      → Ended l w (outcome
      (done_numbers writes (change_of (answer (table_in l) (key_in l w.given)) w.value) 0)
      (stored_image l (key_in l w.given) w.value ∷ others))
  was_refused : (n : Numbers) {others : List (List ℕ)} → n.number ≢ 0 → n.change ≡ pos 0
      → Ended l w (outcome n (l ∷ others))

module _ (l work : List ℕ) (given : Given) (value : ℕ) where
  abbrev wanted : Wanted
  wanted = record { given = given; value = value }

  pub ended : Ended l wanted (store_of l work given value)
  ended = go (ℕ_discrete o.numbers.number 0)
    where
      o : Outcome
      o = store_of l work given value

      go : Dec (o.numbers.number ≡ 0) → Ended l wanted o
      go (yes z) =
          subst (Ended l wanted) (sym (store_leaves l work given value z))
          (was_done 0 (store_granted l work given value z) (store_means l work given value z))
      go (no z) =
          subst (Ended l wanted)
          (ap (outcome o.numbers) (sym (refused_keeps l work given value z)))
          (was_refused o.numbers z (refused_change l work given value z))

  -- a store with counts does what the plain store does, or nothing
  pub ended_counts : (tally : List ℕ) → Ended l wanted (store_counts_of l work given value tally)
  ended_counts tally = go (ℕ_discrete o.numbers.number 0)
    where
      o : Outcome
      o = store_counts_of l work given value tally

      left : List (List ℕ)
      left = stored_image l (key_in l given) value ∷ work_after l work
          ∷ worked (stored_image l (key_in l given) value) tally ∷ []

      go : Dec (o.numbers.number ≡ 0) → Ended l wanted o
      go (yes z) =
          let (done, same) = store_counts_plain l work given value tally z in
          subst (Ended l wanted)
          (sym (same ∙ ap (λ (a : Outcome). outcome a.numbers left)
          (store_leaves l work given value done)))
          (was_done 0 (store_granted l work given value done)
          (store_means l work given value done))
      go (no z) =
          let (kept, change) = store_counts_kept l work given value tally z in
          subst (Ended l wanted) (ap (outcome o.numbers) (sym kept))
          (was_refused o.numbers z change)

-- a store with writes leaves one buffer more, and the same number and change
pub ended_writes : {l : List ℕ} {w : Wanted} (ws : List Write) (list : List ℕ) {o : Outcome}
    → Ended l w o → Ended l w (with_writes ws list o)
unfolding with_writes done_numbers
ended_writes ws list (was_done n s m) = was_done (length ws) s m
ended_writes ws list (was_refused n d c) = rw (ne_eqb n.number 0 d) (was_refused n d c)

-- ---- a store that is done

done_ended : {l : List ℕ} {w : Wanted} {o : Outcome} → Ended l w o → o.numbers.number ≡ 0
    → StoreDone l w o.numbers.change (first_left o.lent)
unfolding first_left done_numbers
done_ended (was_refused n d c) z = absurd (d z)
done_ended {l} {w} (was_done n g meant) z =
    record {
      accepted = accepted_again g;
      new_value = λ other e. stored_answers g other (e ∙ meant);
      others = λ other d. others_answer g other (λ e. d (e ∙ sym meant));
      total = ap (λ (h : Head). h.g) (stored_head g);
      old_bytes = stored_frame g;
      same_length = stored_length l (key_in l w.given) w.value;
      changed = stored_change g;
    }

-- a call that stores ends so, and it writes the image
ended_call : (l : List ℕ) (c : Call) (w : Wanted) → wanted_by c ≡ some w
    → (writes_image c ≡ true) × Ended l w (outcome_of l c)
unfolding wanted_by outcome_of writes_image store_writes_of
ended_call l (make n a d alphabet least most) w e = absurd (some-ne-none w (sym e))
ended_call l (check work) w e = absurd (some-ne-none w (sym e))
ended_call l (count work) w e = absurd (some-ne-none w (sym e))
ended_call l (look_up given) w e = absurd (some-ne-none w (sym e))
ended_call l (store work given value) w e =
    subst (λ (v : Wanted). (true ≡ true) × Ended l v (store_of l work given value))
    (some-injective _ w e) (refl, ended l work given value)
ended_call l (store_writes work given value list) w e =
    subst (λ (v : Wanted). (true ≡ true) × Ended l v (store_writes_of l work given value list))
    (some-injective _ w e)
    (refl, ended_writes (writes_in l (key_in l given) value) list (ended l work given value))
ended_call l (mend work) w e = absurd (some-ne-none w (sym e))
ended_call l (next_key work key after buffer) w e = absurd (some-ne-none w (sym e))
ended_call l (counts work tally) w e = absurd (some-ne-none w (sym e))
ended_call l (check_counts work tally) w e = absurd (some-ne-none w (sym e))
ended_call l (store_counts work given value tally) w e =
    subst (λ (v : Wanted). (true ≡ true) × Ended l v (store_counts_of l work given value tally))
    (some-injective _ w e) (refl, ended_counts l work given value tally)
ended_call l (key_at work tally at buffer) w e = absurd (some-ne-none w (sym e))
ended_call l (position work tally given) w e = absurd (some-ne-none w (sym e))

-- "Otherwise the image is again accepted; the key answers the new value and every other key
-- answers as before."
pub store_done : (l : List ℕ) (c : Call) (w : Wanted) → wanted_by c ≡ some w
    → (outcome_of l c).numbers.number ≡ 0
    → StoreDone l w (outcome_of l c).numbers.change (image_after l c)
unfolding image_after
store_done l c w e z = let (writes, o) = ended_call l c w e in rw writes (done_ended o z)
