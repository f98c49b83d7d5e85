-- Demand 3, "After any run of such calls on a fresh image, answers are those of a plain list of
-- last values", and 01's sum of the changes. One invariant (`Holds`) says both: a fresh image
-- meets it, every call keeps it, and the laws on a run follow from it. Every beginning of a run
-- is a run, so they hold for a call in the middle too.
use Prim.Native.Nat.{ℕ, ◌+◌, ◌≤◌}
use mathlib.Core.Path.{◌≡◌, refl, sym, ◌∙◌, ap, ap₂, subst}
use mathlib.Core.Bool.{Bool, true, false, true≢false}
use mathlib.Core.Logic.{◌↔◌, ◌≢◌}
use mathlib.Core.Option.{Option, none, some}
use mathlib.Core.List.{List, [], ◌∷◌, ◌++◌, Memᴰ}
use lib.IntN.{ℤ, pos, ◌+ℤ◌, +ℤ_idr}
use lib.ListN.{length}
use lib.Seq.{sets}
use borrow.Author.Tests.{ne_eqb}
use Rattle.field.proofs.Range.{between_true, true_between}
use Rattle.trie.specs.Table.{Table, answer}
use Rattle.trie.specs.Storing.{stored, change_of}
use Rattle.trie.specs.Keys.{meets, first_meeting}
use Rattle.trie.proofs.Filter.{first_listed}
use Rattle.trie.proofs.Storing.{stored_answer, stored_answer_other}
use Rattle.head.specs.declared.Head.{Head}
use Rattle.head.specs.Fields.{head_of}
use Rattle.alphabet.specs.Letters.{or_empty}
use Rattle.node.proofs.Heads.{with_total}
use Rattle.paper.specs.Hearing.{Row, Outcome, outcome, first, heard, refused_numbers}
use Rattle.paper.specs.Hearing.{done_numbers}
use Rattle.paper.specs.Given.{Given, alphabet_in, meant_by, meant_in, key_in}
use Rattle.paper.specs.Orders.{new_of, check_order, key_rows_by, key_rows, look_up_order}
use Rattle.paper.specs.Orders.{next_rows, next_key_order}
use Rattle.paper.specs.Calls.{table_in, work_after, fresh_head, fresh_image, make_of, stored_keys}
use Rattle.paper.specs.Calls.{count_of, telling, look_up_of, writes_in, stored_image, store_of}
use Rattle.paper.specs.Calls.{next_in, found_in, next_key_of}
use Rattle.passing.specs.Passing.{key_at as key_at_place, rank_in}
use Rattle.paper.specs.Repeated.{first_left, key_heard, asked_for_all}
use Rattle.paper.specs.Rows.{is_none, row9next, row10, row14, row15}
use Rattle.paper.specs.Accepted.{Accepted}
use Rattle.paper.specs.Granted.{Fit, Granted}
use Rattle.paper.proofs.Hearing.{was_false, second_part, passed_row, passed_parts, heard_done}
use Rattle.paper.proofs.Hearing.{heard_alike}
use Rattle.paper.proofs.Keying.{some_found}
use Rattle.paper.proofs.NextKeyCall.{stored_exactly, stored_ascending, stored_askable, listed_all}
use Rattle.paper.proofs.CheckCall.{accepted_opens, accepted_checks, accepted_linked}
use Rattle.paper.proofs.LookUpCall.{given_fit}
use Rattle.paper.proofs.StoreCall.{accepted_again, stored_head, stored_alphabet, stored_table}
use Rattle.paper.proofs.StoreCall.{stored_change, looks_up_accepted, keying_total}
use Rattle.paper.proofs.StoreCall.{store_granted, store_leaves}
use Rattle.paper.proofs.MendCall.{mend_kept, not_mended}
use Rattle.paper.proofs.MakeCall.{Made, make_done, fresh_head_lem, fresh_alphabet, fresh_accepted}
use Rattle.paper.proofs.MakeCall.{fresh_answers, fresh_keys}
use Rattle.position.specs.Counts.{RightCounts}
use Rattle.position.specs.Calls.{key_at_of, position_of}
use Rattle.position.proofs.KeyPositions.{heard_at, position_of_lem}
use Rattle.position.specs.Orders.{counts_order, check_counts_order, key_at_order, position_order}
use Rattle.calls.specs.Call.{Call, make, check, count, look_up, store, store_writes, mend}
use Rattle.calls.specs.Call.{next_key}
use Rattle.calls.specs.Call.{counts, check_counts, store_counts, key_at, position}
use Rattle.calls.specs.Call.{writes_image, image_after}
use Rattle.calls.specs.StoreDone.{Wanted}
use Rattle.calls.proofs.StoreDone.{Ended, was_done, was_refused, ended, ended_counts, ended_writes}
use Rattle.runs.specs.Runs.{same_key, last_of, plain_keys, gives_plain, plain_by, NoMake, Run}
use Rattle.runs.specs.Runs.{after, ran}
use Rattle.runs.specs.Runs.{start_of, ran_from}
use Rattle.runs.proofs.PlainKeys.{same_itself, same_key_lem, same_keys, plain_ascending}
use Rattle.runs.proofs.PlainKeys.{plain_holds}

-- ---- the invariant

-- the invariant of a run on an image that was made with this head and this alphabet
pub record Holds (h : Head) (alphabet : List ℕ) (r : Run) : Type 0 where
  pub accepted : Accepted r.image
  -- the head has changed in G alone, the alphabet not at all
  pub same_head : head_of r.image ≡ with_total h (head_of r.image).g
  pub same_alphabet : alphabet_in (head_of r.image) r.image ≡ alphabet
  pub answers : (k : List ℕ) → Fit h k → answer (table_in r.image) k ≡ last_of r.plain k
  -- a key that was stored fits
  pub fits : (k : List ℕ) → last_of r.plain k ≢ 0 → Fit h k
  pub sums : r.sum ≡ pos (length (stored_keys r.image))

only_total : (h : Head) {k : Head} {g : ℕ} → k ≡ with_total h g → k ≡ with_total h k.g
only_total h {k} {g} e = e ∙ ap (with_total h) (sym (ap (λ (j : Head). j.g) e))

start : {h : Head} {alphabet image : List ℕ} → Made h alphabet image
    → Holds h alphabet (start_of (fresh_image h alphabet image))
unfolding start_of last_of
start {h} {alphabet} {image} m =
    record {
      accepted = fresh_accepted m;
      same_head = only_total h {g = h.g} (fresh_head_lem m);
      same_alphabet = fresh_alphabet m;
      answers = λ k _. fresh_answers m k;
      fits = λ k z. absurd (z refl);
      sums = ap (λ (ks : List (List ℕ)). pos (length ks)) (sym (fresh_keys m));
    }

-- ---- a store

-- the state of a run after a store with this outcome
abbrev stored_run : Run → List ℕ → ℕ → Outcome → Run
stored_run r key value o =
    record {
      image = first_left o.lent;
      plain = plain_by o key value r.plain;
      sum = r.sum +ℤ o.numbers.change;
    }

module _ {h : Head} {alphabet : List ℕ} {r : Run} (i : Holds h alphabet r) where
  -- a call that answers no change and leaves the image as it is
  unchanged : {change : ℤ} → change ≡ pos 0
      → Holds h alphabet (record { image = r.image; plain = r.plain; sum = r.sum +ℤ change })
  unchanged e =
      record {
        accepted = i.accepted;
        same_head = i.same_head;
        same_alphabet = i.same_alphabet;
        answers = i.answers;
        fits = i.fits;
        sums = ap (r.sum +ℤ◌) e ∙ +ℤ_idr r.sum ∙ i.sums;
      }

  -- the key answers its new value, and every other key as before
  answers_stored : {key : List ℕ} {value : ℕ} → Granted r.image key value → (k : List ℕ)
      → Fit h k
      → answer (table_in (stored_image r.image key value)) k
      ≡ last_of (record { key = key; value = value } ∷ r.plain) k
  unfolding last_of
  answers_stored {key} {value} s k f =
      ap (λ (t : Table). answer t k) (stored_table s) ∙ go (same_key key k) refl
    where
      t : Table
      t = stored (table_in r.image) (head_of r.image).g key value

      go : (b : Bool) → same_key key k ≡ b
          → answer t k ≡ last_of (record { key = key; value = value } ∷ r.plain) k
      go true e =
          rw (e, ← same_key_lem key k e)
          (stored_answer (accepted_linked s.accepted) key s.fit.below value)
      go false e =
          let other : k ≢ key =
          λ q. true≢false (sym (same_itself key) ∙ ap (same_key key) (sym q) ∙ e) in
          rw e (stored_answer_other (accepted_linked s.accepted) key s.fit.below value k
          other ∙ i.answers k f)

  -- the other fields of the head are as at the start, so the same keys fit
  fit_same : {k : List ℕ} → Fit (head_of r.image) k → Fit h k
  fit_same f = record {
    allowed = rw i.same_head at f.allowed;
    below = rw i.same_head at f.below;
  }

  fits_stored : {key : List ℕ} (value : ℕ) → Fit (head_of r.image) key → (k : List ℕ)
      → last_of (record { key = key; value = value } ∷ r.plain) k ≢ 0 → Fit h k
  unfolding last_of
  fits_stored {key} value f k z = go (same_key key k) refl
    where
      go : (b : Bool) → same_key key k ≡ b → Fit h k
      go true e = subst (Fit h) (same_key_lem key k e) (fit_same f)
      go false e = i.fits k (λ w. z (rw e w))

  -- after a store, however it ended
  step_store : {w : Wanted} {o : Outcome} → Ended r.image w o
      → Holds h alphabet (stored_run r (key_in r.image w.given) w.value o)
  unfolding first_left plain_by done_numbers refused_numbers
  step_store {w} (was_done n s _) =
      let key : List ℕ = key_in r.image w.given in
      let value : ℕ = w.value in
      let g : ℕ = (head_of r.image).g + new_of (head_of r.image) r.image key value in
      record {
        accepted = accepted_again s;
        same_head =
            only_total h {g = g} (stored_head s ∙ ap (λ (k : Head). with_total k g) i.same_head);
        same_alphabet = stored_alphabet s ∙ i.same_alphabet;
        answers = answers_stored s;
        fits = fits_stored value s.fit;
        sums = ap (◌+ℤ change_of (answer (table_in r.image) key) value) i.sums
            ∙ sym (stored_change s);
      }
  step_store (was_refused n d c) = rw (ne_eqb n.number 0 d) (unchanged c)

-- ---- every call

-- a call that changes no key answers no change, done or refused
no_change : (row : Row) (kept : List (List ℕ)) (done : Outcome) → done.numbers.change ≡ pos 0
    → (heard row kept done).numbers.change ≡ pos 0
unfolding heard refused_numbers
no_change none kept done e = e
no_change (some s) kept done e = refl

module _ {h : Head} {alphabet : List ℕ} where
  step : (r : Run) (c : Call) (cs : List Call) → NoMake (c ∷ cs) → Holds h alphabet r
      → Holds h alphabet (after r c)
  unfolding after image_after writes_image done_numbers
  step r (make n a d letters least most) cs unmade i =
      absurd (unmade n a d letters least most (Memᴰ.head refl))
  step r (check work) cs unmade i =
      unchanged i (no_change (first (check_order r.image work)) _ _ refl)
  step r (count work) cs unmade i =
      unchanged i (no_change (first (check_order r.image work)) _ _ refl)
  step r (look_up given) cs unmade i =
      unchanged i (no_change (first (look_up_order r.image given)) _ _ refl)
  step r (store work given value) cs unmade i = step_store i (ended r.image work given value)
  step r (store_writes work given value list) cs unmade i =
      step_store i (ended_writes (writes_in r.image (key_in r.image given) value) list
      (ended r.image work given value))
  step r (mend work) cs unmade i =
      rw (mend_kept r.image work (not_mended i.accepted work))
      (unchanged i (no_change (first (check_order r.image work)) _ _ refl))
  step r (next_key work key onward buffer) cs unmade i =
      unchanged i (no_change (first
      (next_key_order r.image work key (length buffer) (next_in r.image key onward)))
      _ _ refl)
  step r (counts work tally) cs unmade i =
      unchanged i (no_change (first (counts_order r.image work tally)) _ _ refl)
  step r (check_counts work tally) cs unmade i =
      unchanged i (no_change (first (check_counts_order r.image work tally)) _ _ refl)
  step r (store_counts work given value tally) cs unmade i =
      step_store i (ended_counts r.image work given value tally)
  step r (key_at work tally at buffer) cs unmade i =
      unchanged i (no_change (first (key_at_order r.image work tally at (length buffer)))
      _ _ refl)
  step r (position work tally given) cs unmade i =
      unchanged i (no_change (first (position_order r.image work tally given)) _ _ refl)

  holds : (r : Run) (cs : List Call) → NoMake cs → Holds h alphabet r → Holds h alphabet (ran r cs)
  unfolding ran
  holds r [] unmade i = i
  holds r (c ∷ cs) unmade i =
      holds (after r c) cs (λ n a d letters least most e. unmade n a d letters least most
      (Memᴰ.tail e)) (step r c cs unmade i)

-- a run of calls, then another
pub ran_append : (r : Run) (cs ds : List Call) → ran r (cs ++ ds) ≡ ran (ran r cs) ds
unfolding ran
ran_append r [] ds = refl
ran_append r (c ∷ cs) ds = ran_append (after r c) cs ds

-- ---- next key

-- 9, 10 and 14 do not depend on G
next_rows_lem : {h : Head} {alphabet : List ℕ} {r : Run} → Holds h alphabet r
    → (work key : List ℕ) (lent : ℕ) (met : Option (List ℕ))
    → (head_of r.image).g + 1 ≤ length work
    → first (next_key_order r.image work key lent met)
    ≡ first (next_rows h key ++ (row14 h lent ∷ row15 met ∷ []))
unfolding next_key_order next_rows row9next row10 row14
next_rows_lem {h} {r = r} i work key lent met b =
    second_part (check_order r.image work) _ (accepted_checks r.image work i.accepted b)
    ∙ ap (λ (k : Head). first (next_rows k key ++ (row14 k lent ∷ row15 met ∷ []))) i.same_head

next_from : (l : List ℕ) {keys : List (List ℕ)} (onward : Bool) (key : List ℕ)
    → stored_keys l ≡ keys → next_in l key onward ≡ first_meeting (meets onward key) keys
unfolding next_in
next_from l onward key e = ap (first_meeting (meets onward key)) e

-- 15 passes only where there is a key
last_passed : (rows : List Row) (row : Row) (met : Option (List ℕ))
    → first (rows ++ (row ∷ row15 met ∷ [])) ≡ none → is_none met ≡ false
unfolding row15
last_passed rows row met e =
    let after = passed_parts rows (row ∷ row15 met ∷ []) e in
    let last = passed_row row (row15 met ∷ []) after.1 in
    was_false 15 0 (is_none met) (passed_row (row15 met) [] last.1).0

met_stored : (l key : List ℕ) (onward : Bool) → is_none (next_in l key onward) ≡ false
    → Memᴰ (or_empty (next_in l key onward)) (stored_keys l)
unfolding next_in
met_stored l key onward e =
    (first_listed (meets onward key) (stored_keys l) (some_found (next_in l key onward) e)).0

-- ---- from a fresh image

module _ (image : List ℕ) (n a d : ℕ) (alphabet : List ℕ) (least most : ℕ)
    (done : (make_of image n a d alphabet least most).numbers.number ≡ 0) (cs : List Call)
    (none_made : NoMake cs) where
  abbrev h : Head
  h = fresh_head n a d alphabet least most

  abbrev r : Run
  r = ran_from h alphabet image cs

  at_end : Holds h alphabet r
  at_end = holds (start_of (fresh_image h alphabet image)) cs none_made
      (start (make_done image n a d alphabet least most done))

  pub run_accepted : Accepted r.image
  run_accepted = at_end.accepted

  -- 9 and 10 are as at the start, and the same key is meant
  keyed_same : (given : Given) → key_rows r.image given ≡ key_rows_by h alphabet given
  unfolding key_rows
  keyed_same given =
      ap₂ (λ (j : Head) (b : List ℕ). key_rows_by j b given) at_end.same_head
      at_end.same_alphabet
      ∙ keying_total h (head_of r.image).g alphabet given

  meant_same : (given : Given) → key_in r.image given ≡ or_empty (meant_by alphabet given)
  unfolding key_in meant_in
  meant_same given = ap (λ (b : List ℕ). or_empty (meant_by b given)) at_end.same_alphabet

  -- "answers are those of a plain list of last values": 9 or 10 for what is no key of such an
  -- image, else the last value
  pub run_answers : (given : Given) → look_up_of r.image given
      ≡ heard (first (key_rows_by h alphabet given)) []
      (telling (last_of r.plain (or_empty (meant_by alphabet given))))
  run_answers given =
      let fit : first (key_rows r.image given) ≡ none → Fit h (key_in r.image given) =
      λ e. fit_same at_end (given_fit r.image given (accepted_opens run_accepted) e) in
      looks_up_accepted run_accepted given
      ∙ heard_alike (first (key_rows r.image given)) []
      (λ e. ap telling (at_end.answers (key_in r.image given) (fit e)))
      ∙ ap₂ (λ (rows : List Row) (k : List ℕ). heard (first rows) []
      (telling (last_of r.plain k))) (keyed_same given) (meant_same given)

  -- a store that is done answers the change that the plain list tells
  pub run_changes : (work : List ℕ) (given : Given) (value : ℕ)
      → (store_of r.image work given value).numbers.number ≡ 0
      → (store_of r.image work given value).numbers.change
      ≡ change_of (last_of r.plain (or_empty (meant_by alphabet given))) value
  unfolding done_numbers
  run_changes work given value z =
      let g = store_granted r.image work given value z in
      ap (λ (o : Outcome). o.numbers.change) (store_leaves r.image work given value z)
      ∙ ap (λ (v : ℕ). change_of v value)
      (at_end.answers (key_in r.image given) (fit_same at_end g.fit))
      ∙ ap (λ (k : List ℕ). change_of (last_of r.plain k) value) (meant_same given)

  -- "The sum of these from a fresh image equals the number of keys stored now"
  pub run_sums : r.sum ≡ pos (length (stored_keys r.image))
  run_sums = at_end.sums

  -- ---- the keys

  -- "answers are those of a plain list of last values": the stored keys are exactly the fitting
  -- keys whose last value is not 0
  pub run_stored : (k : List ℕ) → Memᴰ k (stored_keys r.image)
      ↔ (Fit h k × (last_of r.plain k ≢ 0))
  run_stored k = (
    λ a.
        let (least_here, most_here, full) = (stored_exactly r.image k).0 a in
        let f : Fit h k = fit_same at_end (record {
          allowed = true_between (length k) (head_of r.image).min (head_of r.image).max
              least_here most_here;
          below = (stored_askable r.image k a).below;
        }) in
        (f, λ z. full (at_end.answers k f ∙ z)),
    λ s.
        let (f, z) = s in
        let b = between_true (length k) h.min h.max f.allowed in
        (stored_exactly r.image k).1 (
          rw at_end.same_head b.0,
          rw at_end.same_head b.1,
          λ w. z (sym (at_end.answers k f) ∙ w),
        ),
  )

  -- so they are the plain list's
  pub run_keys : stored_keys r.image ≡ plain_keys r.plain
  run_keys =
      same_keys (stored_keys r.image) (plain_keys r.plain) (stored_ascending r.image)
      (plain_ascending r.plain)
      (λ k a. (plain_holds r.plain k).1 ((run_stored k).0 a).1)
      (λ k a. let z = (plain_holds r.plain k).0 a in (run_stored k).1 (at_end.fits k z, z))

  -- number of keys answers how many they are
  pub run_counts : (work : List ℕ) → (head_of r.image).g + 1 ≤ length work
      → count_of r.image work ≡ outcome (done_numbers 0 (pos 0) (length (plain_keys r.plain)))
      (work_after r.image work ∷ [])
  unfolding count_of
  run_counts work b =
      heard_done (first (check_order r.image work)) _ _
      (accepted_checks r.image work run_accepted b)
      ∙ ap (λ (ks : List (List ℕ)). outcome (done_numbers 0 (pos 0) (length ks))
      (work_after r.image work ∷ [])) run_keys

  -- and the sum of the changes is that number
  pub run_sums_keys : r.sum ≡ pos (length (plain_keys r.plain))
  run_sums_keys = run_sums ∙ ap (λ (ks : List (List ℕ)). pos (length ks)) run_keys

  -- the listing by calls gives them
  pub run_lists : (work buffer : List ℕ) (times : ℕ) → (head_of r.image).g + 1 ≤ length work
      → most ≤ length buffer → length (plain_keys r.plain) ≤ times
      → asked_for_all r.image work buffer times ≡ plain_keys r.plain
  unfolding fresh_head
  run_lists work buffer times lent room enough =
      listed_all r.image work buffer run_accepted lent (rw at_end.same_head room) times
      (rw run_keys enough)
      ∙ run_keys

  -- every next key's answer: 9, 10, 14 and 15 by the head and the plain list, else the first key
  -- that meets the request, with its last value
  pub run_next : (work key : List ℕ) (onward : Bool) (buffer : List ℕ)
      → (head_of r.image).g + 1 ≤ length work
      → next_key_of r.image work key onward buffer
      ≡ heard (first (next_rows h key ++ (row14 h (length buffer)
      ∷ row15 (first_meeting (meets onward key) (plain_keys r.plain)) ∷ [])))
      (work_after r.image work ∷ buffer ∷ [])
      (gives_plain r.plain (work_after r.image work) buffer
      (or_empty (first_meeting (meets onward key) (plain_keys r.plain))))
  unfolding next_key_of found_in gives_plain
  run_next work key onward buffer lent =
      ap (λ (row : Row). heard row kept (found_in r.image work buffer (or_empty met))) order
      ∙ heard_alike (first rows) kept
      (λ e. ap (λ (v : ℕ). outcome (done_numbers (length (or_empty met)) (pos 0) v)
      (work_after r.image work ∷ sets buffer 0 (or_empty met) ∷ [])) (last_value e))
      ∙ ap (λ (o : Option (List ℕ)). heard (first (next_rows h key
      ++ (row14 h (length buffer) ∷ row15 o ∷ []))) kept
      (gives_plain r.plain (work_after r.image work) buffer (or_empty o))) same_met
    where
      kept : List (List ℕ)
      kept = work_after r.image work ∷ buffer ∷ []

      met : Option (List ℕ)
      met = next_in r.image key onward

      rows : List Row
      rows = next_rows h key ++ (row14 h (length buffer) ∷ row15 met ∷ [])

      same_met : met ≡ first_meeting (meets onward key) (plain_keys r.plain)
      same_met = next_from r.image onward key run_keys

      order : first (next_key_order r.image work key (length buffer) met) ≡ first rows
      order = next_rows_lem at_end work key (length buffer) met lent

      last_value : first rows ≡ none
          → answer (table_in r.image) (or_empty met) ≡ last_of r.plain (or_empty met)
      last_value e =
          at_end.answers (or_empty met)
          ((run_stored (or_empty met)).0 (met_stored r.image key onward
          (last_passed (next_rows h key) (row14 h (length buffer)) met e))).0

  -- ---- with right counts

  -- the key at a position is the plain list's
  pub run_key_at : (work tally : List ℕ) (at : ℕ) (buffer : List ℕ)
      → (head_of r.image).g + 1 ≤ length work → RightCounts r.image tally
      → most ≤ length buffer
      → key_heard (key_at_of r.image work tally at buffer)
      ≡ key_at_place (plain_keys r.plain) at
  unfolding fresh_head
  run_key_at work tally at buffer lent right room =
      heard_at r.image work tally run_accepted lent right buffer
      (rw at_end.same_head room) at
      ∙ ap (λ (ks : List (List ℕ)). key_at_place ks at) run_keys

  -- and so is the position of a key whose last value is not 0
  pub run_position : (work tally : List ℕ) (given : Given) {k : List ℕ}
      → (head_of r.image).g + 1 ≤ length work → RightCounts r.image tally
      → meant_by alphabet given ≡ some k → last_of r.plain k ≢ 0
      → (position_of r.image work tally given).numbers
      ≡ done_numbers 0 (pos 0) (rank_in (plain_keys r.plain) k)
  unfolding meant_in
  run_position work tally given {k} lent right e z =
      ap (λ (o : Outcome). o.numbers)
      (position_of_lem r.image work tally run_accepted lent right given
      (ap (λ (b : List ℕ). meant_by b given) at_end.same_alphabet ∙ e)
      ((run_stored k).1 (at_end.fits k z, z)))
      ∙ ap (λ (ks : List (List ℕ)). done_numbers 0 (pos 0) (rank_in ks k)) run_keys
