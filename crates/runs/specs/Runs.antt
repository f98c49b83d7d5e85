-- Demand 3, "After any run of such calls on a fresh image, answers are those of a plain list of
-- last values"; 01, "The sum of these from a fresh image equals the number of keys stored now":
-- runs of calls, and the plain list beside a run.
use Rattle.std.specs.Prelude.{ℕ, Bool, true, false, not, ◌&&◌, cond, eqb, ℤ, pos, ◌+ℤ◌, length}
use mathlib.Core.List.{List, [], ◌∷◌, Memᴰ}
use Rattle.std.proofs.lemmas.List.Edits.{sets}
use Rattle.head.specs.declared.Head.{Head}
use Rattle.trie.specs.Keys.{before, filter}
use Rattle.paper.specs.Hearing.{Outcome, outcome, done_numbers}
use Rattle.paper.specs.Given.{key_in}
use Rattle.paper.specs.Calls.{fresh_image}
use Rattle.calls.specs.Call.{Call, make, check, count, look_up, store, store_writes, mend}
use Rattle.calls.specs.Call.{next_key}
use Rattle.calls.specs.Call.{counts, check_counts, store_counts, key_at, position, outcome_of}
use Rattle.calls.specs.Call.{image_after}

-- ---- the plain list: a store that is done adds its key and value at the front, and no other
-- call changes it

-- are two keys equal?
unfoldable pub same_key : List ℕ → List ℕ → Bool
same_key [] [] = true
same_key [] (y ∷ m) = false
same_key (x ∷ k) [] = false
same_key (x ∷ k) (y ∷ m) = eqb x y && same_key k m

-- a key and a value that was stored under it
pub record Entry : Type 0 where
  pub key : List ℕ
  pub value : ℕ

-- "last values": the value that was stored last under a key, 0 where there is none
unfoldable pub last_of : List Entry → List ℕ → ℕ
unfolding same_key
last_of [] k = 0
last_of (e ∷ plain) k = cond (same_key e.key k) e.value (last_of plain k)

-- ---- the keys of the plain list

-- a key put among keys in order; one that is there already stays as it is
unfoldable pub put_key : List ℕ → List (List ℕ) → List (List ℕ)
unfolding before
put_key k [] = k ∷ []
put_key k (m ∷ ms) = cond (before k m) (k ∷ m ∷ ms) (cond (before m k) (m ∷ put_key k ms) (m ∷ ms))

-- every key of the plain list, once and in order
unfoldable pub all_keys : List Entry → List (List ℕ)
unfolding put_key
all_keys [] = []
all_keys (e ∷ plain) = put_key e.key (all_keys plain)

-- the keys whose last value is not 0, in order
unfoldable pub plain_keys : List Entry → List (List ℕ)
unfolding filter last_of all_keys
plain_keys plain = filter (λ k. not (eqb (last_of plain k) 0)) (all_keys plain)

-- what next key answers and leaves where it gives this key: its length and its last value, these
-- working numbers, and "its letters at the front of the key buffer (the rest unchanged)"
unfoldable pub gives_plain : List Entry → List ℕ → List ℕ → List ℕ → Outcome
unfolding last_of done_numbers
gives_plain plain work buffer k =
    outcome (done_numbers (length k) (pos 0) (last_of plain k)) (work ∷ sets buffer 0 k ∷ [])

-- ---- the plain list after a call

-- the plain list after a store with this outcome: a store that answers number 0 is added
unfoldable pub plain_by : Outcome → List ℕ → ℕ → List Entry → List Entry
plain_by o key value plain =
    cond (eqb o.numbers.number 0) (record { key = key; value = value } ∷ plain) plain

-- the plain list after any call on this image; a run has no make
unfoldable pub plain_after : List ℕ → Call → List Entry → List Entry
unfolding plain_by outcome_of key_in
plain_after l (store work given value) plain =
    plain_by (outcome_of l (store work given value)) (key_in l given) value plain
plain_after l (store_writes work given value list) plain =
    plain_by (outcome_of l (store_writes work given value list)) (key_in l given) value plain
plain_after l (store_counts work given value tally) plain =
    plain_by (outcome_of l (store_counts work given value tally)) (key_in l given) value plain
plain_after l (make n a d alphabet least most) plain = plain
plain_after l (mend work) plain = plain
plain_after l (check work) plain = plain
plain_after l (count work) plain = plain
plain_after l (look_up given) plain = plain
plain_after l (next_key work key after buffer) plain = plain
plain_after l (counts work tally) plain = plain
plain_after l (check_counts work tally) plain = plain
plain_after l (key_at work tally at buffer) plain = plain
plain_after l (position work tally given) plain = plain

-- ---- a run

-- a run of calls on an image has no make, which begins another image
abbrev pub NoMake : List Call → Type 0
NoMake cs =
    (n a d : ℕ) (alphabet : List ℕ) (least most : ℕ)
    → ¬ (Memᴰ (make n a d alphabet least most) cs)

-- the state of a run, in which each call is made on what the call before it left: the image, the
-- plain list, and the sum of the changes answered so far
pub record Run : Type 0 where
  pub image : List ℕ
  pub plain : List Entry
  pub sum : ℤ

-- the state after one more call
unfoldable pub after : Run → Call → Run
unfolding image_after plain_after outcome_of
after r c =
    record {
      image = image_after r.image c;
      plain = plain_after r.image c r.plain;
      sum = r.sum +ℤ (outcome_of r.image c).numbers.change;
    }

-- the state after more calls, made one after the other
unfoldable pub ran : Run → List Call → Run
unfolding after
ran r [] = r
ran r (c ∷ cs) = ran (after r c) cs

-- the state at the start: the plain list is empty and the sum is 0
unfoldable pub start_of : List ℕ → Run
start_of l = record { image = l; plain = []; sum = pos 0 }

-- the state after these calls on the fresh image of a head and an alphabet, which make leaves
abbrev pub ran_from : Head → List ℕ → List ℕ → List Call → Run
ran_from h alphabet image cs = ran (start_of (fresh_image h alphabet image)) cs
