-- Demand 3, of every store at once, plain, with writes or with counts, by letters or by text: what
-- is so of the image that a store leaves where it is done.
use Rattle.std.specs.Prelude.{ℕ, ◌+◌, ◌≡◌, ◌≢◌, List, length, get_or, ℤ, pos, ◌+ℤ◌}
use Rattle.std.proofs.Math.Option.{Option, none, some}
use Rattle.trie.specs.Table.{descend}
use Rattle.head.specs.Fields.{head_of}
use Rattle.node.specs.Frame.{Touched}
use Rattle.paper.specs.Given.{Given, meant_in, key_in}
use Rattle.paper.specs.Orders.{new_of}
use Rattle.paper.specs.Calls.{table_in, stored_keys, telling, look_up_of}
use Rattle.paper.specs.Accepted.{Accepted}
use Rattle.calls.specs.Call.{Call, make, check, count, look_up, store, store_writes, mend}
use Rattle.calls.specs.Call.{next_key, counts, check_counts, store_counts, key_at, position}

-- a key as it is given, and a value
pub record Wanted : Type 0 where
  pub given : Given
  pub value : ℕ

-- what a store is asked to store; every other call is asked for nothing of the sort
unfoldable pub wanted_by : Call → Option Wanted
wanted_by (make n a d alphabet least most) = none
wanted_by (check work) = none
wanted_by (count work) = none
wanted_by (look_up given) = none
wanted_by (store work given value) = some (record { given = given; value = value })
wanted_by (store_writes work given value list) = some (record { given = given; value = value })
wanted_by (mend work) = none
wanted_by (next_key work key after buffer) = none
wanted_by (counts work tally) = none
wanted_by (check_counts work tally) = none
wanted_by (store_counts work given value tally) = some (record { given = given; value = value })
wanted_by (key_at work tally at buffer) = none
wanted_by (position work tally given) = none

-- the image l, a store of what is wanted, the change that it answers, and the image that it leaves
pub record StoreDone (l : List ℕ) (w : Wanted) (change : ℤ) (image : List ℕ) : Type 0 where
  -- "Otherwise the image is again accepted"
  pub accepted : Accepted image
  -- "the key answers the new value", however it is given
  pub new_value : (given : Given) → meant_in l given ≡ meant_in l w.given
      → look_up_of image given ≡ telling w.value
  -- "and every other key answers as before", or is refused as before
  pub others : (given : Given) → meant_in l given ≢ meant_in l w.given
      → look_up_of image given ≡ look_up_of l given
  -- "Only the missing nodes are added"
  pub total : (head_of image).g
      ≡ (head_of l).g + new_of (head_of l) l (key_in l w.given) w.value
  -- "and no old byte changes but the node total, one link and the key's own data field"
  pub old_bytes : (p : ℕ)
      → ¬ Touched (head_of l) (descend (table_in l) 0 (key_in l w.given)) w.value p
      → get_or image p 0 ≡ get_or l p 0
  pub same_length : length image ≡ length l
  -- "the change in the number of stored keys"
  pub changed : pos (length (stored_keys image)) ≡ pos (length (stored_keys l)) +ℤ change
