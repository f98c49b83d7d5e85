-- 01, "What the bench may hear", 1 to 13: what a store needs to be done, stated without the rows.
-- The image is accepted, and none of 9 to 13 applies. Demand 3's theorem (`store_done_exactly`): a
-- store is done exactly where the key that is meant has this and enough working numbers are lent.
use Rattle.std.specs.Prelude.{ℕ, ◌+◌, ◌*◌, ◌^◌, ◌≤◌, ◌<◌, ◌≡◌, true, List, length}
use Rattle.field.specs.Range.{between}
use Rattle.trie.specs.Table.{LettersBelow}
use Rattle.head.specs.declared.Head.{Head}
use Rattle.head.specs.Fields.{head_of, node_width, used_len}
use Rattle.paper.specs.Orders.{new_of}
use Rattle.paper.specs.Accepted.{Accepted}

-- a key that 9 and 10 do not refuse
pub record Fit (h : Head) (key : List ℕ) : Type 0 where
  -- its length is in min..max
  pub allowed : between (length key) h.min h.max ≡ true
  -- its letter numbers are below N
  pub below : LettersBelow h.n key

-- a store of a value under a key, which nothing but too few working numbers can refuse
pub record Granted (l key : List ℕ) (value : ℕ) : Type 0 where
  pub accepted : Accepted l
  pub fit : Fit (head_of l) key
  -- not 11: "value above 256^D - 1"
  pub value_fits : value < 256 ^ (head_of l).d
  -- not 12: "G + k above 256^A - 1, with k above 0"
  pub addresses : 0 < new_of (head_of l) l key value
      → (head_of l).g + new_of (head_of l) l key value < 256 ^ (head_of l).a
  -- not 13: "U + k*W exceeds the image's length, with k above 0"
  pub room : 0 < new_of (head_of l) l key value
      → used_len (head_of l) + new_of (head_of l) l key value * node_width (head_of l) ≤ length l
