-- The walk of a listing, as bench/ measures it: how many stored keys it meets. The empty key, if
-- it is stored, is read before the walk starts and is not counted.
use Rattle.std.specs.Prelude.{ℕ, true, List, [], length}
use Rattle.std.proofs.Math.Option.{none, some}
use Rattle.trie.specs.Keys.{meets, filter}
use Rattle.paper.specs.Hearing.{Row, first}
use Rattle.paper.specs.Orders.{check_order}
use Rattle.paper.specs.Calls.{stored_keys}

-- the number of stored keys after the empty key
unfoldable pub keys_met : List ℕ → ℕ
unfolding filter meets stored_keys
keys_met l = length (filter (meets true []) (stored_keys l))

-- 0 if the check refuses the image
unfoldable pub keys_met_by : Row → List ℕ → ℕ
unfolding keys_met
keys_met_by none l = keys_met l
keys_met_by (some s) l = 0

-- what `measure_walk` answers
abbrev pub checked_keys_met : List ℕ → List ℕ → ℕ
checked_keys_met l work = keys_met_by (first (check_order l work)) l
