-- `head::Head::used` meets its contract: U is where node G+1 would begin, and G+1 is at most
-- 2^32. Assumes nothing.
use Rattle.head.specs.Fields.{used_len}
use Rattle.head.proofs.Head.used.Goals as goal

pub returns : goal.returns
unfolding used_len
returns c = c.node_place.ensures
