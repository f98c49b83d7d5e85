-- `traversal::start` meets its contract: a path of no letters leads to the root, which is
-- written as the first node. Assumes nothing.
use lib.ListN.{set}
use lib.Seq.{get_or-set_same}
use Rattle.traversal.proofs.Paths.{along_none}
use Rattle.traversal.proofs.start.Goals as goal

pub returns-clause-along : goal.returns-clause-along
returns-clause-along c =
    let n = c.args.nodes in
    let list = c.args.addresses.now in
    λ path. along_none n.head n.image.now path (set list 0 0)
    (get_or-set_same list 0 0 0 c.requires)
