-- `depths::no_keys_below` meets its contract: no key lies below a node if no letter may follow,
-- nor if all its links are empty. Assumes nothing.
use Rattle.node.specs.Read.{node_table}
use Rattle.depths.proofs.Links.{keys_below_full, keys_below_asked}
use Rattle.depths.proofs.no_keys_below.Goals as goal

pub returns-then-nodes-depth : goal.returns-then-nodes-depth
returns-then-nodes-depth c =
    let a = c.args in
    keys_below_full a.nodes.head (node_table a.nodes) a.node a.depth c.if-nodes-depth.true

pub returns : goal.returns
returns c =
    let a = c.args in
    keys_below_asked a.nodes.head (node_table a.nodes) a.node a.depth c.if-nodes-depth.false
    c.childless.ensures
