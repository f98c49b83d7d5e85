-- `depths::own_value` meets its contract: no stored key ends at a depth below min; at any other
-- depth the value is the node's data. Assumes nothing.
use mathlib.Core.Path.{sym, ◌∙◌}
use Rattle.node.specs.Read.{node_table}
use Rattle.depths.proofs.Links.{own_below, own_data}
use Rattle.depths.proofs.own_value.Goals as goal

pub returns-then-depth-nodes : goal.returns-then-depth-nodes
returns-then-depth-nodes c =
    let a = c.args in
    sym (own_below a.nodes.head (node_table a.nodes) a.node a.depth c.if-depth-nodes.true)

pub returns : goal.returns
returns c =
    let a = c.args in
    c.data.ensures ∙ sym
    (own_data a.nodes.head (node_table a.nodes) a.node a.depth c.if-depth-nodes.false)
