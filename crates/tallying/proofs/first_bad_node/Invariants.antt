use Rattle.node.specs.Read.{node_table}
use Rattle.tallying.proofs.Tallying.{Tallying}
use Rattle.tallying.proofs.first_bad_node.Given as goal

abbrev pub invariant-loop-q : goal.invariant-loop-q
invariant-loop-q l = Tallying l.nodes.head (node_table l.nodes) l.initial.work l.work l.q
