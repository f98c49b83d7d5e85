use Rattle.node.specs.Read.{node_table}
use Rattle.tallying.proofs.Tallying.{Counting}
use Rattle.tallying.proofs.tally.Given as goal

abbrev pub invariant-loop-i : goal.invariant-loop-i
invariant-loop-i l = Counting l.nodes.head (node_table l.nodes) l.q l.initial.work l.work l.i
