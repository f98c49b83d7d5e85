use Rattle.node.specs.Read.{node_table}
use Rattle.tracking.proofs.Shifting.{Going}
use Rattle.tracking.proofs.shift.Given as goal

abbrev pub invariant-loop-letter : goal.invariant-loop-letter
invariant-loop-letter l =
    Going (node_table l.nodes) l.letter-items l.gain l.loss l.initial.counts l.counts
    l.letter-index
    l.node
