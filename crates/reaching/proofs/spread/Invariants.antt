use Rattle.node.specs.Read.{node_table}
use Rattle.reaching.proofs.Spreading.{Spreading}
use Rattle.reaching.proofs.spread.Given as goal

abbrev pub invariant-loop-i : goal.invariant-loop-i
invariant-loop-i l =
    Spreading (node_table l.nodes) l.nodes.head.g l.nodes.head.n l.q l.top-2 l.initial.work l.i
    l.top l.work
