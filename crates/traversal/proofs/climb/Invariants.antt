use Rattle.traversal.proofs.Climbing.{Climbing}
use Rattle.traversal.proofs.climb.Given as goal

abbrev pub invariant-loop-depth : goal.invariant-loop-depth
invariant-loop-depth l =
    Climbing l.nodes.head l.nodes.image.now l.fn.letters l.end l.fn.first l.letters
    l.addresses l.depth
