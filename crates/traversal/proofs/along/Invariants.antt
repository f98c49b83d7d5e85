use Rattle.key.specs.Hand.{letters_of}
use Rattle.traversal.proofs.Following.{Following}
use Rattle.traversal.proofs.along.Given as goal

abbrev pub invariant-loop-depth : goal.invariant-loop-depth
invariant-loop-depth l =
    Following l.nodes.head l.nodes.image.now (letters_of l.fn.key) l.letters l.addresses l.here
    l.depth
