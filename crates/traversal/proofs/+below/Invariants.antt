use Prim.Native.Nat.{◌-◌}
use Rattle.traversal.proofs.Searching.{Passing}
use Rattle.traversal.proofs.+below.Given as goal

abbrev pub decreases-below : goal.decreases-below
decreases-below l = l.nodes.now.head.max - l.depth

abbrev pub invariant-loop-i : goal.invariant-loop-i
invariant-loop-i l =
    Passing l.nodes.head l.nodes.image.now l.initial.letters l.initial.addresses l.depth l.node
    l.from l.letters l.addresses l.i
