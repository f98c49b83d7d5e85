use Prim.Native.Nat.{◌-◌}
use Rattle.weighing.proofs.Weighing.{Weighing}
use Rattle.weighing.proofs.+weighed.Given as goal

abbrev pub decreases-weighed : goal.decreases-weighed
decreases-weighed l = l.sound.nodes.head.max - l.depth

abbrev pub invariant-loop-i : goal.invariant-loop-i
invariant-loop-i l =
    Weighing l.sound.nodes.head l.sound.nodes.image.now l.node l.depth l.initial.list l.list
    l.sum l.i
