use Prim.Native.Nat.{◌-◌}
use Rattle.ranking.proofs.Spotting.{Spotting}
use Rattle.ranking.proofs.key_at.Given as goal

abbrev pub invariant-loop-position : goal.invariant-loop-position
invariant-loop-position l =
    (let n = l.counted.sound.nodes in
    Spotting n.head n.image.now l.position l.initial.path l.path l.node l.depth l.left)

abbrev pub decreases-loop-position : goal.decreases-loop-position
decreases-loop-position l = l.counted.sound.nodes.head.max - l.depth
