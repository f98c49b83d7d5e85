use Rattle.ranking.proofs.ByLetter.{Turning}
use Rattle.ranking.proofs.branch_at.Given as goal

abbrev pub invariant-loop-i : goal.invariant-loop-i
invariant-loop-i l =
    (let n = l.counted.sound.nodes in
    Turning n.head n.image.now l.node l.depth l.position l.left l.i)
