use Rattle.key.specs.Hand.{letters_of}
use Rattle.ranking.proofs.Placing.{Placing}
use Rattle.ranking.proofs.rank.Given as goal

abbrev pub invariant-loop-depth : goal.invariant-loop-depth
invariant-loop-depth l =
    (let n = l.counted.sound.nodes in
    Placing n.head n.image.now (letters_of l.fn.key) l.node l.depth l.before)
