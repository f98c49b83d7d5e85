use Prim.Native.Nat.{◌+◌}
use mathlib.Core.Path.{◌≡◌}
use Rattle.ranking.specs.Ranking.{under_lower}
use Rattle.ranking.proofs.ByLetter.{rest}
use Rattle.ranking.proofs.passed.Given as goal

abbrev pub invariant-loop-i : goal.invariant-loop-i
invariant-loop-i l =
    (let n = l.counted.sound.nodes in
    l.sum + rest n.head n.image.now l.node l.depth l.letter l.i
    ≡ l.before + under_lower n.head n.image.now l.node l.depth l.letter)
