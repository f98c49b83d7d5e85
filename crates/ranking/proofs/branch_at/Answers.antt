-- `ranking::branch_at` meets its contract: letter by letter the position falls by the keys that
-- come before, until it is below the number of keys of a letter. Assumes nothing.
use Prim.Native.Nat.{◌<◌}
use native.Mathlib.Omega.{arith}
use mathlib.Core.Path.{◌≡◌}
use lib.ListN.{length, get_or}
use Rattle.head.proofs.Permitted.{bounds}
use Rattle.ranking.proofs.ByLetter.{sizes, below_link}
use Rattle.ranking.proofs.ByLetter.{turning_empty, turning_past, turning_here, turning_none}
use Rattle.ranking.proofs.branch_at.Goals as goal
use Rattle.ranking.proofs.branch_at.Goals.{Else-c-eq0}

pub loop-i-preserved-then-c-eq0 : goal.loop-i-preserved-then-c-eq0
loop-i-preserved-then-c-eq0 c =
    turning_empty _ _ _ _ c.requires.depth c.loop-i.invariant
    c.loop-i-test.true c.link-c.ensures c.if-c-eq0.true

-- the link is not empty: the list has the child's count
listed : (c : Else-c-eq0)
    → (let a = c.args in
    let n = a.counted.sound.nodes in
    (c.link-c.result < length a.counted.counts.now)
    × (get_or a.counted.counts.now c.link-c.result 0
    ≡ sizes n.head n.image.now a.node a.depth c.loop-i.i))
listed c =
    let a = c.args in
    let n = a.counted.sound.nodes in
    below_link n.head n.image.now a.node a.depth a.counted.counts.now c.loop-i.i
    c.requires.child_counts c.link-c.ensures c.if-c-eq0.false

pub overflow_cast-result : goal.overflow_cast-result
overflow_cast-result c =
    omega (
      arith,
      bounds c.args.counted.sound.nodes.head c.args.counted.sound.nodes.open.head_permitted,
      c.loop-i-test.true,
    )

pub returns-then-left-under : goal.returns-then-left-under
returns-then-left-under c =
    turning_here _ _ _ _ c.requires.depth c.loop-i.invariant _
    c.loop-i-test.true (listed (goal.at.returns-then-left-under c).Else-c-eq0).1
    c.if-left-under.true
    c.link-c.ensures c.if-c-eq0.false

pub loop-i-preserved : goal.loop-i-preserved
loop-i-preserved c =
    turning_past _ _ _ _ c.requires.depth c.loop-i.invariant _
    c.loop-i-test.true (listed (goal.at.loop-i-preserved c).Else-c-eq0).1 c.if-left-under.false

pub unreachable-requires : goal.unreachable-requires
unreachable-requires c =
    turning_none _ _ _ _ c.requires.depth c.loop-i.invariant c.loop-i-test.false
