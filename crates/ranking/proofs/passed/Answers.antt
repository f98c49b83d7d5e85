-- `ranking::passed` meets its contract: the keys added and the keys still to come below the
-- letter make up the whole. Assumes nothing.
use lib.ListN.{get_or}
use native.Mathlib.Omega.{arith}
use Rattle.ranking.proofs.ByLetter.{below_link, rest_all, rest_none}
use Rattle.ranking.proofs.ByLetter.{rest_empty, rest_counted}
use Rattle.ranking.proofs.passed.Goals as goal
use Rattle.ranking.proofs.passed.Goals.{then-c-ne0, else-c-ne0}

pub loop-i-init : goal.loop-i-init
loop-i-init c =
    let a = c.args in
    let n = a.counted.sound.nodes in
    omega (arith, rest_all n.head n.image.now a.node a.depth a.letter)

-- the list has the child's count
pub overflow_add-sum : goal.overflow_add-sum
overflow_add-sum c =
    let a = c.args in
    let n = a.counted.sound.nodes in
    let here = below_link n.head n.image.now a.node a.depth a.counted.counts.now c.loop-i.i
    c.requires.child_counts c.link-c.ensures c.if-c-ne0.true in
    omega (
      arith,
      c.loop-i.invariant,
      rest_counted n.head n.image.now a.node a.depth a.letter c.loop-i.i
          (get_or a.counted.counts.now c.link-c.result 0) c.loop-i-test.true here.1,
      c.requires.rank_fits,
    )

pub loop-i-preserved : goal.loop-i-preserved
loop-i-preserved c =
    let a = c.args in
    let n = a.counted.sound.nodes in
    elim c.if-c-ne0.branch [
      | then-c-ne0 w ↦
          let here = below_link n.head n.image.now a.node a.depth a.counted.counts.now c.loop-i.i
          c.requires.child_counts c.link-c.ensures w.if-c-ne0.true in
          let next = rest_counted n.head n.image.now a.node a.depth a.letter c.loop-i.i
          (get_or a.counted.counts.now c.link-c.result 0) c.loop-i-test.true here.1 in
          omega (arith, w.sum-is, c.loop-i.invariant, next)
      | else-c-ne0 w ↦
          let e = rest_empty n.head n.image.now a.node a.depth a.letter c.loop-i.i
          c.loop-i-test.true c.link-c.ensures w.if-c-ne0.false in
          omega (arith, w.sum-is, c.loop-i.invariant, e)
    ]

pub returns : goal.returns
returns c =
    let a = c.args in
    let n = a.counted.sound.nodes in
    omega (
      arith,
      c.loop-i.invariant,
      rest_none n.head n.image.now a.node a.depth a.letter c.loop-i.i c.loop-i-test.false,
    )
