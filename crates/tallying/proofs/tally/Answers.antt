-- `tallying::tally` meets its contract: a node without links adds nothing; else each turn counts
-- one more link, or stops at a bad one. Assumes nothing.
use mathlib.Core.Path.{sym}
use Prim.Native.Nat.{◌<◌}
use native.Mathlib.Omega.{arith}
use lib.ListN.{length}
use Rattle.node.specs.Read.{node_table}
use Rattle.paper.proofs.Linking.{not_bad}
use Rattle.tallying.proofs.Tallying.{counting_none, counting_empty, counting_room}
use Rattle.tallying.proofs.Tallying.{counting_first, counting_again, Noted, noted_tests}
use Rattle.tallying.proofs.Tallying.{noted_other, tallied_bad, tallied_childless}
use Rattle.tallying.proofs.tally.Goals as goal
use Rattle.tallying.proofs.tally.Goals.{Joined-c-q, then-c-q, else-c-q}
use Rattle.tallying.proofs.tally.Goals.{then-work-c-eq0, else-work-c-eq0}

pub returns-then-childless : goal.returns-then-childless
returns-then-childless c = tallied_childless _ _ _ _ (c.childless.ensures c.if-childless.true)

pub loop-i-init : goal.loop-i-init
loop-i-init c = counting_none _ _ _ _

pub loop-i-preserved-then-c-eq0 : goal.loop-i-preserved-then-c-eq0
loop-i-preserved-then-c-eq0 c =
    counting_empty c.loop-i.invariant c.link-c.ensures c.if-c-eq0.true

pub returns-then-bad_link : goal.returns-then-bad_link
returns-then-bad_link c =
    tallied_bad c.loop-i.invariant c.loop-i-test.true c.link-c.ensures (sym c.if-bad_link.ensures)

pub hides-requires : goal.hides-requires
hides-requires c = (not_bad _ _).0 (sym c.if-bad_link.ensures)

-- whether the link leads upward, and to no hidden data, is noted in number 0
noted : (c : Joined-c-q) → let nodes = c.args.nodes in Noted nodes.head (node_table nodes) c.args.q
    c.link-c.result c.deeper-mark.result c.loop-i.work c.if-c-q.work
noted c =
    elim c.if-c-q.branch [
      | then-c-q w ↦
          rw w.work-is (noted_other _ (omega (arith, c.loop-i.auto.work, c.requires.room)))
      | else-c-q w ↦ rw w.work-is (noted_tests _ c.hides.ensures w.if-c-q.false)
    ]

-- the link's address has a working number
room : (c : Joined-c-q) → c.link-c.result < length c.if-c-q.work
room c =
    omega (
      arith,
      c.if-c-q.auto.work,
      counting_room c.loop-i.invariant c.requires.room (sym c.if-bad_link.ensures),
    )

pub bounds-work-c : goal.bounds-work-c
bounds-work-c c = room (goal.at.bounds-work-c c).Joined-c-q

pub bounds-work-c-then-work-c-eq0 : goal.bounds-work-c-then-work-c-eq0
bounds-work-c-then-work-c-eq0 c = room (goal.at.bounds-work-c-then-work-c-eq0 c).Joined-c-q

pub loop-i-preserved : goal.loop-i-preserved
loop-i-preserved c =
    let n = (goal.at.loop-i-preserved c).Joined-c-q in
    let good = sym c.if-bad_link.ensures in
    elim c.if-work-c-eq0.branch [
      | then-work-c-eq0 w ↦ rw w.work-is
          (counting_first c.loop-i.invariant c.link-c.ensures good c.if-c-eq0.false (noted n)
          (room n) w.if-work-c-eq0.true c.deeper-mark.ensures)
      | else-work-c-eq0 w ↦ rw w.work-is
          (counting_again c.loop-i.invariant c.link-c.ensures good c.if-c-eq0.false (noted n)
          (room n) w.if-work-c-eq0.false)
    ]
