-- `reaching::spread` meets its contract: a node without links adds nothing; else each turn follows
-- one more link, and meets its node with its mark if it is new. Assumes nothing.
use Rattle.reaching.proofs.Spreading.{spreading_met, spreading_new}
use Rattle.reaching.proofs.spread.Goals as goal
use Rattle.reaching.proofs.spread.Goals.{then-work-c-eq0, else-work-c-eq0}

pub loop-i-preserved : goal.loop-i-preserved
loop-i-preserved c =
    let p = c.loop-i.invariant in
    let a = c.requires in
    elim c.if-work-c-eq0.branch [
      | then-work-c-eq0 w ↦ rw (w.work-is, w.top-is) (spreading_new p a.within a.room a.node
          c.link-c.ensures w.if-work-c-eq0.true c.deeper-mark.ensures)
      | else-work-c-eq0 w ↦ rw (w.work-is, w.top-is)
          (spreading_met p c.link-c.ensures w.if-work-c-eq0.false)
    ]
