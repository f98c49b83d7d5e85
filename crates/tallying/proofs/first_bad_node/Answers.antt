-- `tallying::first_bad_node` meets its contract: number 0 tells whether the root hides data. Then
-- each turn counts the links of one more node, or stops at a node with a bad link, which is then
-- the lowest. Assumes nothing.
use native.Mathlib.Omega.{arith}
use Rattle.reaching.proofs.Kept.{kept_set}
use Rattle.tallying.proofs.Tallying.{tallying_none, tallying_more, tallying_bad}
use Rattle.tallying.proofs.Tallying.{tallying_all}
use Rattle.tallying.proofs.first_bad_node.Goals as goal
use Rattle.tallying.proofs.first_bad_node.Goals.{then-hides, else-hides}

pub loop-q-init : goal.loop-q-init
loop-q-init c =
    tallying_none _ _ _ _ c.requires.room c.requires.zeros c.hides.ensures
    (λ e. elim c.if-hides.branch [
      | then-hides w ↦ absurd (omega arith)
      | else-hides w ↦ w.if-hides.false
    ])

pub returns-then-not-tally : goal.returns-then-not-tally
returns-then-not-tally c =
    tallying_bad c.loop-q.invariant (kept_set _ _ (omega arith)) (omega arith)
    c.if-not-tally.true c.tally.ensures

pub loop-q-preserved : goal.loop-q-preserved
loop-q-preserved c =
    tallying_more c.loop-q.invariant (omega arith) c.if-not-tally.false
    c.tally.ensures

pub returns : goal.returns
returns c =
    tallying_all c.loop-q.invariant (kept_set _ _ (omega arith)) (omega arith)
