-- `measure::measure_walk` meets its contract. An image that passes the check is accepted, and
-- its head is the one that the check read; then the walk answers. For an image that is refused
-- the answer is 0. Assumes nothing.
use Rattle.audit.proofs.Verdicts.{checked_accepted, checked_head}
use Rattle.measure.proofs.Meeting.{walk_refused, walk_passed}
use Rattle.measure.proofs.measure_walk.Goals as goal

pub of-requires : goal.of-requires
of-requires c =
    let o = c.check.ensures in
    record { accepted = checked_accepted o c.in-Ok.is; own = checked_head o c.in-Ok.is }

pub returns-in-Err : goal.returns-in-Err
returns-in-Err c =
    let o = c.check.ensures in
    record { value = walk_refused o c.in-Err.is; work_after = o.numbers }

pub returns-in-Ok : goal.returns-in-Ok
returns-in-Ok c =
    let o = c.check.ensures in
    record {
      value = walk_passed o c.in-Ok.is (rw c.of.ensures.bytes at c.count_met.ensures);
      work_after = o.numbers;
    }
