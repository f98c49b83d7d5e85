-- `jumps::position` meets its contract: `asking_counts` judges the check's rows, 25, 9 and 10, and
-- `tell_position` gives 15 or the position. Assumes nothing.
use Rattle.std.proofs.lemmas.Result.{err_from_is_err_and}
use mathlib.Core.Path.{refl}
use Rattle.asking_counts.proofs.AskingCounts.{asked_right, asked_length}
use Rattle.jumps.proofs.PositionReturns.{gives_position_refused, gives_position_placed}
use Rattle.jumps.proofs.position.Goals as goal

pub of-requires : goal.of-requires
of-requires c =
    let o = c.in_ok-asked.ensures in
    record {
      accepted = o.allowed.accepted;
      own = o.allowed.head;
      right = asked_right _ _ o refl;
    }

pub tell_position-requires : goal.tell_position-requires
tell_position-requires c =
    let o = c.in_ok-asked.ensures in
    let same = c.of.ensures in
    record {
      ready = rw same.head o.allowed.ready;
      allowed = rw same.head (asked_length _ _ o refl);
    }

pub returns-in_err-asked : goal.returns-in_err-asked
returns-in_err-asked c =
    let f = c.from_residual in
    let e = err_from_is_err_and f.result f.ensures.1 in
    rw (e.1, e.2) (gives_position_refused _ _ c.in_err-asked.ensures)

pub returns : goal.returns
returns c =
    gives_position_placed _ _ c.in_ok-asked.ensures
    (rw c.of.ensures.bytes at c.tell_position.ensures)
