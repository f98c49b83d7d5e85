-- `images::mend` meets its contract: the answer is the check's, except for an 8 whose trial
-- passed. Assumes nothing.
use native.Mathlib.Omega.{arith}
use Rattle.images.proofs.MendReturns.{is_not_linked, lower_asks, mends_passed, mends_other}
use Rattle.images.proofs.MendReturns.{mends_tried}
use Rattle.images.proofs.mend.Goals as goal

pub returns-in_default : goal.returns-in_default
returns-in_default c = mends_passed c.in_default.ensures

pub returns-in_default-why : goal.returns-in_default-why
returns-in_default-why c =
    mends_other c.in-Err.ensures
    (λ k. c.in_default-why.not-NotLinked _ (is_not_linked c.in-Err.why k))

pub lower-trial-requires-clause-some : goal.lower-trial-requires-clause-some
lower-trial-requires-clause-some c = (lower_asks (rw c.in-NotLinked.is at c.in-Err.ensures)).0

pub lower-trial-requires-clause-room : goal.lower-trial-requires-clause-room
lower-trial-requires-clause-room c = (lower_asks (rw c.in-NotLinked.is at c.in-Err.ensures)).1

pub returns : goal.returns
returns c =
    mends_tried (rw c.in-NotLinked.is at c.in-Err.ensures) (omega arith) c.lower-trial.result
    c.lower-trial.ensures c.or.ensures
