-- `checks::check` meets its contract: the audit gives the first of the check's rows that applies,
-- and leaves the working numbers as 01 says. Assumes nothing.
use Rattle.std.proofs.lemmas.Result.{err_from_is_err_and}
use Rattle.checks.proofs.CheckReturns.{checks_refused, checks_done}
use Rattle.checks.proofs.check.Goals as goal

pub returns-in_err-check : goal.returns-in_err-check
returns-in_err-check c =
    let f = c.from_residual in
    let e = err_from_is_err_and f.result f.ensures.1 in
    rw (e.1, e.2) (checks_refused c.in_err-check.ensures)

pub returns : goal.returns
returns c = checks_done c.in_ok-check.ensures
