-- `counts::check_counts` meets its contract: the comparison gives the first refusal that
-- applies, and leaves the working numbers as the call must. Assumes nothing.
use mathlib.Core.Path.{refl}
use Rattle.std.proofs.lemmas.Result.{err_from_is_err_and}
use Rattle.counts.proofs.CountsReturns.{check_counts_refused, check_counts_done}
use Rattle.counts.proofs.check_counts.Goals as goal

pub returns-in_err-compare : goal.returns-in_err-compare
returns-in_err-compare c =
    let f = c.from_residual in
    let e = err_from_is_err_and f.result f.ensures.1 in
    rw (e.1, e.2) (check_counts_refused c.in_err-compare.ensures refl)

pub returns : goal.returns
returns c = check_counts_done c.in_ok-compare.ensures refl
