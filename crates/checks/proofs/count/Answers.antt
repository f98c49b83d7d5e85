-- `checks::count` meets its contract: the audit judges the check's rows, and an image that has
-- passed them is accepted, as the count requires. Assumes nothing.
use Rattle.std.proofs.lemmas.Result.{err_from_is_err_and}
use Rattle.checks.proofs.CheckReturns.{checked_accepts, counts_refused, counts_done}
use Rattle.checks.proofs.count.Goals as goal

pub of-requires : goal.of-requires
of-requires c =
    let o = c.in_ok-h.ensures in
    record { accepted = checked_accepts o; own = o.head }

pub returns-in_err-h : goal.returns-in_err-h
returns-in_err-h c =
    let f = c.from_residual in
    let e = err_from_is_err_and f.result f.ensures.1 in
    rw (e.1, e.2) (counts_refused c.in_err-h.ensures)

pub returns : goal.returns
returns c =
    let same = c.of.ensures in
    counts_done c.in_ok-h.ensures (rw (same.head, same.bytes) at c.count.ensures)
