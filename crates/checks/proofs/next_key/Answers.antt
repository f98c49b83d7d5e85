-- `checks::next_key` meets its contract: the audit judges the check's rows, and `seeking` does the
-- rest. Assumes nothing.
use Rattle.std.proofs.lemmas.Result.{err_from_is_err_and}
use Rattle.checks.proofs.CheckReturns.{checked_accepts, nexts_refused, nexts_seek}
use Rattle.checks.proofs.next_key.Goals as goal

pub of-requires : goal.of-requires
of-requires c =
    let o = c.in_ok-h.ensures in
    record { accepted = checked_accepts o; own = o.head }

pub returns-in_err-h : goal.returns-in_err-h
returns-in_err-h c =
    let f = c.from_residual in
    let e = err_from_is_err_and f.result f.ensures.1 in
    rw (e.1, e.2) (nexts_refused c.in_err-h.ensures _ _ _)

pub returns : goal.returns
returns c = nexts_seek c.in_ok-h.ensures _ _ _ _ (rw c.of.ensures.bytes at c.seek.ensures)
