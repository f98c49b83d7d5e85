-- `audit::check` meets its contract: where opening refuses, its answer is the check's; else 5 to
-- 8 follow. Assumes nothing.
use mathlib.Core.Path.{refl}
use Rattle.std.proofs.lemmas.Result.{err_from_is_err_and}
use Rattle.opening.proofs.Passed.{known_opened}
use Rattle.audit.proofs.Verdicts.{checked_refused, checked_stopped, checked_passed}
use Rattle.audit.proofs.check.Goals as goal

pub of-requires : goal.of-requires
of-requires c = (known_opened c.in_ok-h.ensures refl).image

pub audit-requires : goal.audit-requires
audit-requires c = rw c.of.ensures.bytes (known_opened c.in_ok-h.ensures refl).short

pub returns-in_err-h : goal.returns-in_err-h
returns-in_err-h c =
    let f = c.from_residual in
    let e = err_from_is_err_and f.result f.ensures.1 in
    rw (e.1, e.2) (checked_refused c.in_err-h.ensures _)

pub returns-in_err-audit : goal.returns-in_err-audit
returns-in_err-audit c =
    let f = c.from_residual-in_err-audit in
    let e = err_from_is_err_and f.result f.ensures.1 in
    let same = c.of.ensures in
    rw (e.1, e.2) (checked_stopped c.in_ok-h.ensures
    (rw (same.head, same.bytes) at c.in_err-audit.ensures))

pub returns : goal.returns
returns c =
    let same = c.of.ensures in
    checked_passed c.in_ok-h.ensures (rw (same.head, same.bytes) at c.in_ok-audit.ensures)
