-- `counts::counts` meets its contract: the check judges its rows, with 5 for either list; if it
-- has passed, `weighing` works the counts out. Assumes nothing.
use mathlib.Core.Path.{refl}
use Rattle.std.proofs.lemmas.Result.{err_from_is_err_and}
use Rattle.counts.proofs.CountsReturns.{counts_refused, weigh_asks, counts_done}
use Rattle.counts.proofs.counts.Goals as goal

pub of-requires : goal.of-requires
of-requires c =
    let asks = weigh_asks _ _ _ c.in_ok-h.ensures refl in
    record { accepted = asks.0; own = asks.1.0 }

pub weigh-requires : goal.weigh-requires
weigh-requires c =
    let asks = weigh_asks _ _ _ c.in_ok-h.ensures refl in
    rw c.of.ensures.head asks.1.1

pub returns-in_err-h : goal.returns-in_err-h
returns-in_err-h c =
    let f = c.from_residual in
    let e = err_from_is_err_and f.result f.ensures.1 in
    rw (e.1, e.2) (counts_refused _ _ _ c.in_err-h.ensures refl)

pub returns : goal.returns
returns c = counts_done _ _ _ c.in_ok-h.ensures refl (rw c.of.ensures.bytes at c.weigh.ensures)
