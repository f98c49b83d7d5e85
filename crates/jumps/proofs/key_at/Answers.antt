-- `jumps::key_at` meets its contract: the comparison judges the check's rows and 25, and
-- `tell_key` does the rest. Assumes nothing.
use Rattle.std.proofs.lemmas.Result.{err_from_is_err_and}
use Rattle.jumps.proofs.KeyAtReturns.{spot_asks, gives_key_refused, gives_key_spotted}
use Rattle.jumps.proofs.key_at.Goals as goal

pub of-requires : goal.of-requires
of-requires c =
    let asks = spot_asks c.in_ok-h.ensures in
    record { accepted = asks.0; own = asks.1.0; right = asks.1.1 }

pub returns-in_err-h : goal.returns-in_err-h
returns-in_err-h c =
    let f = c.from_residual in
    let e = err_from_is_err_and f.result f.ensures.1 in
    rw (e.1, e.2) (gives_key_refused _ _ c.in_err-h.ensures)

pub returns : goal.returns
returns c =
    gives_key_spotted _ _ _ c.in_ok-h.ensures (rw c.of.ensures.bytes at c.tell_key.ensures)
