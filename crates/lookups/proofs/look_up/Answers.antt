-- `lookups::look_up` meets its contract: the opening gives 1 to 4, the key in hand 9 and 10, and
-- the walk 6 or the value. Assumes nothing.
use mathlib.Core.Path.{refl}
use Rattle.std.proofs.lemmas.Result.{err_from_is_err_and}
use Rattle.opening.proofs.Passed.{known_opened}
use Rattle.key.proofs.Keyed.{keyed}
use Rattle.lookups.proofs.LookUpReturns.{looks_up_unopened, looks_up_unkeyed}
use Rattle.lookups.proofs.LookUpReturns.{look_asks, looks_up_found}
use Rattle.lookups.proofs.look_up.Goals as goal

pub judge-requires : goal.judge-requires
judge-requires c = (known_opened c.in_ok-h.ensures refl).image.head_permitted

pub of-requires : goal.of-requires
of-requires c = (known_opened c.in_ok-h.ensures refl).image

pub look-requires : goal.look-requires
look-requires c =
    let o = c.in_ok-h.ensures in
    rw c.of.ensures.head (look_asks o (keyed o c.in_ok-key.ensures))

pub returns-in_err-h : goal.returns-in_err-h
returns-in_err-h c =
    let f = c.from_residual in
    let e = err_from_is_err_and f.result f.ensures.1 in
    rw (e.1, e.2) (looks_up_unopened _ c.in_err-h.ensures)

pub returns-in_err-key : goal.returns-in_err-key
returns-in_err-key c =
    let f = c.from_residual-in_err-key in
    let e = err_from_is_err_and f.result f.ensures.1 in
    let o = c.in_ok-h.ensures in
    rw (e.1, e.2) (looks_up_unkeyed o (keyed o c.in_err-key.ensures))

pub returns : goal.returns
returns c =
    let o = c.in_ok-h.ensures in
    let same = c.of.ensures in
    looks_up_found o (keyed o c.in_ok-key.ensures) (rw (same.head, same.bytes) at c.look.ensures)
