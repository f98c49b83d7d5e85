-- `field::short_blank` meets its contract: the first eight and the last eight cover eight to
-- fifteen bytes. Assumes nothing.
use native.Mathlib.Omega.{arith}
use borrow.Author.Tests.{eqb-true}
use Rattle.field.proofs.FieldLoops.{short_zeros}
use Rattle.field.proofs.short_blank.Goals as goal

pub returns : goal.returns
returns c e =
    let z = eqb-true _ _ e in
    short_zeros _ _ _ (omega arith) (omega arith) (c.eight-first.ensures z)
    (c.eight.ensures (omega arith))
