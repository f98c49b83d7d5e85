-- `lines::number` meets its contract. A turn stores the last digit of the number and goes on
-- with the rest of it, in a width that is one digit shorter. Assumes nothing.
use native.Mathlib.Omega.{arith}
use Rattle.lines.proofs.Digits.{decimal_long}
use Rattle.lines.proofs.LineLoops.{filling_none, filling_more, filling_all}
use Rattle.lines.proofs.number.Goals as goal

pub loop-i-init : goal.loop-i-init
loop-i-init c = filling_none _ _ _ c.places-width.ensures (omega arith)

pub overflow_add-out-in-loop-i : goal.overflow_add-out-in-loop-i
overflow_add-out-in-loop-i c = omega (arith, decimal_long c.args.v)

pub bounds-out-at : goal.bounds-out-at
bounds-out-at c = omega (arith, decimal_long c.args.v)

pub loop-i-preserved : goal.loop-i-preserved
loop-i-preserved c = filling_more c.loop-i.invariant (omega arith)

pub overflow_add-result : goal.overflow_add-result
overflow_add-result c = omega (arith, decimal_long c.args.v)

pub returns : goal.returns
returns c = record { bytes = filling_all c.loop-i.invariant (omega arith); ends = omega arith }
