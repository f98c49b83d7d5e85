-- `field::write` meets its contract. A turn stores the last byte of the number and goes on with
-- the rest of it, in a field that is one byte shorter. Assumes nothing.
use native.Mathlib.Omega.{arith}
use Rattle.field.proofs.FieldLoops.{writing_none, writing_more, writing_all}
use Rattle.field.proofs.write.Goals as goal

pub loop-i-init : goal.loop-i-init
loop-i-init c = writing_none _ _ _ _

pub loop-i-preserved : goal.loop-i-preserved
loop-i-preserved c = writing_more c.loop-i.invariant (omega arith)

pub returns : goal.returns
returns c = writing_all c.loop-i.invariant (omega arith)
