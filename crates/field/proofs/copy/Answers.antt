-- `field::copy` meets its contract. A turn stores the next element of what is copied. Assumes
-- nothing.
use mathlib.Core.Path.{refl}
use native.Mathlib.Omega.{arith}
use Rattle.field.proofs.FieldLoops.{laying_none, laying_more, laying_all}
use Rattle.field.proofs.copy.Goals as goal

pub loop-i-init : goal.loop-i-init
loop-i-init c = laying_none _ _ _

pub loop-i-preserved : goal.loop-i-preserved
loop-i-preserved c = laying_more c.loop-i.invariant (omega arith) refl

pub returns : goal.returns
returns c = laying_all c.loop-i.invariant (omega arith)
