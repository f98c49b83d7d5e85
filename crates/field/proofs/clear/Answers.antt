-- `field::clear` meets its contract. Clearing writes a list of zeros, and each turn stores the
-- next of them. Assumes nothing.
use mathlib.Core.Path.{sym}
use Prim.Native.Nat.{ℕ}
use native.Mathlib.Omega.{arith}
use lib.ListN.{length-replicate, get_or-replicate}
use Rattle.field.proofs.FieldLoops.{laying_none, laying_more, laying_all}
use Rattle.field.proofs.clear.Goals as goal

pub loop-i-init : goal.loop-i-init
loop-i-init c = laying_none _ _ _

pub loop-i-preserved : goal.loop-i-preserved
loop-i-preserved c =
    let n = c.args.n in
    let i = c.loop-i.i in
    laying_more c.loop-i.invariant (omega (arith, length-replicate {A = ℕ} n 0))
    (sym (get_or-replicate n i 0 0 (omega arith)))

pub returns : goal.returns
returns c =
    laying_all c.loop-i.invariant
    (omega (arith, length-replicate {A = ℕ} c.args.n 0))
