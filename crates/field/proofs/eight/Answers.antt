-- `field::eight` meets its contract. If eight bytes give 0, read with the last byte the most
-- significant, they are eight zeros, and the field is 0 as well. Assumes nothing.
use native.Mathlib.Nat.{add-zero}
use native.Mathlib.Omega.{arith}
use Prim.Native.Nat.{ℕ}
use mathlib.Core.Path.{ap}
use lib.ListN.{get_or}
use Rattle.field.specs.Field.{field_at}
use Rattle.field.proofs.eight.Goals as goal

pub returns : goal.returns
unfolding field_at
returns c e =
    let s = c.args.s.now in
    let at = c.args.at in
    omega (arith, c.from_le_bytes.ensures, ap (λ (k : ℕ). get_or s k 0) (add-zero at))
