-- `field::read4` meets its contract: `from_be_bytes` is the definition at width 4, written out.
-- Assumes nothing.
use native.Mathlib.Nat.{add-zero}
use native.Mathlib.Omega.{arith}
use Prim.Native.Nat.{ℕ}
use mathlib.Core.Path.{ap}
use lib.ListN.{get_or}
use Rattle.field.specs.Field.{field_at}
use Rattle.field.proofs.read4.Goals as goal

pub returns : goal.returns
unfolding field_at
returns c =
    let s = c.args.s.now in
    let at = c.args.at in
    omega (arith, c.from_be_bytes.ensures, ap (λ (k : ℕ). get_or s k 0) (add-zero at))
