-- `head::Head::fits` meets its contract: it compares U with the length. Assumes nothing.
use mathlib.Core.Path.{ap}
use Prim.Native.Nat.{ℕ}
use lib.Dec.{leb}
use Rattle.head.proofs.Head.fits.Goals as goal

pub returns : goal.returns
returns c = ap (λ (u : ℕ). leb u c.args.len) c.used.ensures
