-- `noting::note` meets its contract: two numbers are set, one after the other. Assumes nothing.
use Prim.Native.Nat.{◌*◌}
use native.Mathlib.Numerals.{add-one}
use Rattle.noting.proofs.note.Goals as goal

pub returns : goal.returns
returns c = rw (add-one (2 * c.args.i))
