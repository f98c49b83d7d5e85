-- `face::done_with` meets its contract: the fields are the numbers, and the change fits its 32
-- bits. Assumes nothing.
use mathlib.Core.Path.{ap}
use lib.IntN.{ℤ}
use mir.Syntax.{w32}
use mir.Facts.{to_z-of_z}
use Rattle.paper.specs.Hearing.{done_numbers}
use Rattle.face.proofs.done_with.Goals as goal

pub returns : goal.returns
unfolding done_numbers
returns c = ap (λ (z : ℤ). done_numbers c.args.length z c.args.value)
    (to_z-of_z {w = w32} c.ranges.change)
