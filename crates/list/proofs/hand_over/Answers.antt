-- `list::hand_over` meets its contract: the whole output is short enough to count its bytes.
-- Assumes nothing.
use native.Mathlib.Omega.{arith}
use Rattle.list.proofs.Outputs.{output_fits}
use Rattle.list.proofs.hand_over.Goals as goal

pub overflow_add-done : goal.overflow_add-done
overflow_add-done g c =
    omega (arith, c.requires.within, output_fits c.args.input.now)
