-- `utf8::quick_len` meets its contract: if the first row fits, the table answers by it. Assumes
-- nothing.
use mathlib.Core.Path.{sym, ◌∙◌}
use native.Mathlib.Omega.{arith}
use Rattle.utf8.specs.Table37.{rows, char_len}
use Rattle.utf8.proofs.Utf8Loops.{consulting_none, consulting_fits}
use Rattle.utf8.proofs.quick_len.Goals as goal

pub returns-then-fits : goal.returns-then-fits
unfolding char_len
returns-then-fits c =
    sym (consulting_fits (consulting_none rows c.args.s.now c.args.at) (omega arith)
    (sym c.fits.ensures ∙ c.if-fits.true))
