-- `utf8::char_len` meets its contract. The rows tried so far do not fit, so the table answers as
-- its later rows do. By computing, the table in the code is the table of the definition. Assumes
-- nothing.
use mathlib.Core.Path.{sym, ◌∙◌}
use native.Mathlib.Omega.{arith}
use Rattle.utf8.specs.Table37.{char_len}
use Rattle.utf8.proofs.Utf8Loops.{consulting_more, consulting_fits, consulting_all}
use Rattle.utf8.proofs.char_len.Goals as goal

pub returns-then-fits : goal.returns-then-fits
unfolding char_len
returns-then-fits c =
    sym (consulting_fits c.loop-row.invariant (omega arith) (sym c.fits.ensures ∙ c.if-fits.true))

pub loop-row-preserved : goal.loop-row-preserved
loop-row-preserved c = consulting_more c.loop-row.invariant (omega arith)
    (sym c.fits.ensures ∙ c.if-fits.false)

pub returns : goal.returns
unfolding char_len
returns c = sym (consulting_all c.loop-row.invariant (omega arith))
