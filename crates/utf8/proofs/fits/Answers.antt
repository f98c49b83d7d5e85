-- `utf8::fits` meets its contract. The bytes tested so far are in their ranges, so the row's
-- test is that of the later bytes. The length is tested first, so all of them are inside the
-- slice. Assumes nothing.
use mathlib.Core.Path.{sym, ◌∙◌}
use native.Mathlib.Omega.{arith}
use Rattle.utf8.proofs.Utf8Loops.{testing_none, testing_more, testing_fails}
use Rattle.utf8.proofs.Utf8Loops.{testing_all, fits_not, fits_if}
use Rattle.utf8.proofs.fits.Goals as goal

pub returns-then-s-at : goal.returns-then-s-at
returns-then-s-at c = sym (fits_not _ _ _ (omega arith))

pub returns-then-s-at-2 : goal.returns-then-s-at-2
returns-then-s-at-2 c = sym (fits_not _ _ _ (omega arith))

pub loop-i-init : goal.loop-i-init
loop-i-init c = testing_none _ _ _ _

pub returns-then-not-in_range : goal.returns-then-not-in_range
returns-then-not-in_range c =
    sym (fits_if _ _ _ (omega arith) ∙ testing_fails c.loop-i.invariant
    (omega arith) (sym c.in_range.ensures ∙ c.if-not-in_range.true))

pub loop-i-preserved : goal.loop-i-preserved
loop-i-preserved c = testing_more c.loop-i.invariant (omega arith)
    (sym c.in_range.ensures ∙ c.if-not-in_range.false)

pub returns : goal.returns
returns c = sym (fits_if _ _ _ (omega arith) ∙ testing_all c.loop-i.invariant (omega arith))
