-- `storing::judge` meets its contract: 12 and 13 are judged by the greatest address that the new
-- nodes would have. Assumes nothing.
use Prim.Native.Nat.{◌+◌, ◌^◌, ◌<◌}
use mathlib.Core.Path.{sym, ◌∙◌}
use native.Mathlib.Omega.{arith}
use borrow.Author.Tests.{leb-true, leb-false}
use Rattle.head.specs.Fields.{permitted}
use Rattle.storing.proofs.Adding.{judged_11, judged_none, judged_12, judged_13}
use Rattle.storing.proofs.Adding.{judged_passed}
use Rattle.storing.proofs.judge.Goals as goal
use Rattle.storing.proofs.judge.Goals.{Else-greatest-value, Else-mask-total}

-- 11 has passed
fits : (c : Else-greatest-value) → let a = c.args in a.value < 256 ^ a.h.d
fits c = omega (arith, c.if-greatest-value.false, c.greatest.ensures)

-- 12 has passed
few : (c : Else-mask-total) → let a =
    c.args in a.h.g + a.new < 256 ^ a.h.a
few c = omega (arith, c.if-mask-total.false, c.mask.ensures)

pub returns-then-greatest-value : goal.returns-then-greatest-value
returns-then-greatest-value c = judged_11 _ _ _ _ c.greatest.ensures c.if-greatest-value.true

pub returns-then-new-eq0 : goal.returns-then-new-eq0
returns-then-new-eq0 c = judged_none _ _ _ (fits
    (goal.at.returns-then-new-eq0 c).Else-greatest-value) _ c.if-new-eq0.true

pub returns-then-mask-total : goal.returns-then-mask-total
returns-then-mask-total c =
    judged_12 _ _ _ (fits (goal.at.returns-then-mask-total c).Else-greatest-value) _
    c.if-new-eq0.false c.mask.ensures
    c.if-mask-total.true

pub fits-requires : goal.fits-requires
unfolding permitted
fits-requires c = c.requires.permitted

pub returns-then-not-fits : goal.returns-then-not-fits
returns-then-not-fits c =
    judged_13 _ _ _ (fits (goal.at.returns-then-not-fits c).Else-greatest-value) _
    c.if-new-eq0.false (few (goal.at.returns-then-not-fits c).Else-mask-total)
    (leb-false _ _ (sym c.fits.ensures ∙ c.if-not-fits.true))

pub returns : goal.returns
returns c =
    judged_passed _ _ _ (fits (goal.at.returns c).Else-greatest-value) _
    (few (goal.at.returns c).Else-mask-total)
    (leb-true _ _ (sym c.fits.ensures ∙ c.if-not-fits.false))
