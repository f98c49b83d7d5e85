-- `lines::letter` meets its contract. It returns for a letter of one, two and three digits, and
-- each time it has stored these digits. Assumes nothing.
use mathlib.Core.Path.{refl, sym}
use native.Mathlib.Omega.{arith}
use lib.ListN.{length-set}
use Rattle.lines.proofs.Digits.{decimal_one, decimal_two, decimal_three}
use Rattle.lines.proofs.TextsAt.{laid_as, laid_one, laid_join}
use Rattle.lines.proofs.letter.Goals as goal

pub returns-then-x-lt10 : goal.returns-then-x-lt10
returns-then-x-lt10 c = laid_as (sym (decimal_one _ (omega arith))) (laid_one _ _ _ refl)

pub bounds-out-at-then-x-lt100-2 : goal.bounds-out-at-then-x-lt100-2
bounds-out-at-then-x-lt100-2 c = simp length-set (omega arith)

pub returns-then-x-lt100 : goal.returns-then-x-lt100
returns-then-x-lt100 c = laid_as (sym (decimal_two _ (omega arith) (omega arith)))
    (laid_join (laid_one _ _ _ refl) (laid_one _ _ _ (omega arith)))

pub bounds-out-at-3 : goal.bounds-out-at-3
bounds-out-at-3 c = simp length-set (omega arith)

pub bounds-out-at-4 : goal.bounds-out-at-4
bounds-out-at-4 c = simp length-set (omega arith)

pub returns : goal.returns
returns c =
    laid_as (sym (decimal_three _ (omega arith) (omega arith)))
    (laid_join (laid_one _ _ _ refl)
    (laid_join (laid_one _ _ _ (omega arith)) (laid_one _ _ _ (omega arith))))
