-- `lines::refused` meets its contract: its five pieces, written one after another, are the line.
-- Assumes nothing.
use native.Mathlib.Omega.{arith}
use Rattle.lines.specs.Lines.{refused_line}
use Rattle.lines.proofs.TextsAt.{laid_join}
use Rattle.lines.proofs.LineTexts.{decimal_end}
use Rattle.lines.proofs.refused.Goals as goal

pub word-end-requires-2 : goal.word-end-requires-2
word-end-requires-2 c =
    omega (arith, decimal_end _ c.number-end.ensures)

pub number-end-requires-2 : goal.number-end-requires-2
number-end-requires-2 c =
    omega (
      arith,
      decimal_end _
          c.number-end.ensures,
    )

pub word-requires : goal.word-requires
word-requires c =
    omega (
      arith,
      decimal_end _
          c.number-end.ensures,
      decimal_end _ c.number-end-2.ensures,
    )

pub returns : goal.returns
unfolding refused_line
returns c =
    laid_join c.word-end.ensures
    (laid_join c.number-end.ensures
    (laid_join c.word-end-2.ensures
    (laid_join c.number-end-2.ensures c.word.ensures)))
