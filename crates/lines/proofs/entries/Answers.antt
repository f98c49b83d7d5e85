-- `lines::entries` meets its contract: its three pieces, written one after another, are the
-- line. Assumes nothing.
use native.Mathlib.Omega.{arith}
use Rattle.lines.specs.Lines.{entries_line}
use Rattle.lines.proofs.TextsAt.{laid_join}
use Rattle.lines.proofs.LineTexts.{decimal_end}
use Rattle.lines.proofs.entries.Goals as goal

pub word-requires : goal.word-requires
word-requires c =
    omega (arith, decimal_end _ c.number-end.ensures)

pub returns : goal.returns
unfolding entries_line
returns c =
    laid_join c.word-end.ensures
    (laid_join c.number-end.ensures c.word.ensures)
