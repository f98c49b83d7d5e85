use Rattle.utf8.specs.Table37.{rows}
use Rattle.utf8.proofs.Utf8Loops.{Consulting}
use Rattle.utf8.proofs.char_len.Given as goal

abbrev pub invariant-loop-row : goal.invariant-loop-row
invariant-loop-row l = Consulting rows l.s l.at l.row-index
