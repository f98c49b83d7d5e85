use lib.ListN.{replicate}
use Rattle.field.proofs.FieldLoops.{Laying}
use Rattle.field.proofs.clear.Given as goal

abbrev pub invariant-loop-i : goal.invariant-loop-i
invariant-loop-i l = Laying l.initial.s l.at (replicate l.n 0) l.s l.i
