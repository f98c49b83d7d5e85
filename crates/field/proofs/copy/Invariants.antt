use Rattle.field.proofs.FieldLoops.{Laying}
use Rattle.field.proofs.copy.Given as goal

abbrev pub invariant-loop-i : goal.invariant-loop-i
invariant-loop-i l = Laying l.initial.s l.at l.from l.s l.i
