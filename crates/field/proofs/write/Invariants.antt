use Rattle.field.proofs.FieldLoops.{Writing}
use Rattle.field.proofs.write.Given as goal

abbrev pub invariant-loop-i : goal.invariant-loop-i
invariant-loop-i l = Writing l.initial.s l.at l.w l.v l.s l.x l.i
