use Rattle.lines.proofs.LineLoops.{Filling}
use Rattle.lines.proofs.number.Given as goal

abbrev pub invariant-loop-i : goal.invariant-loop-i
invariant-loop-i l = Filling l.initial.out l.at l.v l.out l.x l.i
