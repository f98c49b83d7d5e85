use Rattle.utf8.proofs.Utf8Loops.{Testing}
use Rattle.utf8.proofs.fits.Given as goal

abbrev pub invariant-loop-i : goal.invariant-loop-i
invariant-loop-i l = Testing l.row l.s l.at l.n l.i
