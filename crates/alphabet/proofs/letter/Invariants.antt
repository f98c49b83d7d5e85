use mathlib.Core.Bool.{false}
use Rattle.alphabet.proofs.AlphabetLoops.{Searching}
use Rattle.alphabet.proofs.letter.Given as goal

abbrev pub invariant-loop-i : goal.invariant-loop-i
invariant-loop-i l = Searching l.codes l.code false l.i
