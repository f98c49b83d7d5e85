use Rattle.alphabet.proofs.AlphabetLoops.{Searching}
use Rattle.alphabet.proofs.codes.is_among.Given as goal

abbrev pub invariant-loop-c : goal.invariant-loop-c
invariant-loop-c l = Searching l.codes l.code l.hit l.c-index
