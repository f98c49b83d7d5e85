use Prim.Native.Nat.{◌-◌}
use lib.ListN.{length}
use Rattle.alphabet.proofs.AlphabetLoops.{Judging}
use Rattle.alphabet.proofs.codes.Codes.judge.Given as goal

abbrev pub invariant-loop-at : goal.invariant-loop-at
invariant-loop-at l = Judging l.n l.bytes l.self.list l.count l.top l.at

abbrev pub decreases-loop-at : goal.decreases-loop-at
decreases-loop-at l = length l.bytes - l.at
