use Prim.Native.Nat.{◌-◌, ◌≤◌}
use lib.ListN.{length}
use Rattle.alphabet.specs.Judged.{letters_in}
use Rattle.key.proofs.Typing.{Typing}
use Rattle.key.proofs.Key.of_text.Given as goal

abbrev pub invariant-loop-at : goal.invariant-loop-at
invariant-loop-at l = (l.len ≤ l.at) × Typing (letters_in l.codes) l.text l.kept l.len l.at

abbrev pub decreases-loop-at : goal.decreases-loop-at
decreases-loop-at l = length l.text - l.at
