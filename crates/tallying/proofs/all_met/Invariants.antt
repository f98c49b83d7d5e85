use mathlib.Core.Path.{◌≡◌}
use mathlib.Core.Bool.{true}
use Rattle.tallying.specs.Tallied.{AllMet}
use Rattle.tallying.proofs.all_met.Given as goal

abbrev pub invariant-loop-x : goal.invariant-loop-x
invariant-loop-x l = l.met ≡ true → AllMet l.work l.x
