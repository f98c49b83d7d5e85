use Prim.Native.Nat.{◌-◌}
use Rattle.field.proofs.FieldLoops.{Blanking}
use Rattle.field.proofs.blank.Given as goal

abbrev pub invariant-loop-at : goal.invariant-loop-at
invariant-loop-at l = Blanking l.s l.from l.to l.first l.at

abbrev pub decreases-loop-at : goal.decreases-loop-at
decreases-loop-at l = l.to - l.at
