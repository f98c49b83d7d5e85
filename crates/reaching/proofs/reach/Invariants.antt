use Prim.Native.Nat.{◌-◌}
use Rattle.reaching.proofs.Reaching.{Reaching}
use Rattle.reaching.proofs.reach.Given as goal

abbrev pub invariant-loop-top : goal.invariant-loop-top
invariant-loop-top l =
    Reaching l.nodes.head l.nodes.image.now l.initial.work l.work l.followed l.top

abbrev pub decreases-loop-top : goal.decreases-loop-top
decreases-loop-top l = l.count - l.followed
