use Prim.Native.Nat.{◌+◌}
use Rattle.node.specs.Read.{node_table}
use Rattle.reaching.specs.Reaching.{mark_in}
use Rattle.tallying.specs.Tallied.{hidden_at}
use Rattle.tallying.proofs.LowestFound.{Seeking}
use Rattle.tallying.proofs.first_hidden.Given as goal

abbrev pub invariant-loop-x : goal.invariant-loop-x
invariant-loop-x l =
    let h = l.nodes.head in
    Seeking (λ y. hidden_at h (node_table l.nodes) y (mark_in l.work y)) 0 (h.g + 1) l.x
