use mathlib.Core.Path.{◌≡◌}
use Rattle.node.specs.Read.{node_table}
use Rattle.walk.proofs.Descents.{Walking}
use Rattle.walk.proofs.walk.Given as goal

abbrev pub invariant-loop-letter : goal.invariant-loop-letter
invariant-loop-letter l =
    record {
      walking : Walking l.nodes.head.g (node_table l.nodes) l.letter-items l.here;
      deep : l.here.depth ≡ l.letter-index;
    }
