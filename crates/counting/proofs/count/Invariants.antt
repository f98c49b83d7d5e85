use mathlib.Core.Path.{◌≡◌}
use Rattle.trie.specs.Keys.{holding}
use Rattle.node.specs.Read.{node_table}
use Rattle.counting.proofs.count.Given as goal

abbrev pub invariant-loop-q : goal.invariant-loop-q
invariant-loop-q l = l.sum ≡ holding (node_table l.sound.nodes) l.q
