-- `counting::count` meets its contract: before node q the sum is the number of nodes below q whose
-- data is not 0, and over all nodes that is the number of stored keys. Assumes nothing.
use Prim.Native.Nat.{◌+◌}
use mathlib.Core.Logic.{◌≢◌}
use mathlib.Core.Path.{◌≡◌, sym, ◌∙◌, ap}
use native.Mathlib.Omega.{arith}
use Rattle.trie.specs.Keys.{holding}
use Rattle.trie.proofs.Holding.{holding_none, holding_empty, holding_full}
use Rattle.node.specs.Read.{node_table}
use Rattle.sound.proofs.Sounds.{sound_accepted}
use Rattle.counting.proofs.Scan.{scanned, one_fits}
use Rattle.counting.proofs.count.Goals as goal
use Rattle.counting.proofs.count.Goals.{then-data-ne0, else-data-ne0}

pub loop-q-init : goal.loop-q-init
loop-q-init c = sym (holding_none (node_table c.args.sound.nodes))

pub overflow_add-sum : goal.overflow_add-sum
overflow_add-sum c =
    let full : (node_table c.args.sound.nodes).value c.loop-q.q ≢ 0 =
    λ z. c.if-data-ne0.true (c.data.ensures ∙ z) in
    omega (
      arith,
      c.loop-q.invariant,
      one_fits (sound_accepted c.args.sound) c.args.sound.own c.loop-q.q (omega arith) full,
    )

pub loop-q-preserved : goal.loop-q-preserved
loop-q-preserved c =
    let t = node_table c.args.sound.nodes in
    elim c.if-data-ne0.branch [
      | then-data-ne0 w ↦
          let full : t.value c.loop-q.q ≢ 0 = λ z. w.if-data-ne0.true (c.data.ensures ∙ z) in
          omega (arith, holding_full t c.loop-q.q full)
      | else-data-ne0 w ↦
          omega (arith, holding_empty t c.loop-q.q (sym c.data.ensures ∙ w.if-data-ne0.false))
    ]

pub returns : goal.returns
returns c =
    let done = c.loop-q in
    let all : done.q ≡ c.args.sound.nodes.head.g + 1 = omega arith in
    done.invariant ∙ ap (holding (node_table c.args.sound.nodes)) all
    ∙ scanned (sound_accepted c.args.sound) c.args.sound.own
