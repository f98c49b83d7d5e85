-- `reaching::reach` meets its contract: the links of the root are followed, then those of the node
-- at the top of the stack, until it is empty. The measure is how many nodes have not been
-- followed. Assumes nothing.
use native.Mathlib.Omega.{arith}
use Rattle.reaching.proofs.Reaching.{nodes_fit, reaching_start, reaching_room}
use Rattle.reaching.proofs.Reaching.{reaching_below, reaching_more, reaching_all}
use Rattle.reaching.proofs.reach.Goals as goal

pub overflow_add-count : goal.overflow_add-count
overflow_add-count c = omega (arith, nodes_fit c.args.nodes.open c.requires.short)

pub overflow_mul-work : goal.overflow_mul-work
overflow_mul-work c = omega (arith, nodes_fit c.args.nodes.open c.requires.short)

pub overflow_add-work : goal.overflow_add-work
overflow_add-work c = omega (arith, nodes_fit c.args.nodes.open c.requires.short)

pub spread-top-requires-clause-short : goal.spread-top-requires-clause-short
spread-top-requires-clause-short c = nodes_fit c.args.nodes.open c.requires.short

pub loop-top-init : goal.loop-top-init
loop-top-init c = reaching_start c.requires.room c.requires.zeros c.spread-top.ensures

pub spread-top-requires-in-loop-top-clause-stack
    : goal.spread-top-requires-in-loop-top-clause-stack
spread-top-requires-in-loop-top-clause-stack c =
    reaching_below c.loop-top.invariant c.loop-top-test.true

pub spread-top-requires-in-loop-top-clause-short
    : goal.spread-top-requires-in-loop-top-clause-short
spread-top-requires-in-loop-top-clause-short c = nodes_fit c.args.nodes.open c.requires.short

pub overflow_add-followed : goal.overflow_add-followed
overflow_add-followed c =
    omega (
      arith,
      reaching_room c.loop-top.invariant c.loop-top-test.true,
      nodes_fit c.args.nodes.open c.requires.short,
    )

pub loop-top-preserved : goal.loop-top-preserved
loop-top-preserved c =
    reaching_more c.loop-top.invariant c.loop-top-test.true c.spread-top-in-loop-top.ensures

pub returns : goal.returns
returns c =
    reaching_all c.loop-top.invariant c.requires.within c.loop-top-test.false c.spread-top.ensures
