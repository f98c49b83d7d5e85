-- `node::greatest` meets its contract: D is 1 to 8. Assumes nothing.
use native.Mathlib.Omega.{arith}
use Rattle.head.proofs.Permitted.{bounds}
use Rattle.node.proofs.greatest.Goals as goal

pub ones-requires : goal.ones-requires
ones-requires c = omega (arith, bounds c.args.h c.requires)

pub returns : goal.returns
returns c = c.ones.ensures
