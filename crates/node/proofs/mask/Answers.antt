-- `node::mask` meets its contract: A is 1 to 4, so 32 bits hold it. Assumes nothing.
use native.Mathlib.Omega.{arith}
use Rattle.head.proofs.Permitted.{bounds, addresses_fit}
use Rattle.node.proofs.mask.Goals as goal

pub ones-requires : goal.ones-requires
ones-requires c = omega (arith, bounds c.args.h c.requires)

pub overflow_cast-result : goal.overflow_cast-result
overflow_cast-result c =
    omega (arith, c.ones.ensures, addresses_fit (bounds c.args.h c.requires))

pub returns : goal.returns
returns c = c.ones.ensures
