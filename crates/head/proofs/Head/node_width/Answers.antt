-- `head::Head::node_width` meets its contract. In a permitted head N*A + D is at most 1032, so
-- neither the product nor the sum wraps. Assumes nothing.
use native.Mathlib.Omega.{arith}
use mathlib.Core.Path.{refl}
use Rattle.head.specs.Fields.{node_width}
use Rattle.head.proofs.Permitted.{bounds}
use Rattle.head.proofs.Places.{width_most}
use Rattle.head.proofs.Head.node_width.Goals as goal

pub overflow_mul-result : goal.overflow_mul-result
unfolding node_width
overflow_mul-result c = omega (arith, width_most (bounds _ c.requires))

pub overflow_add-result : goal.overflow_add-result
unfolding node_width
overflow_add-result c = omega (arith, width_most (bounds _ c.requires))

pub returns : goal.returns
unfolding node_width
returns c = refl
