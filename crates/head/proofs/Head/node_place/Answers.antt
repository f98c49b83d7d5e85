-- `head::Head::node_place` meets its contract. For an address up to 2^32 the place is below
-- 2^43, so nothing wraps. Assumes nothing.
use native.Mathlib.Omega.{arith}
use mathlib.Core.Path.{ap}
use Prim.Native.Nat.{ℕ, ◌+◌, ◌*◌, ◌^◌, ◌<◌}
use Rattle.head.specs.Fields.{fields_len, node_place}
use Rattle.head.proofs.Permitted.{bounds}
use Rattle.head.proofs.Places.{place_most}
use Rattle.head.proofs.Head.node_place.Goals as goal
use Rattle.head.proofs.Head.node_place.Goals.{After-node_width}

small : (c : After-node_width) → fields_len + c.args.self.f
    + c.args.q * c.node_width.result < 2 ^ 43
unfolding node_place
small c =
    rw c.node_width.ensures
    (place_most c.args.q (bounds _ c.requires.head_permitted)
    c.requires.address)

pub overflow_mul-result : goal.overflow_mul-result
overflow_mul-result c = omega (arith, small (goal.at.overflow_mul-result c).After-node_width)

pub overflow_add-result-2 : goal.overflow_add-result-2
overflow_add-result-2 c = omega (arith, small (goal.at.overflow_add-result-2 c).After-node_width)

pub returns : goal.returns
unfolding node_place
returns c =
    ap (λ (w : ℕ). fields_len + c.args.self.f + c.args.q * w)
    c.node_width.ensures
