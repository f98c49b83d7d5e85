-- `node::link_place` meets its contract. A node begins below 2^43 and its links take at most
-- 1024 bytes, so nothing wraps. Assumes nothing.
use Prim.Native.Nat.{ℕ, ◌+◌, ◌*◌}
use native.Mathlib.Omega.{arith}
use mathlib.Core.Path.{ap}
use Rattle.head.proofs.Permitted.{bounds}
use Rattle.head.proofs.Places.{place_most}
use Rattle.node.specs.Image.{link_place}
use Rattle.node.proofs.FieldPlaces.{links_most}
use Rattle.node.proofs.link_place.Goals as goal

pub overflow_mul-result : goal.overflow_mul-result
overflow_mul-result c =
    omega (
      arith,
      links_most {i = c.args.i}
          (bounds c.args.h c.requires.permitted) (omega arith),
    )

pub overflow_add-result : goal.overflow_add-result
overflow_add-result c =
    let a = c.args in
    let s = bounds a.h c.requires.permitted in
    omega (
      arith,
      c.node_place.ensures,
      place_most a.q s (omega arith),
      links_most {i = a.i} s (omega arith),
    )

pub returns : goal.returns
unfolding link_place
returns c = ap (λ (p : ℕ). p + c.args.i * c.args.h.a)
    c.node_place.ensures
