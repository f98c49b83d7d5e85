-- `node::Nodes::data` meets its contract: the number in the data's field is the table's value. The
-- head comes before all data, so there are eight bytes before the field's end. Assumes nothing.
use mathlib.Core.Path.{◌≡◌, sym, ap, ◌∙◌}
use Prim.Native.Nat.{ℕ, ◌+◌, ◌-◌}
use native.Mathlib.Omega.{arith}
use Rattle.field.specs.Field.{field_at}
use Rattle.head.proofs.Permitted.{bounds}
use Rattle.node.specs.Image.{data_place}
use Rattle.node.proofs.FieldPlaces.{data_inside, inside_least, inside_room}
use Rattle.node.proofs.Tables.{value_in}
use Rattle.node.proofs.read.Nodes.data.Goals as goal

pub overflow_add-end : goal.overflow_add-end
overflow_add-end c =
    let n = c.args.self in
    omega (
      arith,
      bounds n.head n.open.head_permitted,
      c.data_place.ensures,
      inside_room (data_inside n.head c.args.q) n.open c.requires,
    )

pub load_masked-requires : goal.load_masked-requires
load_masked-requires c =
    let n = c.args.self in
    let i = data_inside n.head c.args.q in
    omega (
      arith,
      bounds n.head n.open.head_permitted,
      c.data_place.ensures,
      inside_least i,
      inside_room i n.open c.requires,
    )

pub returns : goal.returns
returns c =
    let n = c.args.self in
    let place : c.data_place.result + n.head.d - n.head.d ≡ data_place n.head c.args.q =
    omega (arith, c.data_place.ensures) in
    c.load_masked.ensures.field n.head.d (omega (arith, bounds n.head n.open.head_permitted))
    n.values
    ∙ ap (λ (k : ℕ). field_at n.image.now k n.head.d) place
    ∙ sym (value_in n.head n.image.now c.args.q c.requires)
