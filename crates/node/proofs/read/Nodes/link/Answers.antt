-- `node::Nodes::link` meets its contract: the number in the link's field is the table's entry. The
-- head comes before every link, so there are eight bytes before the field's end, and the mask
-- has 32 bits. Assumes nothing.
use mathlib.Core.Path.{◌≡◌, sym, ap, ◌∙◌}
use Prim.Native.Nat.{ℕ, ◌+◌, ◌-◌}
use native.Mathlib.Omega.{arith}
use Rattle.field.specs.Field.{field_at}
use Rattle.head.proofs.Permitted.{bounds}
use Rattle.node.specs.Image.{link_place}
use Rattle.node.proofs.FieldPlaces.{link_inside, inside_least, inside_room}
use Rattle.node.proofs.Tables.{child_in}
use Rattle.node.proofs.read.Nodes.link.Goals as goal
use Rattle.node.proofs.read.Nodes.link.Goals.{After-load_masked}

pub overflow_add-end : goal.overflow_add-end
overflow_add-end c =
    let n = c.args.self in
    omega (
      arith,
      bounds n.head n.open.head_permitted,
      c.link_place.ensures,
      inside_room (link_inside n.head c.args.q c.requires.letter) n.open c.requires.node,
    )

pub load_masked-requires : goal.load_masked-requires
load_masked-requires c =
    let n = c.args.self in
    let i = link_inside n.head c.args.q c.requires.letter in
    omega (
      arith,
      bounds n.head n.open.head_permitted,
      c.link_place.ensures,
      inside_least i,
      inside_room i n.open c.requires.node,
    )

-- the number that was read is the link's field
read : (c : After-load_masked) → let n = c.args.self in c.load_masked.result
    ≡ field_at n.image.now (link_place n.head c.args.q c.args.i) n.head.a
read c =
    let n = c.args.self in
    let place : c.link_place.result + n.head.a - n.head.a ≡ link_place n.head c.args.q c.args.i =
    omega (arith, c.link_place.ensures) in
    c.load_masked.ensures.field n.head.a (omega (arith, bounds n.head n.open.head_permitted))
    n.links
    ∙ ap (λ (k : ℕ). field_at n.image.now k n.head.a) place

pub overflow_cast-result : goal.overflow_cast-result
overflow_cast-result c =
    omega (arith, c.load_masked.ensures.most)

pub returns : goal.returns
returns c =
    let n = c.args.self in
    read (goal.at.returns c).After-load_masked
    ∙ sym (child_in n.head n.image.now c.args.q c.args.i c.requires.node c.requires.letter)
