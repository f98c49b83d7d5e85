-- `node::Nodes::childless` meets its contract: links whose bytes are 0 are empty. Assumes nothing.
use native.Mathlib.Omega.{arith}
use Rattle.node.proofs.FieldPlaces.{data_inside, data_from, inside_room}
use Rattle.node.proofs.WholeNodes.{blank_links}
use Rattle.node.proofs.read.Nodes.childless.Goals as goal

pub blank-requires : goal.blank-requires
blank-requires c =
    let n = c.args.self in
    omega (
      arith,
      c.node_place.ensures,
      c.data_place.ensures,
      data_from n.head c.args.q,
      inside_room (data_inside n.head c.args.q) n.open c.requires,
    )

pub returns : goal.returns
returns c e =
    let n = c.args.self in
    blank_links n.head n.image.now c.args.q
    (λ k low high. c.blank.ensures e k
    (omega (arith, c.node_place.ensures))
    (omega (arith, c.data_place.ensures)))
