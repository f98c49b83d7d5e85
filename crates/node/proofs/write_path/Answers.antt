-- `node::write_path` meets its contract: a cleared node with one link written into it has the
-- bytes of a whole node with that link. Assumes nothing.
use native.Mathlib.Omega.{arith}
use mathlib.Core.Path.{sym, ◌∙◌}
use Rattle.node.specs.Writes.{carried_out}
use Rattle.node.proofs.FieldPlaces.{link_inside}
use Rattle.node.proofs.WholeNodes.{path_node_lem}
use Rattle.node.proofs.write_path.Goals as goal

pub write-requires : goal.write-requires
write-requires c =
    let a = c.args in
    omega (arith, c.link_place.ensures, link_inside a.h a.q c.requires.letter, c.requires.room)

pub returns : goal.returns
unfolding carried_out
returns c =
    let a = c.args in
    c.write.ensures
    ∙ rw (
      c.link_place.ensures,
      c.wipe.ensures,
    )
    (sym (path_node_lem a.h a.image.now a.q a.i a.c c.requires.letter))
