-- `node::write_last` meets its contract: a cleared node with the data written into it has the
-- bytes of a whole node with that data. Assumes nothing.
use native.Mathlib.Omega.{arith}
use mathlib.Core.Path.{sym, ◌∙◌}
use Rattle.node.specs.Writes.{carried_out}
use Rattle.node.proofs.FieldPlaces.{data_inside}
use Rattle.node.proofs.WholeNodes.{last_node_lem}
use Rattle.node.proofs.write_last.Goals as goal

pub write-requires : goal.write-requires
write-requires c =
    let a = c.args in
    omega (arith, c.data_place.ensures, data_inside a.h a.q, c.requires.room)

pub returns : goal.returns
unfolding carried_out
returns c =
    let a = c.args in
    c.write.ensures
    ∙ rw (
      c.data_place.ensures,
      c.wipe.ensures,
    )
    (sym (last_node_lem a.h a.image.now a.q a.v))
