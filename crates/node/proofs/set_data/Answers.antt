-- `node::set_data` meets its contract: the value is written at the data's place, and in the
-- table it is then the node's data. Assumes nothing.
use native.Mathlib.Omega.{arith}
use mathlib.Core.Path.{◌≡◌, ap, ◌∙◌}
use Prim.Native.Nat.{ℕ}
use Rattle.field.specs.Field.{put_field}
use Rattle.node.specs.Image.{data_place, table_of}
use Rattle.node.specs.Writes.{carried_out, data_write}
use Rattle.node.proofs.FieldPlaces.{data_inside, inside_room}
use Rattle.node.proofs.Writes.{table_data}
use Rattle.node.proofs.set_data.Goals as goal
use Rattle.node.proofs.set_data.Goals.{After-write}

pub write-requires : goal.write-requires
write-requires c =
    let a = c.args in
    omega (
      arith,
      c.data_place.ensures,
      inside_room (data_inside a.h a.q) c.requires.open
          c.requires.node,
    )

written : (c : After-write) → let a = c.args in
    c.write.new.s ≡ put_field a.image.now (data_place a.h a.q) a.h.d a.v
written c =
    let a = c.args in
    c.write.ensures ∙ ap (λ (k : ℕ). put_field a.image.now k a.h.d a.v)
    c.data_place.ensures

pub returns : goal.returns
unfolding carried_out data_write
returns c =
    let a = c.args in
    let e = written (goal.at.returns c).After-write in record {
      bytes = e;
      table = ap (table_of a.h) e
          ∙ table_data a.h a.image.now c.requires.open.room a.q a.v
          c.requires.node c.requires.fits;
    }
