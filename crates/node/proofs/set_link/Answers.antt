-- `node::set_link` meets its contract: the address is written at the link's place, and in the
-- table the node is then linked there. Assumes nothing.
use native.Mathlib.Omega.{arith}
use mathlib.Core.Path.{◌≡◌, ap, ◌∙◌}
use Prim.Native.Nat.{ℕ}
use Rattle.field.specs.Field.{put_field}
use Rattle.node.specs.Image.{link_place, table_of}
use Rattle.node.specs.Writes.{carried_out, link_write}
use Rattle.node.proofs.FieldPlaces.{link_inside, inside_room}
use Rattle.node.proofs.Writes.{table_link}
use Rattle.node.proofs.set_link.Goals as goal
use Rattle.node.proofs.set_link.Goals.{After-write}

pub write-requires : goal.write-requires
write-requires c =
    let a = c.args in
    omega (
      arith,
      c.link_place.ensures,
      inside_room (link_inside a.h a.q c.requires.letter) c.requires.open c.requires.node,
    )

written : (c : After-write) → let a = c.args in
    c.write.new.s ≡ put_field a.image.now (link_place a.h a.q a.i) a.h.a a.c
written c =
    let a = c.args in
    c.write.ensures ∙ ap (λ (k : ℕ). put_field a.image.now k a.h.a a.c)
    c.link_place.ensures

pub returns : goal.returns
unfolding carried_out link_write
returns c =
    let a = c.args in
    let e = written (goal.at.returns c).After-write in record {
      bytes = e;
      table = ap (table_of a.h) e
          ∙ table_link a.h a.image.now c.requires.open.room a.q a.i a.c
          c.requires.node c.requires.letter c.requires.fits;
    }
