-- `node::wipe` meets its contract: a node ends where the next begins. Assumes nothing.
use native.Mathlib.Omega.{arith}
use Rattle.head.proofs.Places.{place_add}
use Rattle.node.proofs.wipe.Goals as goal

pub clear-requires : goal.clear-requires
clear-requires c =
    let a = c.args in
    omega (
      arith,
      c.node_place.ensures,
      c.node_width.ensures,
      place_add a.h
          a.q 1,
      c.requires.room,
    )

pub returns : goal.returns
returns c =
    rw (
      ← c.node_place.ensures,
      ← c.node_width.ensures,
    )
    c.clear.ensures
