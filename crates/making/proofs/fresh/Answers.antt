-- `making::fresh` meets its contract: the three parts follow one another inside the image, and
-- are the fresh image. Assumes nothing.
use Prim.Native.Nat.{◌+◌, ◌≤◌}
use native.Mathlib.Omega.{arith}
use lib.ListN.{length}
use Rattle.head.specs.Fields.{fields_len, node_width}
use Rattle.paper.proofs.MakeCall.{whole}
use Rattle.making.proofs.Parts.{written}
use Rattle.making.proofs.fresh.Goals as goal
use Rattle.making.proofs.fresh.Goals.{Start}

-- head, alphabet and root are inside the image
inside : (c : Start) → fields_len + length c.args.alphabet.now + node_width c.args.h
    ≤ length c.args.image.now
inside c = whole c.args.h c.args.alphabet.now c.args.image.now c.requires.g_value
    c.requires.f_value c.requires.h_in_bounds

pub write-requires : goal.write-requires
write-requires c = omega (arith, inside (goal.at.write-requires c).Start)

pub copy-requires : goal.copy-requires
copy-requires c =
    omega (
      arith,
      inside (goal.at.copy-requires c).Start,
      c.write.auto.image,
    )

pub clear-requires : goal.clear-requires
clear-requires c =
    omega (
      arith,
      inside (goal.at.clear-requires c).Start,
      c.node_width-width.ensures,
      c.copy.auto.s,
      c.write.auto.image,
    )

pub returns : goal.returns
returns c =
    written _ _ _ c.write.ensures c.copy.ensures c.node_width-width.ensures
    c.clear.ensures
