-- `storing::build` meets its contract: the new nodes are written, then G and the link, and none
-- of these writes changes the image's length. Assumes nothing.
use Prim.Native.Nat.{suc, ◌+◌}
use mathlib.Core.Path.{◌≡◌, ap}
use mathlib.Core.List.{◌∷◌}
use native.Mathlib.Omega.{arith}
use borrow.Author.Rules.{rules}
use lib.ListN.{length, get_or, drop}
use Rattle.head.specs.Fields.{most_letters}
use Rattle.head.proofs.Places.{place_least}
use Rattle.node.proofs.StoreOnTable.{length_carried}
use Rattle.key.specs.Hand.{letters_of}
use Rattle.key.proofs.Hand.{letters_from, letter_below}
use Rattle.storing.proofs.Building.{built}
use Rattle.storing.proofs.build.Goals as goal
use Rattle.storing.proofs.build.Goals.{Start}

-- the array's length
whole : (c : Start) → length c.args.asked.key.letters ≡ most_letters
whole c = search rules

-- the letter that stopped the walk, and those after it
left : (c : Start) →
    let a = c.args in
    drop a.at.depth (letters_of a.asked.key) ≡ get_or a.asked.key.letters a.at.depth 0
    ∷ drop (a.at.depth + 1) (letters_of a.asked.key)
left c =
    let a = c.args in
    let e : a.at.depth + 1 ≡ suc a.at.depth = omega arith in
    rw e
    (letters_from a.asked.key (whole c) c.args.asked.ready.short a.at.depth c.requires.stop.depth)

pub set_total-requires : goal.set_total-requires
set_total-requires c =
    omega (
      arith,
      ap length c.new_nodes.ensures,
      length_carried,
      c.requires.space.room,
      place_least c.args.asked.head (c.args.total + 1),
    )

pub set_link-requires-clause-letter : goal.set_link-requires-clause-letter
set_link-requires-clause-letter c =
    rw c.from.ensures
    (letter_below c.args.asked.key (whole (goal.at.set_link-requires-clause-letter c).Start)
    c.args.asked.ready.short _ _ c.args.asked.ready.letters c.requires.stop.depth)

pub returns : goal.returns
returns c =
    let a = c.args in
    built a.asked.head a.at.node _ a.total a.value _ a.image.now (left (goal.at.returns c).Start)
    c.new_nodes.ensures c.set_total.ensures
    (rw c.from.ensures at c.set_link.ensures.bytes)
