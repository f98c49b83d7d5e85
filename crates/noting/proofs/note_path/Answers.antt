-- `noting::note_path` meets its contract: at each turn the entries that are left give the list
-- that all entries together give. Assumes nothing.
use Prim.Native.Nat.{◌<◌}
use mathlib.Core.Path.{◌≡◌, refl}
use native.Mathlib.Omega.{arith}
use borrow.Author.Rules.{rules}
use lib.ListN.{length, get_or, take, drop, length-drop, take-append-drop}
use Rattle.trie.proofs.LettersBelow.{letters_after}
use Rattle.head.specs.Fields.{most_letters, total_at, total_len}
use Rattle.node.proofs.FieldPlaces.{link_inside, inside_used}
use Rattle.key.specs.Hand.{letters_of}
use Rattle.key.proofs.Hand.{letters_count, letters_from, letter_below}
use Rattle.noting.proofs.NotedPath.{noting_on}
use Rattle.noting.proofs.NotedPath.{noting_end, notes_path}
use Rattle.noting.proofs.note_path.Goals as goal
use Rattle.noting.proofs.note_path.Goals.{Start}

-- the array's length
whole : (c : Start) → length c.args.asked.key.letters ≡ most_letters
whole c = search rules

-- the letter that stopped the walk is below N
below : (c : Start) → get_or c.args.asked.key.letters c.args.at.depth 0 < c.args.asked.head.n
below c =
    letter_below c.args.asked.key (whole c) c.args.asked.ready.short _ _ c.args.asked.ready.letters
    c.requires.stop.depth

pub link_place-link-requires-clause-letter : goal.link_place-link-requires-clause-letter
link_place-link-requires-clause-letter c =
    below (goal.at.link_place-link-requires-clause-letter c).Start

pub overflow_cast-link : goal.overflow_cast-link
overflow_cast-link c =
    let a = c.args in
    omega (
      arith,
      c.link_place-link.ensures,
      inside_used (link_inside a.asked.head a.at.node (below (goal.at.overflow_cast-link c).Start))
          c.requires.stop.node,
      c.requires.short,
    )

pub loop-i-preserved : goal.loop-i-preserved
loop-i-preserved c = noting_on c.loop-i.invariant c.loop-i-test.true c.note.ensures

pub returns : goal.returns
returns c =
    let a = c.args in
    let short = c.args.asked.ready.short in
    let depth = a.at.depth in
    let k = letters_of a.asked.key in
    let array = whole (goal.at.returns c).Start in
    notes_path a.asked.head a.at.node _ _ _
    (letters_from a.asked.key array short depth c.requires.stop.depth)
    (letters_after a.asked.head.n (take depth k) (drop depth k)
    (rw (take-append-drop depth k) c.args.asked.ready.letters))
    (omega (
      arith,
      length-drop depth k,
      letters_count a.asked.key array short,
    ))
    c.used-place.ensures c.node_width-width.ensures
    c.link_place-link.ensures refl
    (noting_end c.loop-i.invariant total_at total_len c.link_place-link.result a.asked.head.a
    (omega arith) c.note-2.ensures c.note-3.ensures)
