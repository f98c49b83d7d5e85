-- `noting::note_all` meets its contract: each end of the walk has its own list. Assumes nothing.
use Prim.Native.Nat.{◌-◌}
use mathlib.Core.Path.{◌≡◌, subst, ◌∙◌, ap}
use native.Mathlib.Omega.{arith}
use borrow.Author.Rules.{rules}
use lib.ListN.{length, drop, length-drop}
use Rattle.head.specs.Fields.{most_letters}
use Rattle.node.proofs.FieldPlaces.{data_inside, inside_used}
use Rattle.key.specs.Hand.{letters_of}
use Rattle.key.proofs.Hand.{letters_count, letters_from}
use Rattle.storing.specs.StoreStage.{Ends}
use Rattle.noting.proofs.NotedPath.{missing_left, notes_data, notes_none, notes_value}
use Rattle.noting.proofs.note_all.Goals as goal
use Rattle.noting.proofs.note_all.Goals.{Start}

-- the array's length
whole : (c : Start) → length c.args.asked.key.letters ≡ most_letters
whole c = search rules

pub overflow_cast-data_place : goal.overflow_cast-data_place
overflow_cast-data_place c =
    let a = c.args in
    let within = subst (Ends a.asked.head a.asked.key) c.in-Complete.is c.requires.ends in
    omega (
      arith,
      c.data_place.ensures,
      inside_used (data_inside a.asked.head c.in-Complete.node) within,
      c.requires.short,
    )

pub note_path-requires-clause-short : goal.note_path-requires-clause-short
note_path-requires-clause-short c =
    let a = c.args in
    let k = letters_of a.asked.key in
    let depth = c.in-Stopped.at.depth in
    let array = whole (goal.at.note_path-requires-clause-short c).Start in
    let count : length (drop depth k) ≡ a.asked.key.len - depth =
    length-drop depth k
    ∙ ap (λ n. n - depth) (letters_count a.asked.key array c.args.asked.ready.short) in
    rw (missing_left k a.value c.in-Stopped.is c.if-value-ne0.true, count) at c.requires.short

pub returns-in-Complete : goal.returns-in-Complete
returns-in-Complete c =
    let a = c.args in
    notes_data a.asked.head (letters_of a.asked.key) _ _ c.in-Complete.is
    c.data_place.ensures c.note.ensures

pub returns-in-Stopped : goal.returns-in-Stopped
returns-in-Stopped c =
    let a = c.args in
    notes_value a.asked.head (letters_of a.asked.key) _ c.in-Stopped.is _ c.if-value-ne0.true
    c.note_path.ensures

pub returns-in-Stopped-2 : goal.returns-in-Stopped-2
returns-in-Stopped-2 c =
    let a = c.args in
    let array = whole (goal.at.returns-in-Stopped-2 c).Start in
    let stop = subst (Ends a.asked.head a.asked.key) c.in-Stopped.is c.requires.ends in
    notes_none a.asked.head (letters_of a.asked.key) _ c.in-Stopped.is _ _ _ c.if-value-ne0.false
    (letters_from a.asked.key array c.args.asked.ready.short _ stop.depth)
