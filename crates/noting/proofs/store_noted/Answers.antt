-- `noting::store_noted` meets its contract: the store is that of `storing`, and a store that is
-- done has room for its new nodes, so the places of its writes fit. Assumes nothing.
use mathlib.Core.Path.{◌≡◌}
use mir.Syntax.{w32}
use mir.Val.{to_z, of_z}
use borrow.Author.Rules.{rules}
use lib.ListN.{length}
use Rattle.std.specs.Prelude.{Ok}
use Rattle.std.proofs.lemmas.Result.{err_from_is_err_and}
use Rattle.head.specs.Fields.{most_letters}
use Rattle.node.specs.Image.{table_of}
use Rattle.key.specs.Hand.{letters_of}
use Rattle.walk.specs.Descent.{at_root, walked_from}
use Rattle.storing.specs.StoreStage.{Ends}
use Rattle.storing.proofs.StoreStage.{never_bad, ends}
use Rattle.noting.proofs.Noting.{notes_refused, notes_room, notes_done}
use Rattle.noting.proofs.store_noted.Goals as goal
use Rattle.noting.proofs.store_noted.Goals.{In_ok-walked}

-- how the walk ended
walked : (c : In_ok-walked) →
    let a = c.args in
    Ok c.in_ok-walked.walked ≡ walked_from a.asked.head.g (table_of a.asked.head a.image.now)
    at_root (letters_of a.asked.key)
walked c = rw (c.of.ensures.head, c.of.ensures.bytes) at c.in_ok-walked.ensures

ended : (c : In_ok-walked) → Ends c.args.asked.head c.args.asked.key c.in_ok-walked.walked
ended c =
    let key = c.args.asked.key in
    let whole : length key.letters ≡ most_letters = search rules in
    ends c.requires.accepted c.requires.own key whole c.args.asked.ready.short _ (walked c)

pub returns-in_err-walked : goal.returns-in_err-walked
returns-in_err-walked c =
    absurd (never_bad c.requires.accepted c.requires.own (letters_of c.args.asked.key)
    (rw (c.of.ensures.head, c.of.ensures.bytes) at c.in_err-walked.ensures))

pub store_at-requires-clause-ends : goal.store_at-requires-clause-ends
store_at-requires-clause-ends c = ended (goal.at.store_at-requires-clause-ends c).In_ok-walked

pub returns-in_err-change : goal.returns-in_err-change
returns-in_err-change c =
    let r = c.from_residual-in_err-change in
    let p = err_from_is_err_and r.result r.ensures.1 in
    rw (p.1, p.2)
    (notes_refused c.requires.accepted c.requires.own (letters_of c.args.asked.key)
    (walked (goal.at.returns-in_err-change c).In_ok-walked) _ _ _ c.in_err-change.ensures)

pub note_all-requires-clause-ends : goal.note_all-requires-clause-ends
note_all-requires-clause-ends c = ended (goal.at.note_all-requires-clause-ends c).In_ok-walked

pub note_all-requires-clause-short : goal.note_all-requires-clause-short
note_all-requires-clause-short c =
    notes_room c.requires.accepted c.requires.own (letters_of c.args.asked.key)
    (walked (goal.at.note_all-requires-clause-short c).In_ok-walked) _ _ c.in_ok-change.ensures

pub returns : goal.returns
returns c =
    let change = c.in_ok-change.change in
    let same : to_z w32 (of_z w32 change) ≡ change = search rules in
    rw same
    (notes_done c.requires.accepted c.requires.own (letters_of c.args.asked.key)
    (walked (goal.at.returns c).In_ok-walked) _ change c.in_ok-change.ensures _ c.note_all.ensures)
