-- `storing::store` meets its contract: in an accepted image the walk is not refused, and it ends
-- as the key's descent does. Assumes nothing.
use mathlib.Core.Path.{◌≡◌}
use borrow.Author.Rules.{rules}
use lib.ListN.{length}
use Rattle.std.specs.Prelude.{Ok}
use Rattle.head.specs.Fields.{most_letters}
use Rattle.node.specs.Image.{table_of}
use Rattle.key.specs.Hand.{letters_of}
use Rattle.walk.specs.Descent.{at_root, walked_from}
use Rattle.storing.proofs.StoreStage.{never_bad, ends, stores}
use Rattle.storing.proofs.store.Goals as goal
use Rattle.storing.proofs.store.Goals.{In_ok-walked}

-- how the walk ended
walked : (c : In_ok-walked) →
    let a = c.args in
    Ok c.in_ok-walked.walked ≡ walked_from a.asked.head.g (table_of a.asked.head a.image.now)
    at_root (letters_of a.asked.key)
walked c = rw (c.of.ensures.head, c.of.ensures.bytes) at c.in_ok-walked.ensures

pub returns-in_err-walked : goal.returns-in_err-walked
returns-in_err-walked c =
    absurd (never_bad c.requires.accepted c.requires.own (letters_of c.args.asked.key)
    (rw (c.of.ensures.head, c.of.ensures.bytes) at c.in_err-walked.ensures))

pub store_at-requires-clause-ends : goal.store_at-requires-clause-ends
store_at-requires-clause-ends c =
    let key = c.args.asked.key in
    let whole : length key.letters ≡ most_letters = search rules in
    ends c.requires.accepted c.requires.own key whole c.args.asked.ready.short _
    (walked (goal.at.store_at-requires-clause-ends c).In_ok-walked)

pub returns : goal.returns
returns c =
    stores c.requires.accepted c.requires.own (letters_of c.args.asked.key)
    (walked (goal.at.returns c).In_ok-walked) _ _ c.store_at.ensures
