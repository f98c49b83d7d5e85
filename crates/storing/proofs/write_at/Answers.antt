-- `storing::write_at` meets its contract: what is written depends only on how the walk ended.
-- Assumes nothing.
use mathlib.Core.Path.{◌≡◌, ◌∙◌, subst}
use mir.Syntax.{w32}
use mir.Facts.{to_z-of_z}
use borrow.Author.Rules.{rules, sfits_of}
use lib.ListN.{length}
use Rattle.head.specs.Fields.{most_letters}
use Rattle.key.specs.Hand.{letters_of}
use Rattle.key.proofs.Hand.{letters_from}
use Rattle.storing.specs.StoreStage.{Ends}
use Rattle.storing.proofs.Adding.{passed}
use Rattle.storing.proofs.StoreStage.{writes_over, writes_path, allowed_path}
use Rattle.storing.proofs.write_at.Goals as goal

pub replace-requires-clause-fits : goal.replace-requires-clause-fits
replace-requires-clause-fits c = (passed _ _ _ _ c.requires.unrefused).fits

pub extend-requires-clause-unrefused : goal.extend-requires-clause-unrefused
extend-requires-clause-unrefused c =
    allowed_path c.args.asked.head _ (letters_of c.args.asked.key) _ c.in-Stopped.is
    c.requires.unrefused

pub returns-in-Complete : goal.returns-in-Complete
returns-in-Complete c =
    let a = c.args in
    let r = writes_over a.asked.head _ (letters_of a.asked.key) _ c.in-Complete.is
    c.replace.ensures.image_after
    (to_z-of_z {w = w32} (sfits_of c.replace.type_inv) ∙ c.replace.ensures.value) in
    record { image_after = r.0; value = r.1 }

pub returns-in-Stopped : goal.returns-in-Stopped
returns-in-Stopped c =
    let a = c.args in
    let whole : length a.asked.key.letters ≡ most_letters = search rules in
    let stop = subst (Ends a.asked.head a.asked.key) c.in-Stopped.is c.requires.ends in
    let r = writes_path a.asked.head _ (letters_of a.asked.key) _ c.in-Stopped.is _ _
    (letters_from a.asked.key whole c.args.asked.ready.short _ stop.depth)
    c.extend.ensures.image_after
    (to_z-of_z {w = w32} (sfits_of c.extend.type_inv) ∙ c.extend.ensures.value) in
    record { image_after = r.0; value = r.1 }
