-- `storing::new_count` meets its contract: one node is missing for each letter that is left
-- where the walk stopped. Assumes nothing.
use Prim.Native.Nat.{◌-◌}
use mathlib.Core.Path.{◌≡◌, sym, ◌∙◌, ap, subst}
use borrow.Author.Rules.{rules}
use lib.ListN.{length}
use Rattle.head.specs.Fields.{most_letters}
use Rattle.key.proofs.Hand.{letters_count, letters_from}
use Rattle.storing.specs.StoreStage.{Ends}
use Rattle.storing.proofs.StoreStage.{count_none, count_over, count_path}
use Rattle.storing.proofs.new_count.Goals as goal

pub returns-in-Stopped-clause-added : goal.returns-in-Stopped-clause-added
returns-in-Stopped-clause-added c =
    let key = c.args.asked.key in
    let short = c.args.asked.ready.short in
    let whole : length key.letters ≡ most_letters = search rules in
    let stop = subst (Ends c.args.asked.head key) c.in-Stopped.is c.requires.ends in
    ap (λ n. n - c.in-Stopped.at.depth) (sym (letters_count key whole short))
    ∙ count_path _ _ c.if-value-ne0.true c.in-Stopped.is _ _
    (letters_from key whole short _ stop.depth)

pub returns-in_default-clause-added : goal.returns-in_default-clause-added
returns-in_default-clause-added c = count_none _ _ c.if-value-ne0.false

pub returns-in_default-2-clause-added : goal.returns-in_default-2-clause-added
returns-in_default-2-clause-added c = count_over _ _ c.in_default.is
