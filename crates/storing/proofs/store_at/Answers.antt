-- `storing::store_at` meets its contract: 11, 12 and 13 are judged before a byte is written.
-- Assumes nothing.
use Prim.Native.Nat.{ℕ}
use mathlib.Core.Path.{◌≡◌, ◌∙◌, ap}
use mir.Syntax.{w32}
use mir.Facts.{to_z-of_z}
use borrow.Author.Rules.{sfits_of}
use lib.ListN.{length}
use Rattle.std.proofs.lemmas.Result.{err_from_is_err_and}
use Rattle.trie.specs.Table.{missing}
use Rattle.trie.specs.Storing.{added}
use Rattle.paper.specs.Hearing.{first}
use Rattle.paper.specs.Answers.{row_of}
use Rattle.paper.specs.Orders.{adding_rows}
use Rattle.paper.proofs.Hearing.{told_refused, told_passed}
use Rattle.key.specs.Hand.{letters_of}
use Rattle.storing.specs.StoreStage.{end_of}
use Rattle.storing.proofs.Adding.{refuses, done}
use Rattle.storing.proofs.store_at.Goals as goal
use Rattle.storing.proofs.store_at.Goals.{After-judge}

-- what is judged is the number of nodes that the store adds
judged : (c : After-judge) →
    let a = c.args in
    row_of c.judge.result
    ≡ first (adding_rows a.asked.head a.value
    (added (missing (end_of (letters_of a.asked.key) a.walked)) a.value)
    (length a.image.now))
judged c = let a = c.args in
    c.judge.ensures
    ∙ ap (λ (k : ℕ). first (adding_rows a.asked.head a.value k (length a.image.now)))
    c.new_count.ensures.added

pub returns-in_err-judge : goal.returns-in_err-judge
returns-in_err-judge c =
    let p = err_from_is_err_and c.from_residual.result c.from_residual.ensures.1 in
    rw (p.1, p.2)
    (refuses c.args.asked.head _ _ _ _
    (told_refused (judged (goal.at.returns-in_err-judge c).After-judge) c.in_err-judge.was))

pub write_at-requires-clause-unrefused : goal.write_at-requires-clause-unrefused
write_at-requires-clause-unrefused c =
    told_passed (judged (goal.at.write_at-requires-clause-unrefused c).After-judge)
    c.in_ok-judge.was

pub returns : goal.returns
returns c =
    done c.args.asked.head _ _ _
    (told_passed (judged (goal.at.returns c).After-judge) c.in_ok-judge.was)
    (to_z-of_z {w = w32} (sfits_of c.write_at.type_inv) ∙ c.write_at.ensures.value)
    c.write_at.ensures.image_after
