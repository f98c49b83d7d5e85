-- `key::Key::judge_next` meets its contract: 9 if the key is longer than max, then 10 by the
-- letters, all of which are held. Assumes nothing.
use mathlib.Core.Path.{sym, ◌∙◌}
use native.Mathlib.Omega.{arith}
use borrow.Author.Tests.{lt-ltb, le-ltb}
use Rattle.head.proofs.Permitted.{bounds}
use Rattle.paper.specs.Answers.{row_of}
use Rattle.paper.specs.Rows.{row9next}
use Rattle.paper.specs.Orders.{next_rows}
use Rattle.key.proofs.Judging.{longer, nine_given, ten_decides}
use Rattle.key.proofs.Key.judge_next.Goals as goal

pub returns-then-h-self : goal.returns-then-h-self
unfolding row_of next_rows row9next
returns-then-h-self c =
    let h = c.args.h in
    λ k o. sym (nine_given h (longer h) o (lt-ltb _ _ c.if-h-self.true))

pub spelled-requires : goal.spelled-requires
spelled-requires c =
    omega (arith, bounds c.args.h c.requires)

pub returns : goal.returns
unfolding row_of next_rows row9next
returns c =
    let h = c.args.h in
    λ k o. c.spelled.ensures k o
    ∙ sym (ten_decides h (longer h) o (le-ltb _ _ c.if-h-self.false))
