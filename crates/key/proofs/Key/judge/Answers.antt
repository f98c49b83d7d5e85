-- `key::Key::judge` meets its contract: 9 by the length, then 10 by the letters, all of which
-- are held once the length is allowed. Assumes nothing.
use mathlib.Core.Path.{sym, ap, ◌∙◌}
use mathlib.Core.Bool.{not}
use Rattle.paper.specs.Answers.{row_of}
use Rattle.paper.specs.Rows.{row9}
use Rattle.paper.specs.Orders.{letters_rows}
use Rattle.key.proofs.Judging.{short, outside, nine_given, ten_decides}
use Rattle.key.proofs.Key.judge.Goals as goal

pub returns-then-not-length_allowed : goal.returns-then-not-length_allowed
unfolding row_of letters_rows row9
returns-then-not-length_allowed c =
    let h = c.args.h in
    λ k o. sym (nine_given h (outside h) o (sym (ap not c.length_allowed.ensures)
    ∙ ap not c.if-not-length_allowed.true))

pub spelled-requires : goal.spelled-requires
spelled-requires c =
    short _ c.requires
    (sym c.length_allowed.ensures ∙ c.if-not-length_allowed.false)

pub returns : goal.returns
unfolding row_of letters_rows row9
returns c =
    let h = c.args.h in
    λ k o. c.spelled.ensures k o
    ∙ sym (ten_decides h (outside h) o (sym (ap not c.length_allowed.ensures)
    ∙ ap not c.if-not-length_allowed.false))
