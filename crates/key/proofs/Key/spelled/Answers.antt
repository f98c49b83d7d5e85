-- `key::Key::spelled` meets its contract: the key is held whole, so its letters are those of the
-- array. Assumes nothing.
use mathlib.Core.Path.{sym, ◌∙◌}
use Rattle.paper.specs.Hearing.{row_when}
use Rattle.paper.specs.Answers.{row_of}
use Rattle.key.proofs.Judging.{ten_by}
use Rattle.key.proofs.Key.spelled.Goals as goal

pub returns-then-not-all_below : goal.returns-then-not-all_below
unfolding row_of row_when
returns-then-not-all_below c =
    λ k o. sym (ten_by _ o c.requires
    (sym c.all_below.ensures ∙ c.if-not-all_below.true))

pub returns : goal.returns
unfolding row_of row_when
returns c =
    λ k o. sym (ten_by _ o c.requires
    (sym c.all_below.ensures ∙ c.if-not-all_below.false))
