-- `walk::Position::step` meets its contract: the link read is the table's, and it is empty, bad,
-- or one to follow. Assumes nothing.
use mathlib.Core.Path.{sym, ◌∙◌}
use Rattle.walk.proofs.Descents.{step_empty, step_bad, step_on_lem}
use Rattle.walk.proofs.Position.step.Goals as goal

pub returns-then-c-eq0 : goal.returns-then-c-eq0
returns-then-c-eq0 c = sym (step_empty _ _ _ _ c.link-c.ensures c.if-c-eq0.true)

pub returns-then-bad_link : goal.returns-then-bad_link
returns-then-bad_link c =
    sym (step_bad _ _ _ _ c.link-c.ensures c.if-c-eq0.false
    (sym c.bad_link.ensures ∙ c.if-bad_link.true))

pub returns : goal.returns
returns c =
    sym (step_on_lem _ _ _ _ c.link-c.ensures c.if-c-eq0.false
    (sym c.bad_link.ensures ∙ c.if-bad_link.false))
