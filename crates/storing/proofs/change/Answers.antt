-- `storing::change` meets its contract, case by case. Assumes nothing.
use Rattle.storing.proofs.Adding.{change_none, change_new, change_gone, change_over}
use Rattle.storing.proofs.change.Goals as goal

pub returns-in-0-eq0 : goal.returns-in-0-eq0
returns-in-0-eq0 c = change_none c.in-0-eq0.is-0 c.in-0-eq0.is-1

pub returns-in-0-default : goal.returns-in-0-default
returns-in-0-default c = change_new _ _ c.in-0-default.is-0 c.in-0-default.is-1.1

pub returns-in_default-eq0 : goal.returns-in_default-eq0
returns-in_default-eq0 c = change_gone _ _ c.in_default-eq0.is-0.1 c.in_default-eq0.is-1

pub returns-in_default : goal.returns-in_default
returns-in_default c = change_over _ _ c.in_default.is-0.1 c.in_default.is-1.1
