-- `walk::look` meets its contract: a complete walk ends at a node up to G, whose data is the
-- value; a walk that stopped answers 0, and the walk's refusal is the answer. Assumes nothing.
use mathlib.Core.Path.{sym, ◌∙◌, ap}
use Rattle.std.specs.Prelude.{Ok}
use Rattle.std.proofs.lemmas.Result.{err_from_is_err_and}
use Rattle.walk.proofs.Descents.{walked_complete, looked_complete, looked_stopped}
use Rattle.walk.proofs.Descents.{looked_bad}
use Rattle.walk.proofs.look.Goals as goal

pub data-requires : goal.data-requires
data-requires c = (walked_complete _ _ _ c.in_ok-node.ensures c.in-Complete.is).within

pub returns-in_err-node : goal.returns-in_err-node
returns-in_err-node c =
    let p = err_from_is_err_and c.from_residual.result c.from_residual.ensures.1 in
    rw (p.1, p.2) (sym (looked_bad _ _ _ c.in_err-node.ensures))

pub returns-in-Complete : goal.returns-in-Complete
returns-in-Complete c =
    ap Ok c.data.ensures ∙ sym (looked_complete _ _ _ c.in_ok-node.ensures c.in-Complete.is)

pub returns-in-Stopped : goal.returns-in-Stopped
returns-in-Stopped c = sym (looked_stopped _ _ _ c.in_ok-node.ensures c.in-Stopped.is)
