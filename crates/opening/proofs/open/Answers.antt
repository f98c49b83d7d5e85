-- `opening::open` meets its contract: an image that has the seven fields is judged by them, and
-- its alphabet is the part after them. Assumes nothing.
use Prim.Native.Nat.{◌≤◌}
use mathlib.Core.Path.{sym, ◌∙◌}
use lib.ListN.{length}
use Rattle.std.proofs.lemmas.Result.{err_from_is_err_and}
use Rattle.field.proofs.Range.{between_true}
use Rattle.head.specs.Fields.{fields_len}
use Rattle.paper.specs.Orders.{opening_rows_of}
use Rattle.paper.proofs.Opening.{heard_1}
use Rattle.opening.proofs.Stages.{opens_refused, opens_err, opens_ok}
use Rattle.opening.proofs.open.Goals as goal
use Rattle.opening.proofs.open.Goals.{Else-not-length_allowed}

-- past the first test the seven fields are there
fields : (c : Else-not-length_allowed) → fields_len ≤ length c.args.image.now
fields c =
    (between_true _ _ _ (sym c.length_allowed.ensures ∙ c.if-not-length_allowed.false)).0

pub returns-then-not-length_allowed : goal.returns-then-not-length_allowed
unfolding opening_rows_of
returns-then-not-length_allowed c =
    opens_refused _
    (heard_1 _ _ _ (sym c.length_allowed.ensures ∙ c.if-not-length_allowed.true))

pub returns-in_err-judge : goal.returns-in_err-judge
returns-in_err-judge c =
    let e = err_from_is_err_and c.from_residual.result c.from_residual.ensures.1 in
    rw e.1
    (rw e.2 (opens_err _ c.read-h.ensures c.alphabet_end-end.ensures
    (fields (goal.at.returns-in_err-judge c).Else-not-length_allowed) c.in_err-judge.ensures))

pub returns : goal.returns
returns c =
    opens_ok _ c.read-h.ensures c.alphabet_end-end.ensures
    (fields (goal.at.returns c).Else-not-length_allowed) c.in_ok-judge.ensures
