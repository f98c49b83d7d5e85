-- `tallying::hides` meets its contract: the mark is tested first, and the data only if the mark is
-- that of a depth outside min..max. Assumes nothing.
use mathlib.Core.Path.{sym}
use native.Mathlib.Omega.{arith}
use Rattle.head.proofs.Permitted.{bounds}
use Rattle.tallying.proofs.Hiding.{hides_none, hides_data}
use Rattle.tallying.proofs.hides.Goals as goal

pub overflow_add-nodes : goal.overflow_add-nodes
overflow_add-nodes c =
    omega (arith, (bounds c.args.nodes.head c.args.nodes.open.head_permitted).max_most)

pub returns-then-nodes-mark : goal.returns-then-nodes-mark
returns-then-nodes-mark c = sym (hides_none _ _ _ _ c.if-nodes-mark.true)

pub returns : goal.returns
returns c = sym (hides_data _ _ _ _ c.if-nodes-mark.false c.data.ensures)
