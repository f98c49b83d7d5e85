-- `audit::links` meets its contract: each way out has its law, from what the search for a bad
-- link, `all_met`, the two searches in the working numbers and the judging of 16 and 19
-- returned. Assumes nothing.
use native.Mathlib.Omega.{arith}
use borrow.Author.Tests.{eqb-true}
use Rattle.field.proofs.Range.{both}
use Rattle.audit.proofs.Verdicts.{linked_bad, linked_plain, linked_twice, linked_missing}
use Rattle.audit.proofs.Verdicts.{linked_within, linked_alone, linked_reached}
use Rattle.audit.proofs.links.Goals as goal

pub returns-in-Some : goal.returns-in-Some
returns-in-Some c = linked_bad c.in-Some.ensures

pub returns-then-all_met-work : goal.returns-then-all_met-work
returns-then-all_met-work c =
    let t = both _ _ c.if-all_met-work.true in
    linked_plain c.in_default.ensures (eqb-true _ 1 t.1)
    (rw c.count-count.ensures at (c.all_met.ensures t.0))
    c.args.nodes.open

pub returns-in-Some-first_holding : goal.returns-in-Some-first_holding
returns-in-Some-first_holding c =
    linked_twice c.in_default.ensures
    (rw c.count-count.ensures at c.in-Some-first_holding.ensures)

pub returns-in-Some-first_holding-2 : goal.returns-in-Some-first_holding-2
returns-in-Some-first_holding-2 c =
    linked_missing c.in_default.ensures
    (rw c.count-count.ensures at c.in_default-first_holding.ensures)
    (rw c.count-count.ensures at c.in-Some-first_holding-2.ensures)

pub reached-requires-clause-within : goal.reached-requires-clause-within
reached-requires-clause-within c = linked_within c.in_default.ensures

pub reached-requires-clause-once : goal.reached-requires-clause-once
reached-requires-clause-once c =
    linked_alone c.in_default.ensures
    (rw c.count-count.ensures at c.in_default-first_holding.ensures)

pub returns : goal.returns
returns c =
    let e = c.count-count.ensures in
    linked_reached c.in_default.ensures (rw e at c.in_default-first_holding.ensures)
    (rw e at c.in_default-first_holding-2.ensures)
    (rw e at c.clear.ensures)
    (omega (arith, c.in_default.ensures.kept.long, c.requires.room))
    c.reached.ensures
