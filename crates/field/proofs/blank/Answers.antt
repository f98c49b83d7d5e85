-- `field::blank` meets its contract. Each turn adds sixteen bytes to those that are 0 if the
-- first eight are. At the end at most sixteen bytes are left, and the last sixteen cover them.
-- The measure is how many bytes are left. Assumes nothing.
use native.Mathlib.Omega.{arith}
use borrow.Author.Tests.{eqb-true}
use Rattle.field.proofs.FieldLoops.{blanking_none, blanking_more, blanking_all}
use Rattle.field.proofs.blank.Goals as goal

pub loop-at-init : goal.loop-at-init
loop-at-init c =
    blanking_none (omega arith) c.eight-first.ensures
    (λ z. c.eight.ensures (omega arith))

pub loop-at-preserved : goal.loop-at-preserved
loop-at-preserved c =
    blanking_more c.loop-at.invariant (omega arith)
    (λ z. c.eight-in-loop-at.ensures (omega arith))
    (λ z. c.eight-in-loop-at-2.ensures (omega arith))

pub returns : goal.returns
returns c e =
    let z = eqb-true _ _ e in
    blanking_all c.loop-at.invariant (omega arith) (omega arith) z
    (c.eight-2.ensures (omega arith))
    (c.eight-3.ensures (omega arith))
