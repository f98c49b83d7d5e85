-- `field::read_few` meets its contract: after each byte the number is that of the bytes read.
-- Assumes nothing.
use mathlib.Core.Path.{◌≡◌, sym, ap, ◌∙◌}
use native.Mathlib.Omega.{arith}
use Prim.Native.Nat.{ℕ, ◌+◌, ◌*◌}
use Rattle.field.specs.Field.{field_at}
use Rattle.field.proofs.Field.{field_one, field_more}
use Rattle.field.proofs.read_few.Goals as goal
use Rattle.field.proofs.read_few.Goals.{After-from, After-from-2, After-from-one}

-- the number after each byte
one : (c : After-from-one) → c.from-one.result ≡ field_at c.args.s.now c.args.at 1
one c = c.from-one.ensures ∙ sym (field_one _ _)

two : (c : After-from)
    → c.from-one.result * 256 + c.from.result ≡ field_at c.args.s.now c.args.at 2
two c = field_more _ _ 1 (c.from-one.ensures ∙ sym (field_one _ _)) c.from.ensures

three : (c : After-from-2)
    → (c.from-one.result * 256 + c.from.result) * 256 + c.from-2.result
    ≡ field_at c.args.s.now c.args.at 3
three c =
    field_more _ _ 2 (field_more _ _ 1 (c.from-one.ensures ∙ sym (field_one _ _)) c.from.ensures)
    c.from-2.ensures

pub returns-then-w-eq1 : goal.returns-then-w-eq1
returns-then-w-eq1 c =
    one (goal.at.returns-then-w-eq1 c).After-from-one ∙ ap (field_at _ _) (sym c.if-w-eq1.true)

pub returns-then-w-eq2 : goal.returns-then-w-eq2
returns-then-w-eq2 c =
    two (goal.at.returns-then-w-eq2 c).After-from ∙ ap (field_at _ _) (sym c.if-w-eq2.true)

pub returns-then-w-eq3 : goal.returns-then-w-eq3
returns-then-w-eq3 c =
    three (goal.at.returns-then-w-eq3 c).After-from-2 ∙ ap (field_at _ _) (sym c.if-w-eq3.true)

pub returns : goal.returns
returns c =
    let w : c.args.w ≡ 4 = omega arith in
    field_more _ _ 3 (three (goal.at.returns c).After-from-2) c.from-3.ensures
    ∙ ap (field_at _ _) (sym w)
