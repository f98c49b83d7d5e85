-- `utf8::in_range` meets its contract: each return is a case of the definition, the last one the
-- case of every byte from the third on. Assumes nothing.
use mathlib.Core.Path.{sym}
use Rattle.utf8.specs.Table37.{in_range}
use Rattle.utf8.proofs.Utf8Loops.{third_byte}
use Rattle.utf8.proofs.in_range.Goals as goal

pub returns-then-i-eq0 : goal.returns-then-i-eq0
unfolding in_range
returns-then-i-eq0 c = rw c.if-i-eq0.true

pub returns-then-i-eq1 : goal.returns-then-i-eq1
unfolding in_range
returns-then-i-eq1 c = rw c.if-i-eq1.true

pub returns : goal.returns
unfolding in_range
returns c = sym (third_byte c.args.row c.args.i c.args.b c.if-i-eq0.false c.if-i-eq1.false)
