-- `utf8::char_at` meets its contract. By definition the character is the number in a field of n
-- bytes, and a field of no bytes is 0. A character ends within the bytes and has at most four,
-- so it may be read. Assumes nothing.
use mathlib.Core.Path.{sym, ◌∙◌}
use Rattle.field.specs.Field.{field_at}
use native.Mathlib.Omega.{arith}
use Rattle.utf8.proofs.Characters.{Character, character, char_at_lem}
use Rattle.utf8.proofs.char_at.Goals as goal
use Rattle.utf8.proofs.char_at.Goals.{Else-n-eq0}

stands : (c : Else-n-eq0) → Character c.args.s.now
    c.args.at c.args.n
stands c =
    rw c.requires (character _ _ (λ e. c.if-n-eq0.false (c.requires ∙ e)))

pub returns-then-n-eq0 : goal.returns-then-n-eq0
unfolding field_at
returns-then-n-eq0 c = sym (char_at_lem _ _ 0 (sym c.if-n-eq0.true ∙ c.requires))

pub read_few-requires : goal.read_few-requires
read_few-requires c = omega (arith, stands (goal.at.read_few-requires c).Else-n-eq0)

pub returns : goal.returns
returns c = c.read_few.ensures ∙ sym (char_at_lem _ _ _ c.requires)
