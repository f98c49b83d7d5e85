-- `alphabet::Codes::judge` meets its contract. There is a law for each return: no character
-- there, one too many, one that was there before, and the end, where only the count decides. The
-- measure is how many bytes are left. Assumes nothing.
use mathlib.Core.Logic.{◌≢◌}
use Rattle.utf8.specs.Table37.{char_len}
use Rattle.utf8.proofs.Characters.{character}
use Prim.Native.Nat.{◌+◌, ◌≤◌}
use mathlib.Core.Path.{◌≡◌, sym, refl, ◌∙◌}
use mathlib.Core.Bool.{false}
use native.Mathlib.Omega.{arith}
use lib.ListN.{length, take}
use Rattle.alphabet.specs.Letters.{among}
use Rattle.alphabet.proofs.AlphabetLoops.{judging_none, judging_more, judging_ill}
use Rattle.alphabet.proofs.AlphabetLoops.{judging_many, judging_again, judging_all}
use Rattle.alphabet.proofs.codes.Codes.judge.Goals as goal
use Rattle.alphabet.proofs.codes.Codes.judge.Goals.{Else-len-eq0, Joined-code-top}
use Rattle.alphabet.proofs.codes.Codes.judge.Goals.{then-code-top+else-is_among, else-code-top}

-- there is a character, which ends within the bytes
stands : (c : Else-len-eq0) → char_len c.args.bytes.now c.loop-at.at ≢ 0
stands c z = c.if-len-eq0.false (c.char_len-len.ensures ∙ z)

whole : (c : Else-len-eq0)
    → c.loop-at.at + c.char_len-len.result ≤ length c.args.bytes.now
whole c = rw c.char_len-len.ensures (character _ _ (stands c)).whole

pub loop-at-init : goal.loop-at-init
loop-at-init c = judging_none _ _ _ (omega arith)

pub returns-then-len-eq0 : goal.returns-then-len-eq0
returns-then-len-eq0 c =
    judging_ill c.loop-at.invariant _ (omega arith)
    (sym c.char_len-len.ensures ∙ c.if-len-eq0.true)

pub returns-then-n-count : goal.returns-then-n-count
returns-then-n-count c =
    judging_many c.loop-at.invariant _ (stands (goal.at.returns-then-n-count c).Else-len-eq0)
    (omega arith)

pub returns-then-is_among : goal.returns-then-is_among
returns-then-is_among c =
    judging_again c.loop-at.invariant _ (stands (goal.at.returns-then-is_among c).Else-len-eq0)
    (rw (← c.char_at-code.ensures) (sym c.is_among.ensures ∙ c.if-is_among.true))

pub overflow_add-at : goal.overflow_add-at
overflow_add-at c = omega (arith, whole (goal.at.overflow_add-at c).Else-len-eq0)

-- where the two branches meet, the code is new, and no code is above `top`
new : (c : Joined-code-top)
    → (among c.char_at-code.result (take c.loop-at.count c.loop-at.self.list) ≡ false)
    × (c.loop-at.top ≤ c.if-code-top.top)
    × (c.char_at-code.result ≤ c.if-code-top.top)
new c =
    elim c.if-code-top.branch [
      | then-code-top+else-is_among w ↦ (
        sym w.is_among.ensures ∙ w.if-is_among.false,
        omega arith,
        omega arith,
      )
      | else-code-top w ↦ (
        c.loop-at.invariant.above _ w.if-code-top.false,
        omega arith,
        omega arith,
      )
    ]

pub loop-at-preserved : goal.loop-at-preserved
loop-at-preserved c =
    let n = new (goal.at.loop-at-preserved c).Joined-code-top in
    judging_more c.loop-at.invariant (omega arith) c.char_len-len.ensures c.if-len-eq0.false
    c.char_at-code.ensures n.0 n.1 n.2

pub returns : goal.returns
returns c = judging_all c.loop-at.invariant _ refl (omega arith)
