-- `key::Key::of_text` meets its contract: each turn reads one character and adds its letter, or
-- stops at a character that has none. A character takes at least one byte, so the length is at
-- most the place reached. Assumes nothing.
use Prim.Native.Nat.{◌<◌}
use mathlib.Core.Path.{◌≡◌, sym, ◌∙◌, ap}
use mathlib.Core.Logic.{◌≢◌}
use native.Mathlib.Omega.{arith}
use lib.ListN.{length}
use Rattle.utf8.specs.Table37.{char_len}
use Rattle.utf8.specs.Text.{char_at}
use Rattle.utf8.proofs.Characters.{Character, character}
use Rattle.alphabet.specs.Letters.{letter_of}
use Rattle.alphabet.specs.Judged.{letters_in}
use Rattle.alphabet.proofs.Positions.{some_letter, no_letter_there}
use Rattle.key.proofs.Typing.{typing_none, typing_more, typing_past, typing_all}
use Rattle.key.proofs.Typing.{typing_ill, typing_outside}
use Rattle.key.proofs.Key.of_text.Goals as goal
use Rattle.key.proofs.Key.of_text.Goals.{then-len-lt-HELD, else-len-lt-HELD}
use Rattle.key.proofs.Key.of_text.Goals.{Else-size-eq0, In_ok-x}

-- there is a character here, of this many bytes
sized : (c : Else-size-eq0) → (c.quick_len-size.result ≡ char_len c.args.text.now c.loop-at.at)
    × (char_len c.args.text.now c.loop-at.at ≢ 0)
sized c = (
  c.quick_len-size.ensures,
  λ z. c.if-size-eq0.false (c.quick_len-size.ensures ∙ z),
)

-- they are all in the text
character-here : (c : Else-size-eq0)
    → Character c.args.text.now c.loop-at.at c.quick_len-size.result
character-here c =
    let s = sized c in rw s.0 (character c.args.text.now c.loop-at.at s.1)

-- it is a letter of the alphabet, with this number
lettered : (c : In_ok-x)
    → (c.in_ok-x.x ≡ letter_of (letters_in c.args.codes.now)
    (char_at c.args.text.now c.loop-at.at))
    × (c.in_ok-x.x < length (letters_in c.args.codes.now))
lettered c =
    let l = some_letter _ _ _ (sym c.in_ok-x.was ∙ c.letter.ensures) in
    (l.0 ∙ ap (letter_of _) c.char_at.ensures, l.1)

pub loop-at-init : goal.loop-at-init
loop-at-init c = (omega arith, typing_none _ _)

pub returns-then-size-eq0 : goal.returns-then-size-eq0
returns-then-size-eq0 c =
    typing_ill c.loop-at.invariant.1 (omega arith)
    (sym c.quick_len-size.ensures ∙ c.if-size-eq0.true)

pub returns-in_err-x : goal.returns-in_err-x
returns-in_err-x c =
    c.from_residual.ensures
    ∙ typing_outside c.loop-at.invariant.1 (sized (goal.at.returns-in_err-x c).Else-size-eq0).1
    (rw c.char_at.ensures at (no_letter_there _ _ c.in_err-x.ensures))

pub overflow_add-at : goal.overflow_add-at
overflow_add-at c = omega (arith, (character-here (goal.at.overflow_add-at c).Else-size-eq0).whole)

pub loop-at-preserved : goal.loop-at-preserved
loop-at-preserved c =
    let s = sized (goal.at.loop-at-preserved c).Else-size-eq0 in
    let l = lettered (goal.at.loop-at-preserved c).In_ok-x in (
      omega (
        arith,
        (character-here (goal.at.loop-at-preserved c).Else-size-eq0).some,
        c.loop-at.invariant.0,
      ),
      elim c.if-len-lt-HELD.branch [
        | then-len-lt-HELD w ↦ rw w.kept-is (typing_more c.loop-at.invariant.1 s.0
            (λ z. s.1 (sym s.0 ∙ z)) l.0 l.1 w.if-len-lt-HELD.true)
        | else-len-lt-HELD w ↦ rw w.kept-is (typing_past c.loop-at.invariant.1 s.0
            (λ z. s.1 (sym s.0 ∙ z)) l.0 l.1 w.if-len-lt-HELD.false)
      ],
    )

pub returns : goal.returns
returns c = typing_all c.loop-at.invariant.1 c.loop-at-test.false
