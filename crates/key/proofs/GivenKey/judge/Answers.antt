-- `key::GivenKey::judge` meets its contract. Letters are put in hand and judged by 9 and 10; a
-- text that names no key gives 10, and the key of another is judged by 9 alone. Assumes nothing.
use mathlib.Core.Path.{◌≡◌, sym, ◌∙◌}
use native.Mathlib.Omega.{arith}
use Rattle.std.specs.Prelude.{Some, None}
use Rattle.std.proofs.lemmas.Result.{err_from_is_err_and}
use Rattle.alphabet.specs.Letters.{key_of_text}
use Rattle.alphabet.specs.Judged.{letters_in}
use Rattle.paper.specs.declared.Refusal.{Refusal}
use Rattle.key.specs.Hand.{hand_of}
use Rattle.key.proofs.Keyed.{letters_refused, letters_judged}
use Rattle.key.proofs.Keyed.{text_nameless, text_length, text_passed}
use Rattle.key.proofs.GivenKey.judge.Goals as goal
use Rattle.key.proofs.GivenKey.judge.Goals.{In_ok-key-in-Text}

-- the text names this key
spelt : (c : In_ok-key-in-Text)
    → hand_of (key_of_text (letters_in c.args.codes.now) c.in-Text.text.now)
    ≡ Some c.in_ok-key-in-Text.key
spelt c =
    let e = c.in_ok-key-in-Text.ensures in
    let f : c.of_text.result ≡ Some c.in_ok-key-in-Text.key = grind arith in
    sym c.of_text.ensures ∙ f

pub returns-in_err-judge-in-Letters : goal.returns-in_err-judge-in-Letters
returns-in_err-judge-in-Letters c =
    let e = err_from_is_err_and c.from_residual.result
    c.from_residual.ensures.1 in
    rw (c.in-Letters.is, e.1)
    (rw e.2 (letters_refused c.in-Letters.letters.now c.of-key.ensures c.judge.ensures
    c.in_err-judge-in-Letters.was))

pub returns-in_ok-judge-in-Letters : goal.returns-in_ok-judge-in-Letters
returns-in_ok-judge-in-Letters c =
    rw c.in-Letters.is
    (letters_judged c.in-Letters.letters.now c.of-key.ensures c.judge.ensures
    c.in_ok-judge-in-Letters.was)

pub returns-in_err-key-in-Text : goal.returns-in_err-key-in-Text
returns-in_err-key-in-Text c =
    let e = err_from_is_err_and c.from_residual-in_err-key-in-Text.result
    c.from_residual-in_err-key-in-Text.ensures.1 in
    let v = c.in_err-key-in-Text.ensures in
    let f : c.of_text.result ≡ None = grind arith in
    let g : c.in_err-key-in-Text.field-0.0 ≡ Refusal.Letter = grind arith in
    rw (c.in-Text.is, e.1)
    (rw (e.2, g) (text_nameless c.in-Text.text.now (sym c.of_text.ensures ∙ f)))

pub returns-then-not-length_allowed : goal.returns-then-not-length_allowed
returns-then-not-length_allowed c =
    rw c.in-Text.is
    (text_length c.in-Text.text.now
    (spelt (goal.at.returns-then-not-length_allowed c).In_ok-key-in-Text)
    (sym c.length_allowed.ensures ∙ c.if-not-length_allowed.true))

pub returns-else-not-length_allowed : goal.returns-else-not-length_allowed
returns-else-not-length_allowed c =
    rw c.in-Text.is
    (text_passed c.in-Text.text.now
    (spelt (goal.at.returns-else-not-length_allowed c).In_ok-key-in-Text)
    (sym c.length_allowed.ensures ∙ c.if-not-length_allowed.false))
