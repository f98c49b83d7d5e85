-- `walk::walk` meets its contract: from the position reached, the walk along the letters left
-- ends as the whole walk does. Assumes nothing.
use Prim.Native.Nat.{suc}
use mathlib.Core.Path.{◌≡◌, sym, ap, ◌∙◌}
use mathlib.Core.List.{◌∷◌}
use native.Mathlib.Omega.{arith}
use lib.ListN.{get_or, drop}
use lib.Seq.{drop-cons}
use Rattle.std.specs.Prelude.{Ok}
use Rattle.trie.proofs.LettersBelow.{letters_at}
use Rattle.key.specs.Hand.{letters_of}
use Rattle.walk.proofs.Descents.{walking_on, walking_stopped, walking_bad, walking_end}
use Rattle.walk.proofs.Descents.{step_refused}
use Rattle.walk.proofs.walk.Goals as goal
use Rattle.walk.proofs.walk.Goals.{In-loop-letter}

-- the letters that are left
left : (c : In-loop-letter) →
    let k = letters_of c.args.key in
    drop c.loop-letter.here.depth k ≡ get_or k c.loop-letter.letter-index 0
    ∷ drop (suc c.loop-letter.letter-index) k
left c =
    let k = letters_of c.args.key in
    rw c.loop-letter.invariant.deep
    (drop-cons k c.loop-letter.letter-index 0 c.loop-letter-test.true)

pub step-requires-clause-letter : goal.step-requires-clause-letter
step-requires-clause-letter c =
    letters_at _ (letters_of c.args.key) c.requires.letters _ c.loop-letter-test.true

pub returns-in_default : goal.returns-in_default
returns-in_default c =
    sym (walking_bad c.loop-letter.invariant.walking
    (left (goal.at.returns-in_default c).In-loop-letter)
    (step_refused _ _ c.loop-letter.here _ c.step.ensures c.in_default.is))

pub returns-in_default-step : goal.returns-in_default-step
returns-in_default-step c =
    sym (walking_stopped c.loop-letter.invariant.walking
    (left (goal.at.returns-in_default-step c).In-loop-letter)
    (sym c.step.ensures ∙ (c.in-Ok.is ∙ ap Ok c.in_default-step.is)))

pub loop-letter-preserved : goal.loop-letter-preserved
loop-letter-preserved c =
    let w = walking_on c.loop-letter.invariant.walking
    (left (goal.at.loop-letter-preserved c).In-loop-letter)
    (sym c.step.ensures ∙ (c.in-Ok.is ∙ ap Ok c.in-Some.is)) in
    record { walking = w.0; deep = omega (arith, w.1) }

pub returns : goal.returns
returns c = sym (walking_end c.loop-letter.invariant.walking (omega arith))
