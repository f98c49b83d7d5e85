-- `opening::judge` meets its contract: each way out is one row of the order, once the rows
-- before it have passed. Assumes nothing.
use mathlib.Core.Path.{◌≡◌, refl, sym, ◌∙◌}
use mathlib.Core.Bool.{true}
use native.Mathlib.Omega.{arith}
use Rattle.field.specs.Range.{between}
use Rattle.head.specs.Fields.{shortest_image, longest_image, permitted}
use Rattle.head.proofs.Permitted.{bounds}
use Rattle.paper.proofs.Opening.{heard_1, heard_2, heard_3, left_4, fits_4, heard_4}
use Rattle.opening.proofs.Stages.{judged_refused, judged_passed, Read, read_none, read_good}
use Rattle.opening.proofs.Stages.{spoilt_bad}
use Rattle.opening.proofs.judge.Goals as goal
use Rattle.opening.proofs.judge.Goals.{Else-not-length_allowed, Else-not-permitted}
use Rattle.opening.proofs.judge.Goals.{Joined-f-alphabet}
use Rattle.opening.proofs.judge.Goals.{then-f-alphabet, else-f-alphabet+else-not-judge}

-- past the first test the length is allowed
allowed : (c : Else-not-length_allowed) → between c.args.len shortest_image
    longest_image ≡ true
allowed c = sym c.length_allowed.ensures ∙ c.if-not-length_allowed.false

-- past the second test the head is permitted
good-head : (c : Else-not-permitted) → permitted c.args.h ≡ true
good-head c = sym c.permitted.ensures ∙ c.if-not-permitted.false

-- past the third row the letters are in the codes
read : (c : Joined-f-alphabet) → Read c.args.h c.args.alphabet.now c.args.len c.if-f-alphabet.codes
read c =
    elim c.if-f-alphabet.branch [
      | then-f-alphabet w ↦ rw w.codes-is (read_none _ _ _ w.if-f-alphabet.true refl)
      | else-f-alphabet+else-not-judge w ↦ rw w.codes-is (read_good _ _ _
          (sym w.judge.ensures.good ∙ w.if-not-judge.false)
          (w.judge.ensures.spelled w.if-not-judge.false))
    ]

pub returns-then-not-length_allowed : goal.returns-then-not-length_allowed
returns-then-not-length_allowed c =
    judged_refused _ _ _
    (heard_1 _ _ _ (sym c.length_allowed.ensures ∙ c.if-not-length_allowed.true))

pub returns-then-not-permitted : goal.returns-then-not-permitted
returns-then-not-permitted c =
    judged_refused _ _ _
    (heard_2 _ _ _ (allowed (goal.at.returns-then-not-permitted c).Else-not-length_allowed)
    (sym c.permitted.ensures ∙ c.if-not-permitted.true))

pub judge-requires : goal.judge-requires
judge-requires c =
    omega (arith, bounds c.args.h (good-head (goal.at.judge-requires c).Else-not-permitted))

pub returns-then-not-judge : goal.returns-then-not-judge
returns-then-not-judge c =
    let s = c.args in
    judged_refused _ _ _
    (heard_3 _ _ _ (allowed (goal.at.returns-then-not-judge c).Else-not-length_allowed)
    (good-head (goal.at.returns-then-not-judge c).Else-not-permitted)
    (spoilt_bad s.h s.alphabet.now s.len c.if-f-alphabet.false
    (sym c.judge.ensures.good ∙ c.if-not-judge.true)))

pub returns-then-not-fits : goal.returns-then-not-fits
returns-then-not-fits c =
    judged_refused _ _ _
    (left_4 _ _ _ (allowed (goal.at.returns-then-not-fits c).Else-not-length_allowed)
    (good-head (goal.at.returns-then-not-fits c).Else-not-permitted)
    (read (goal.at.returns-then-not-fits c).Joined-f-alphabet).plain
    ∙ heard_4 _ _ (sym c.fits.ensures ∙ c.if-not-fits.true))

pub returns : goal.returns
returns c =
    let r = read (goal.at.returns c).Joined-f-alphabet in
    judged_passed _ _ _
    (left_4 _ _ _ (allowed (goal.at.returns c).Else-not-length_allowed)
    (good-head (goal.at.returns c).Else-not-permitted) r.plain
    ∙ fits_4 _ _ (sym c.fits.ensures ∙ c.if-not-fits.false))
    r.decoded
