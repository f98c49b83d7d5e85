-- `images::make` meets its contract: 1 is judged first, then 2 for an alphabet that is longer
-- than any permitted F, since its length may not fit 32 bits. `opening::judge` judges the rest
-- of 1 to 4. Assumes nothing.
use mathlib.Core.Path.{◌≡◌, refl, sym, ◌∙◌}
use mathlib.Core.Option.{none}
use Rattle.std.proofs.lemmas.Result.{err_from_is_err_and}
use Rattle.paper.proofs.Hearing.{told_refused, told_passed}
use Rattle.paper.proofs.Opening.{heard_1, passed}
use Rattle.images.proofs.MakeReturns.{heard_of, makes_refused, makes_done, too_many}
use Rattle.images.proofs.make.Goals as goal
use Rattle.images.proofs.make.Goals.{In_ok-judge}

pub returns-then-not-length_allowed : goal.returns-then-not-length_allowed
returns-then-not-length_allowed c =
    makes_refused _ _ _ _ _ _ _ _
    (heard_1 _ _ _ (sym c.length_allowed.ensures ∙ c.if-not-length_allowed.true))

pub returns-then-f : goal.returns-then-f
returns-then-f c =
    let s = c.args in
    makes_refused _ _ _ _ _ _ _ _
    (too_many s.image.now s.n s.a s.d s.alphabet.now s.min s.max
    (sym c.length_allowed.ensures ∙ c.if-not-length_allowed.false) c.if-f.true)

pub returns-in_err-judge : goal.returns-in_err-judge
returns-in_err-judge c =
    let f = c.from_residual in
    let e = err_from_is_err_and f.result f.ensures.1 in
    rw (e.1, e.2)
    (makes_refused _ _ _ _ _ _ _ _ (told_refused c.in_err-judge.ensures.verdict refl))

-- where nothing is refused
unheard : (c : In_ok-judge) → let s = c.args in
    heard_of s.image.now s.n s.a s.d s.alphabet.now s.min s.max ≡ none
unheard c = told_passed c.in_ok-judge.ensures.verdict refl

pub fresh-requires-clause-h_value : goal.fresh-requires-clause-h_value
fresh-requires-clause-h_value c =
    (passed _ _ _ (unheard (goal.at.fresh-requires-clause-h_value c).In_ok-judge)).head_permitted

pub fresh-requires-clause-h_in_bounds : goal.fresh-requires-clause-h_in_bounds
fresh-requires-clause-h_in_bounds c =
    (passed _ _ _ (unheard (goal.at.fresh-requires-clause-h_in_bounds c).In_ok-judge)).room

pub returns : goal.returns
returns c =
    makes_done _ _ _ _ _ _ _ (unheard (goal.at.returns c).In_ok-judge) c.fresh.ensures
