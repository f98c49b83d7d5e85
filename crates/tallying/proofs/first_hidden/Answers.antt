-- `tallying::first_hidden` meets its contract: a search upwards from the root, over the front of
-- the working numbers. Assumes nothing.
use mathlib.Core.Path.{◌≡◌, sym, ◌∙◌}
use mathlib.Core.List.{List}
use Prim.Native.Nat.{ℕ, ◌%◌, ◌<◌}
use native.Mathlib.Omega.{arith}
use lib.ListN.{get_or, take}
use Rattle.std.proofs.lemmas.List.{get_or-take, length-take-le}
use Rattle.reaching.specs.Reaching.{mark_in, marks}
use Rattle.tallying.proofs.LowestFound.{seeking_more, seeking_found, seeking_all}
use Rattle.tallying.proofs.first_hidden.Goals as goal

-- the mark is read from that front
front : (work : List ℕ) (count x : ℕ) → x < count
    → mark_in work x ≡ get_or (take count work) x 0 % marks
front work count x h = rw (get_or-take count work x 0 h)

pub returns-then-hides : goal.returns-then-hides
returns-then-hides c =
    let size = length-take-le c.count.result c.args.work.now (omega arith) in
    seeking_found c.loop-x.invariant (omega arith)
    (rw (front c.args.work.now c.count.result c.loop-x.x (omega arith))
    (sym c.hides.ensures ∙ c.if-hides.true))

pub loop-x-preserved : goal.loop-x-preserved
loop-x-preserved c =
    let size = length-take-le c.count.result c.args.work.now (omega arith) in
    seeking_more c.loop-x.invariant (omega arith)
    (rw (front c.args.work.now c.count.result c.loop-x.x (omega arith))
    (sym c.hides.ensures ∙ c.if-hides.false))

pub returns : goal.returns
returns c =
    let size = length-take-le c.count.result c.args.work.now (omega arith) in
    seeking_all c.loop-x.invariant (omega arith)
