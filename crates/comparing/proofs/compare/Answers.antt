-- `comparing::compare` meets its contract: the check, lent a part of the working numbers, gives
-- the check's rows, and the fresh counts give 25. Assumes nothing.
use Prim.Native.Nat.{◌+◌, ◌≤◌}
use mathlib.Core.Path.{◌≡◌, sym, ◌∙◌, ap}
use native.Mathlib.Omega.{arith}
use lib.ListN.{length, take}
use Rattle.std.proofs.lemmas.List.{length-take-le}
use Rattle.std.proofs.lemmas.Result.{err_from_is_err_and}
use Rattle.head.specs.declared.Head.{Head}
use Rattle.position.specs.Calls.{worked}
use Rattle.comparing.proofs.CompareReturns.{compared_refused, compared_accepted}
use Rattle.comparing.proofs.CompareReturns.{compared_head, long_counts, long_work}
use Rattle.comparing.proofs.CompareReturns.{zeros_work, fresh_long, compared_25, compared_none}
use Rattle.comparing.proofs.compare.Goals as goal
use Rattle.comparing.proofs.compare.Goals.{After-add_up}

pub returns-in_err-h : goal.returns-in_err-h
returns-in_err-h c =
    let a = c.args in
    let p = err_from_is_err_and c.from_residual.result c.from_residual.ensures.1 in
    rw (p.1, p.2)
    (compared_refused a.image.now a.work.now a.counts.now c.check_both.ensures c.in_err-h.was)

pub of-sound-requires : goal.of-sound-requires
of-sound-requires c =
    let a = c.args in
    let o = c.check_both.ensures in
    let e = c.in_ok-h.was in
    record {
      accepted = compared_accepted a.image.now a.work.now a.counts.now o e;
      own = compared_head a.image.now a.work.now a.counts.now o e;
    }

pub add_up-requires : goal.add_up-requires
add_up-requires c =
    let a = c.args in
    let o = c.check_both.ensures in
    let e = c.in_ok-h.was in
    let same = c.of-sound.ensures in
    record {
      room = rw same.head (long_work a.image.now a.work.now a.counts.now o e);
      zeros = rw same.head (zeros_work a.image.now a.work.now a.counts.now o e);
    }

-- the fresh counts are worked out for the image checked
weighed : (c : After-add_up)
    → c.add_up.new.list ≡ worked c.args.image.now c.check_both.new.work
weighed c = rw c.of-sound.ensures.bytes at c.add_up.ensures

-- both lists have a number for each node
size : (c : After-add_up) → c.count-count.result ≡ c.in_ok-h.h.g + 1
size c = c.count-count.ensures ∙ ap (λ (h : Head). h.g + 1) c.of-sound.ensures.head

fresh_room : (c : After-add_up) → c.count-count.result ≤ length c.add_up.new.list
fresh_room c =
    let a = c.args in
    omega (
      arith,
      size c,
      fresh_long a.image.now a.work.now a.counts.now c.check_both.ensures c.in_ok-h.was
          (weighed c),
    )

fresh_size : (c : After-add_up)
    → length (take c.count-count.result c.add_up.new.list) ≡ c.count-count.result
fresh_size c = length-take-le c.count-count.result c.add_up.new.list (fresh_room c)

counts_size : (c : After-add_up)
    → length (take c.count-count.result c.args.counts.now) ≡ c.count-count.result
counts_size c =
    let a = c.args in
    length-take-le c.count-count.result a.counts.now
    (omega (
      arith,
      size c,
      long_counts a.image.now a.work.now a.counts.now c.check_both.ensures c.in_ok-h.was,
    ))

pub slice_bounds-first_different-end : goal.slice_bounds-first_different-end
slice_bounds-first_different-end c =
    fresh_room (goal.at.slice_bounds-first_different-end c).After-add_up

pub slice_bounds-first_different-end-2 : goal.slice_bounds-first_different-end-2
slice_bounds-first_different-end-2 c =
    sym (fresh_size (goal.at.slice_bounds-first_different-end-2 c).After-add_up)

pub slice_bounds-first_different-end-3 : goal.slice_bounds-first_different-end-3
slice_bounds-first_different-end-3 c =
    sym (counts_size (goal.at.slice_bounds-first_different-end-3 c).After-add_up)

pub first_different-differs-requires : goal.first_different-differs-requires
first_different-differs-requires c =
    let j = (goal.at.first_different-differs-requires c).After-add_up in
    fresh_size j ∙ sym (counts_size j)

pub clear-requires : goal.clear-requires
clear-requires c = fresh_room (goal.at.clear-requires c).After-add_up

pub returns-in-Some : goal.returns-in-Some
returns-in-Some c =
    let a = c.args in
    let j = (goal.at.returns-in-Some c).After-add_up in
    compared_25 a.image.now a.work.now a.counts.now c.check_both.ensures c.in_ok-h.was (weighed j)
    (size j) c.first_different-differs.ensures c.clear.ensures c.in-Some.is

pub returns-in-None : goal.returns-in-None
returns-in-None c =
    let a = c.args in
    let j = (goal.at.returns-in-None c).After-add_up in
    compared_none a.image.now a.work.now a.counts.now c.check_both.ensures c.in_ok-h.was
    (weighed j)
    (size j) c.first_different-differs.ensures c.clear.ensures c.in-None.is
