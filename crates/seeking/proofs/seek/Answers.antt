-- `seeking::seek` meets its contract: the key in hand gives 9 and 10, the function itself 14,
-- and the search 15 or the key. The buffer is written only if a key was found. Assumes nothing.
use Prim.Native.Nat.{◌≤◌}
use mathlib.Core.Path.{refl, sym}
use lib.ListN.{length}
use lib.Seq.{length-take-le}
use native.Mathlib.Omega.{arith}
use Rattle.std.proofs.lemmas.Result.{err_from_is_err_and}
use Rattle.head.proofs.Permitted.{bounds}
use Rattle.sound.proofs.Sounds.{sound_accepted}
use Rattle.traversal.proofs.Walking.{met}
use Rattle.seeking.proofs.Seeking.{AfterCheck, after_check, found_room}
use Rattle.seeking.proofs.Seeking.{seek_unkeyed, seek_short, seek_missing, seek_found}
use Rattle.seeking.proofs.seek.Goals as goal
use Rattle.seeking.proofs.seek.Goals.{In_ok-judge_next, In-Some}

pub returns-in_err-judge_next : goal.returns-in_err-judge_next
returns-in_err-judge_next c =
    let f = c.from_residual in
    let e = err_from_is_err_and f.result f.ensures.1 in
    rw (e.1, e.2)
    (seek_unkeyed (sound_accepted c.args.sound) c.args.sound.own _ _ c.of-key.ensures
    c.in_err-judge_next.ensures _ _ refl)

-- once 9 and 10 have passed
known : (c : In_ok-judge_next)
    → (let n = c.args.sound.nodes in
    AfterCheck n.image.now n.head c.args.letters.now c.of-key.result)
known c =
    after_check (sound_accepted c.args.sound) c.args.sound.own _ _ c.of-key.ensures
    c.in_ok-judge_next.ensures refl

pub returns-then-buffer-nodes : goal.returns-then-buffer-nodes
returns-then-buffer-nodes c =
    seek_short (known (goal.at.returns-then-buffer-nodes c).In_ok-judge_next) _ _
    c.if-buffer-nodes.true

pub next-requires : goal.next-requires
next-requires c =
    let k = known (goal.at.next-requires c).In_ok-judge_next in
    let b = bounds c.args.sound.nodes.head c.args.sound.nodes.open.head_permitted in
    record {
      within = k.walk.within;
      ready = k.ready;
      short = k.short;
      room = record { letters = omega (arith, b); ends = omega (arith, b) };
    }

-- the key found is no longer than the path
fits : (c : In-Some) → c.in-Some.spot.length ≤ length c.next.new.letters
fits c =
    let told = c.next.ensures in
    omega (arith, (met told.search_tells c.in-Some.is).deep, told.path_room.letters)

pub slice_bounds-path-end : goal.slice_bounds-path-end
slice_bounds-path-end c = fits (goal.at.slice_bounds-path-end c).In-Some

pub slice_bounds-copy-end : goal.slice_bounds-copy-end
slice_bounds-copy-end c =
    sym (length-take-le c.in-Some.spot.length c.next.new.letters
    (fits (goal.at.slice_bounds-copy-end c).In-Some))

pub copy-requires : goal.copy-requires
copy-requires c = found_room c.next.ensures.search_tells c.in-Some.is c.if-buffer-nodes.false

pub overflow_cast-result : goal.overflow_cast-result
overflow_cast-result c =
    omega (
      arith,
      (met c.next.ensures.search_tells c.in-Some.is).deep,
      bounds c.args.sound.nodes.head c.args.sound.nodes.open.head_permitted,
    )

pub returns-in_default : goal.returns-in_default
returns-in_default c =
    seek_missing (known (goal.at.returns-in_default c).In_ok-judge_next) _ _
    c.if-buffer-nodes.false c.next.ensures.search_tells c.in_default.is

pub returns : goal.returns
returns c =
    seek_found (known (goal.at.returns c).In_ok-judge_next) _ _ c.if-buffer-nodes.false
    c.next.ensures.search_tells c.in-Some.is c.copy.ensures
