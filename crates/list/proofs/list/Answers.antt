-- `list::list` meets its contract. After what was handed over come the lines in the buffer, then
-- those of the keys after the path's key (`Telling`). The measure is how many these keys are; the
-- loop ends where the search finds none. A line begins where the longest line fits. While no write
-- failed, the writer has got what was handed over (`Sent`). Assumes nothing.
use mathlib.Core.Path.{sym, ◌∙◌}
use mathlib.Core.Bool.{true}
use mathlib.Core.List.{List}
use Prim.Native.Nat.{ℕ, ◌≤◌}
use native.Mathlib.Omega.{arith}
use borrow.Author.Rules.{rules}
use lib.ListN.{length, take, length-take}
use lib.Seq.{length-take-le}
use Rattle.std.specs.Prelude.{OnOk}
use Rattle.std.specs.Io.KnownBytes.{Appends}
use Rattle.head.proofs.Permitted.{bounds}
use Rattle.lines.proofs.TextsAt.{laid_long}
use Rattle.lines.proofs.LineTexts.{entries_long}
use Rattle.depths.proofs.Walkable.{walkable}
use Rattle.sound.proofs.Sounds.{sound_accepted}
use Rattle.traversal.specs.Search.{next_stored}
use Rattle.traversal.proofs.Walking.{met, keys_after}
use Rattle.list.specs.Output.{output_of}
use Rattle.list.proofs.Pieces.{Waiting, waiting_part, waiting_handed}
use Rattle.list.proofs.Pieces.{waiting_same}
use Rattle.list.proofs.Telling.{lined, telling_start, telling_end, telling_less}
use Rattle.list.proofs.Telling.{telling_on}
use Rattle.list.proofs.Sent.{held_none, sent_more, sent_all}
use Rattle.list.proofs.list.Given.{Over}
use Rattle.list.proofs.list.Goals as goal
use Rattle.list.proofs.list.Goals.{In-Some, Joined-end-gt-LAST, then-end-gt-LAST, else-end-gt-LAST}

-- the key found is no longer than max
deep : (g : Over) (c : In-Some g) → c.in-Some.spot.length ≤ c.args.sound.nodes.head.max
deep g c =
    let n = c.args.sound.nodes in
    let s = next_stored n.head n.image.now true (take c.loop-spot.len c.loop-spot.path) in
    (met {s = s} c.onward.ensures.search_tells c.in-Some.is).deep

inside : (g : Over) (c : In-Some g) → c.in-Some.spot.length ≤ length c.onward.new.letters
inside g c = omega (arith, deep g c, c.onward.ensures.path_room.letters)

short : (g : Over) (c : In-Some g)
    → length (take c.in-Some.spot.length c.onward.new.letters) ≤ 64
short g c =
    let n = c.args.sound.nodes in
    omega (
      arith,
      length-take c.in-Some.spot.length c.onward.new.letters,
      deep g c,
      bounds n.head n.open.head_permitted,
    )

-- where the ways meet, what waits is as before, and the longest line fits
record Roomy (text : List ℕ) (done : ℕ) (out : List ℕ) (end : ℕ) (rest : List ℕ) : Type 0 where
  waiting : Waiting text done out end rest
  fits : end ≤ 65248

roomy : (g : Over) (c : Joined-end-gt-LAST g)
    → Roomy (output_of c.args.sound.nodes.image.now) c.if-end-gt-LAST.done c.loop-spot.out
    c.if-end-gt-LAST.end
    (lined c.args.sound.nodes.head c.args.sound.nodes.image.now
    (keys_after c.args.sound.nodes.head c.args.sound.nodes.image.now
    (take c.loop-spot.len c.loop-spot.path)))
roomy g c =
    let w = c.loop-spot.invariant.telling.waiting in
    elim c.if-end-gt-LAST.branch [
      | then-end-gt-LAST b ↦ record {
        waiting =
            waiting_same b.end-is b.done-is (waiting_handed w b.hand_over-sent.ensures.done_value);
        fits = omega (arith, b.end-is);
      }
      | else-end-gt-LAST b ↦ record {
        waiting = waiting_same b.end-is b.done-is w;
        fits = omega (arith, b.if-end-gt-LAST.false, b.end-is);
      }
    ]

-- there, while no write failed, the writer has got what was handed over
got : (g : Over) (c : Joined-end-gt-LAST g)
    → OnOk c.if-end-gt-LAST.sent
    (Appends (g.W.Write.contents c.args.to.now) (g.W.Write.contents c.if-end-gt-LAST.to)
    (take c.if-end-gt-LAST.done (output_of c.args.sound.nodes.image.now)))
got g c =
    let text = output_of c.args.sound.nodes.image.now in
    elim c.if-end-gt-LAST.branch [
      | then-end-gt-LAST b ↦
          rw (b.sent-is, b.to-is, b.done-is)
          (sent_more text c.loop-spot.sent b.hand_over-sent.result
          (g.W.Write.contents c.args.to.now) (g.W.Write.contents c.loop-spot.to)
          (g.W.Write.contents b.hand_over-sent.new.to)
          c.loop-spot.invariant.written
          (waiting_part c.loop-spot.invariant.telling.waiting)
          b.hand_over-sent.ensures.done_value b.hand_over-sent.ensures.written)
      | else-end-gt-LAST b ↦ rw (b.sent-is, b.to-is, b.done-is) c.loop-spot.invariant.written
    ]

pub root_line-end-requires : goal.root_line-end-requires
root_line-end-requires g c =
    omega (
      arith,
      c.entries-head.ensures.ends,
      entries_long c.count.result,
      laid_long c.entries-head.ensures,
    )

pub loop-spot-init : goal.loop-spot-init
loop-spot-init g c =
    let short-title = entries_long c.count.result in
    record {
      telling =
          telling_start c.args.sound.own c.requires.input_value c.count.ensures
          c.start-root.ensures.value (search rules) c.entries-head.ensures
          c.root_line-end.ensures.text_at
          (omega (arith, c.entries-head.ensures.ends))
          (omega (arith, c.entries-head.ensures.ends, c.root_line-end.ensures.upper_bound))
          (record { deep = omega arith; along = c.start-root.ensures.along _ })
          c.requires.done_value;
      written =
          held_none (g.W.Write.contents c.args.to.now) (output_of c.args.sound.nodes.image.now)
          c.requires.done_value;
    }

pub onward-requires-clause-within : goal.onward-requires-clause-within
onward-requires-clause-within g c =
    (walkable (sound_accepted c.args.sound) c.args.sound.own).within

pub onward-requires-clause-room : goal.onward-requires-clause-room
onward-requires-clause-room g c =
    let n = c.args.sound.nodes in
    let b = bounds n.head n.open.head_permitted in
    record { letters = omega (arith, b); ends = omega (arith, b) }

pub hand_over-sent-requires : goal.hand_over-sent-requires
hand_over-sent-requires g c = waiting_part c.loop-spot.invariant.telling.waiting

pub slice_bounds-path-end : goal.slice_bounds-path-end
slice_bounds-path-end g c = inside g (goal.at.slice_bounds-path-end g c).In-Some

pub slice_bounds-entry-end-in-Some : goal.slice_bounds-entry-end-in-Some
slice_bounds-entry-end-in-Some g c =
    sym (length-take-le c.in-Some.spot.length c.onward.new.letters
    (inside g (goal.at.slice_bounds-entry-end-in-Some g c).In-Some))

pub entry-end-requires : goal.entry-end-requires
entry-end-requires g c =
    let at = goal.at.entry-end-requires g c in
    omega (
      arith,
      short g at.In-Some,
      (roomy g at.Joined-end-gt-LAST).fits,
      c.loop-spot.invariant.telling.long,
    )

pub loop-spot-smaller : goal.loop-spot-smaller
loop-spot-smaller g c =
    telling_less (take c.loop-spot.len c.loop-spot.path)
    c.loop-spot.invariant.telling.waiting c.onward.ensures.search_tells c.in-Some.is

pub loop-spot-preserved : goal.loop-spot-preserved
loop-spot-preserved g c =
    let at = goal.at.loop-spot-preserved g c in
    let r = roomy g at.Joined-end-gt-LAST in
    record {
      telling =
          telling_on (take c.loop-spot.len c.loop-spot.path) r.waiting
          c.onward.ensures.search_tells c.in-Some.is c.loop-spot.invariant.telling.long
          c.entry-end.ensures.text_at
          (omega (arith, short g at.In-Some, r.fits, c.entry-end.ensures.upper_bound));
      written = got g at.Joined-end-gt-LAST;
    }

pub hand_over-requires : goal.hand_over-requires
hand_over-requires g c = waiting_part c.loop-spot.invariant.telling.waiting

pub returns : goal.returns
returns g c =
    let waiting = c.loop-spot.invariant.telling.waiting in
    let all =
    c.hand_over.ensures.done_value
    ∙ telling_end (take c.loop-spot.len c.loop-spot.path) waiting
    c.onward.ensures.search_tells c.in_default.is in
    record {
      done_value = all;
      written =
          sent_all (output_of c.args.sound.nodes.image.now) c.hand_over.result
          (g.W.Write.contents c.args.to.now) (g.W.Write.contents c.hand_over.new.to)
          (sent_more (output_of c.args.sound.nodes.image.now) c.loop-spot.sent c.hand_over.result
          (g.W.Write.contents c.args.to.now) (g.W.Write.contents c.loop-spot.to)
          (g.W.Write.contents c.hand_over.new.to) c.loop-spot.invariant.written
          (waiting_part waiting) c.hand_over.ensures.done_value c.hand_over.ensures.written)
          all;
    }
