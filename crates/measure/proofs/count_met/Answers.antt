-- `measure::count_met` meets its contract: each key that is met leaves one fewer to come, and
-- this is also the measure. Assumes nothing.
use native.Mathlib.Omega.{arith}
use Rattle.head.proofs.Permitted.{bounds}
use Rattle.depths.proofs.Walkable.{walkable}
use Rattle.sound.proofs.Sounds.{sound_accepted}
use Rattle.measure.proofs.Meeting.{meeting_start, meeting_few, meeting_end}
use Rattle.measure.proofs.Meeting.{meeting_less, meeting_on}
use Rattle.measure.proofs.count_met.Goals as goal

pub loop-spot-init : goal.loop-spot-init
loop-spot-init c = meeting_start (record { deep = omega arith; along = c.start.ensures.along _ })

pub onward-requires : goal.onward-requires
onward-requires c =
    let nodes = c.args.sound.nodes in
    let w = walkable (sound_accepted c.args.sound) c.args.sound.own in
    let m = c.loop-spot.invariant.walking in
    let b = bounds nodes.head nodes.open.head_permitted in
    record {
      within = w.within;
      short = m.deep;
      room = record { letters = omega (arith, b); ends = omega (arith, b) };
      along = m.along;
    }

pub overflow_add-met : goal.overflow_add-met
overflow_add-met c =
    omega (
      arith,
      meeting_few c.loop-spot.invariant (walkable (sound_accepted c.args.sound) c.args.sound.own),
    )

pub loop-spot-smaller : goal.loop-spot-smaller
loop-spot-smaller c = meeting_less c.loop-spot.invariant c.onward.ensures.search_tells c.in-Some.is

pub loop-spot-preserved : goal.loop-spot-preserved
loop-spot-preserved c = meeting_on c.loop-spot.invariant c.onward.ensures.search_tells c.in-Some.is

pub returns : goal.returns
returns c =
    meeting_end c.loop-spot.invariant c.onward.ensures.search_tells c.args.sound.own
    c.in_default.is
