use lib.ListN.{take}
use Rattle.measure.proofs.Meeting.{to_come, Meeting}
use Rattle.measure.proofs.count_met.Given as goal

abbrev pub invariant-loop-spot : goal.invariant-loop-spot
invariant-loop-spot l =
    Meeting l.sound.nodes.head l.sound.nodes.image.now l.path l.addresses l.len l.met

abbrev pub decreases-loop-spot : goal.decreases-loop-spot
decreases-loop-spot l = to_come l.sound.nodes.head l.sound.nodes.image.now (take l.len l.path)
