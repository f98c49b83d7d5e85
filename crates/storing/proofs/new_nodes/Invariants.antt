use Prim.Native.Nat.{◌-◌, ◌≤◌}
use lib.ListN.{drop}
use Rattle.key.specs.Hand.{letters_of}
use Rattle.storing.proofs.Building.{Laying}
use Rattle.storing.proofs.new_nodes.Given as goal

abbrev pub invariant-loop-depth : goal.invariant-loop-depth
invariant-loop-depth l =
    let a = l.fn in
    (a.from ≤ l.depth)
    × Laying a.asked.head (drop a.from (letters_of a.asked.key)) a.value l.initial.image l.image
    (l.depth - a.from) l.node
