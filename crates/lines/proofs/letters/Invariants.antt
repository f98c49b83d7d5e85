use lib.ListN.{take}
use Rattle.lines.specs.Lines.{TextAt, dotted}
use Rattle.lines.proofs.letters.Given as goal

abbrev pub invariant-loop-x : goal.invariant-loop-x
invariant-loop-x l =
    TextAt l.initial.out l.initial.end (dotted (take l.x-index l.x-items)) l.end l.out
