use lib.ListN.{length, take}
use Rattle.std.specs.Prelude.{OnOk}
use Rattle.std.specs.Io.KnownBytes.{Appends}
use Rattle.traversal.proofs.Walking.{keys_after}
use Rattle.list.specs.Output.{output_of}
use Rattle.list.proofs.Telling.{Telling}
use Rattle.list.proofs.list.Given as goal

abbrev pub invariant-loop-spot : goal.invariant-loop-spot
invariant-loop-spot g l =
    record {
      telling :
          Telling l.sound.nodes.head l.sound.nodes.image.now l.out l.path l.addresses l.done l.end
          l.len;
      written : OnOk l.sent
          (Appends (g.W.Write.contents l.initial.to) (g.W.Write.contents l.to)
          (take l.done (output_of l.sound.nodes.image.now)));
    }

abbrev pub decreases-loop-spot : goal.decreases-loop-spot
decreases-loop-spot g l =
    length (keys_after l.sound.nodes.head l.sound.nodes.image.now (take l.len l.path))
