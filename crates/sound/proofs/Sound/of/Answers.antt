-- `sound::Sound::of` meets its contract: the check passes an accepted image that is lent a working
-- number for each node. Assumes nothing.
use Rattle.paper.proofs.CheckCall.{head_open}
use Rattle.sound.proofs.Sounds.{accepted_passes}
use Rattle.sound.proofs.Sound.of.Goals as goal

pub of-nodes-requires : goal.of-nodes-requires
of-nodes-requires c = head_open c.requires.accepted c.requires.own

pub invariant_of-result : goal.invariant_of-result
invariant_of-result c =
    let same = c.of-nodes.ensures in
    record {
      passed = rw (same.bytes, same.head) (accepted_passes c.requires.accepted c.requires.own);
      own = rw (same.bytes, same.head) c.requires.own;
    }
