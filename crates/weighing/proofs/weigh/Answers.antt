-- `weighing::weigh` meets its contract: the first G+1 numbers are cleared, then the counts are
-- added up. Assumes nothing.
use mathlib.Core.Path.{◌∙◌}
use Rattle.sound.proofs.Sounds.{sound_accepted}
use Rattle.weighing.proofs.Working.{cleared_room, cleared_start, cleared_worked}
use Rattle.weighing.proofs.weigh.Goals as goal

pub add_up-requires : goal.add_up-requires
add_up-requires c =
    let list = c.args.list.now in
    let clear = rw c.count.ensures at c.clear.ensures in
    record {
      room = cleared_room (sound_accepted c.args.sound) c.args.sound.own list clear c.requires;
      zeros = cleared_start (sound_accepted c.args.sound) c.args.sound.own list clear c.requires;
    }

pub returns : goal.returns
returns c =
    let clear = rw c.count.ensures at c.clear.ensures in
    c.add_up.ensures
    ∙ cleared_worked (sound_accepted c.args.sound) c.args.sound.own c.args.list.now clear
    c.requires
