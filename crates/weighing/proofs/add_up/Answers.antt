-- `weighing::add_up` meets its contract: what the walk from the root adds for a node is the
-- node's count. Assumes nothing.
use mathlib.Core.Path.{◌≡◌, ◌∙◌}
use native.Mathlib.Omega.{arith}
use Rattle.node.specs.Read.{node_table}
use Rattle.sound.proofs.Sounds.{sound_accepted}
use Rattle.weighing.proofs.KeysLeft.{owned, owned_by}
use Rattle.weighing.proofs.Working.{fits_start, leaf_worked, weighed_worked}
use Rattle.weighing.proofs.add_up.Goals as goal
use Rattle.weighing.proofs.add_up.Goals.{After-from-own}

-- the root's own key
own_counted : (c : After-from-own)
    → c.from-own.result ≡ owned c.args.sound.nodes.head (node_table c.args.sound.nodes) 0 0
own_counted c =
    let nodes = c.args.sound.nodes in
    c.from-own.ensures ∙ owned_by nodes.head (node_table nodes) 0 0 c.own_value.ensures

pub returns-then-no_keys_below : goal.returns-then-no_keys_below
returns-then-no_keys_below c =
    let r = c.requires in
    leaf_worked (sound_accepted c.args.sound) c.args.sound.own c.args.list.now r.zeros r.room
    (own_counted (goal.at.returns-then-no_keys_below c).After-from-own)
    c.no_keys_below.ensures c.if-no_keys_below.true

pub weighed-requires : goal.weighed-requires
weighed-requires c =
    let r = c.requires in
    let j = (goal.at.weighed-requires c).After-from-own in
    record {
      inside = omega arith;
      deep = c.no_keys_below.ensures.deep c.if-no_keys_below.false;
      room = r.room;
      own = own_counted j;
      fits = fits_start (sound_accepted c.args.sound) c.args.sound.own c.args.list.now r.zeros
          (λ q. omega (arith, j.type_inv.list q));
    }

pub returns : goal.returns
returns c =
    let r = c.requires in
    weighed_worked (sound_accepted c.args.sound) c.args.sound.own c.args.list.now r.zeros r.room
    c.weighed.ensures.weighed
