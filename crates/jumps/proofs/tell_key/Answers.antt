-- `jumps::tell_key` meets its contract: the function itself gives 14, the root's count 15, and
-- the way by counts the key. The buffer is written only if there is a key. Assumes nothing.
use native.Mathlib.Omega.{arith}
use Rattle.head.proofs.Permitted.{bounds}
use Rattle.ranking.proofs.Below.{known}
use Rattle.jumps.proofs.KeyAtReturns.{root_count, spotted_room}
use Rattle.jumps.proofs.KeyAtReturns.{spots_short, spots_past, spots_found}
use Rattle.jumps.proofs.tell_key.Goals as goal

pub returns-then-buffer-counted : goal.returns-then-buffer-counted
returns-then-buffer-counted c =
    spots_short _ _ _ c.args.counted.sound.own c.if-buffer-counted.true

pub returns-then-counted-position : goal.returns-then-counted-position
returns-then-counted-position c =
    let w = c.args.counted in
    spots_past w.sound.nodes.image.now c.args.position c.args.buffer.now w.sound.own
    c.if-buffer-counted.false
    (omega (arith, c.if-counted-position.true, root_count (known w)))

pub key_at-spot-requires-clause-position : goal.key_at-spot-requires-clause-position
key_at-spot-requires-clause-position c =
    omega (arith, c.if-counted-position.false, root_count (known c.args.counted))

pub key_at-spot-requires-clause-room : goal.key_at-spot-requires-clause-room
key_at-spot-requires-clause-room c =
    let n = c.args.counted.sound.nodes in
    omega (arith, bounds n.head n.open.head_permitted)

pub copy-requires : goal.copy-requires
copy-requires c =
    spotted_room c.key_at-spot.ensures c.args.counted.sound.own c.if-buffer-counted.false

pub returns : goal.returns
returns c =
    spots_found c.key_at-spot.ensures _ c.args.counted.sound.own c.if-buffer-counted.false
    c.copy.ensures
