-- `traversal::onward` meets its contract: the keys after the path's key are those still to come
-- from the path's end. Assumes nothing.
use native.Mathlib.Omega.{arith}
use lib.Seq.{length-take-le}
use Rattle.traversal.proofs.Paths.{room_kept}
use Rattle.traversal.proofs.Searching.{told_same}
use Rattle.traversal.proofs.Requests.{after_path}
use Rattle.traversal.proofs.onward.Goals as goal

pub returns : goal.returns
returns c =
    let n = c.args.nodes in
    let letters = c.args.letters.now in
    let r = c.requires in
    let size = length-take-le c.args.len letters (omega (arith, r.room.letters, r.short)) in
    record {
      search_tells = told_same n.head n.image.now
          (after_path n.head n.image.now letters c.args.addresses.now r.short size r.along)
          c.climb.ensures;
      path_room = room_kept r.room c.climb.auto.letters c.climb.auto.addresses;
    }
