-- `traversal::next` meets its contract: if the key meets an empty link, or ends at a node whose
-- own key is not the answer, the first key that meets the request is the first one still to come
-- from there. Assumes nothing.
use Prim.Native.Nat.{ℕ, ◌+◌, ◌≤◌}
use mathlib.Core.Bool.{Bool}
use mathlib.Core.Path.{◌≡◌, sym, ◌∙◌, ap}
use native.Mathlib.Omega.{arith}
use borrow.Author.Rules.{rules}
use lib.ListN.{length, get_or}
use lib.Seq.{get_or-take}
use Rattle.trie.specs.Beyond.{first_of}
use Rattle.key.specs.Hand.{letters_of}
use Rattle.key.proofs.Hand.{letters_count}
use Rattle.traversal.specs.Search.{coming, PathRoom, next_stored}
use Rattle.traversal.proofs.Paths.{room_kept, along_within}
use Rattle.traversal.proofs.Searching.{told_same}
use Rattle.traversal.proofs.Requests.{stopped_key, after_key, at_key_none, at_key_own}
use Rattle.traversal.proofs.next.Goals as goal
use Rattle.traversal.proofs.next.Goals.{then-not-after+else-value-ne0, else-not-after}
use Rattle.traversal.proofs.next.Goals.{After-along-depth, Joined-not-after, Start}

-- the number of the key's letters
count : (c : Start) → length (letters_of c.args.key) ≡ c.args.key.len
count c = letters_count c.args.key (search rules) c.requires.ready.short

-- the lists are as long as before
room : (c : After-along-depth)
    → PathRoom c.args.nodes.head c.along-depth.new.letters c.along-depth.new.addresses
room c = room_kept c.requires.room c.along-depth.auto.letters c.along-depth.auto.addresses

short : (c : Start) → length (letters_of c.args.key) ≤ c.args.nodes.head.max
short c = omega (arith, count c, c.requires.short)

pub returns-then-depth-key : goal.returns-then-depth-key
returns-then-depth-key c =
    let start = (goal.at.returns-then-depth-key c).Start in
    let n = c.args.nodes in
    let key = c.args.key in
    let depth = c.along-depth.result in
    let letter : get_or (letters_of key) depth 0 ≡ c.from-from.result =
    get_or-take key.len key.letters depth 0 c.if-depth-key.true ∙ sym c.from-from.ensures in
    record {
      search_tells = told_same n.head n.image.now
          (stopped_key c.along-depth.ensures (short start) c.args.after c.requires.ready.letters
          (omega (arith, count start, c.if-depth-key.true))
          ∙ ap (λ (y : ℕ). first_of
          (coming n.head n.image.now c.along-depth.new.letters depth (y + 1))) letter)
          c.climb.ensures;
      path_room = room_kept (room (goal.at.returns-then-depth-key c).After-along-depth)
          c.climb.auto.letters c.climb.auto.addresses;
    }

pub own_value-value-requires : goal.own_value-value-requires
own_value-value-requires c =
    let n = c.args.nodes in
    along_within n.head n.image.now c.requires.within c.along-depth.ensures.along

pub returns-then-value-ne0 : goal.returns-then-value-ne0
returns-then-value-ne0 c =
    let start = (goal.at.returns-then-value-ne0 c).Start in
    let n = c.args.nodes in
    record {
      search_tells = told_same n.head n.image.now
          (ap (λ (after : Bool). next_stored n.head n.image.now after (letters_of c.args.key))
          c.if-not-after.true)
          (at_key_own c.along-depth.ensures (short start)
          (omega (arith, count start, c.if-depth-key.false))
          c.own_value-value.ensures c.if-value-ne0.true);
      path_room = room (goal.at.returns-then-value-ne0 c).After-along-depth;
    }

-- the key ends with the path, and its own node is not the answer
from-here : (c : Joined-not-after)
    → (let n = c.args.nodes in
    next_stored n.head n.image.now c.args.after (letters_of c.args.key)
    ≡ first_of (coming n.head n.image.now c.along-depth.new.letters c.along-depth.result 0))
from-here c =
    let n = c.args.nodes in
    let key = c.args.key in
    let all : length (letters_of key) ≡ key.len =
    letters_count key (search rules) c.requires.ready.short in
    let fits : length (letters_of key) ≤ n.head.max = omega (arith, all, c.requires.short) in
    let end : length (letters_of key) ≤ c.along-depth.result =
    omega (arith, all, c.if-depth-key.false) in
    elim c.if-not-after.branch [
      | then-not-after+else-value-ne0 w ↦
          ap (λ (after : Bool). next_stored n.head n.image.now after (letters_of key))
          w.if-not-after.true
          ∙ at_key_none c.along-depth.ensures fits end w.own_value-value.ensures
          w.if-value-ne0.false
      | else-not-after w ↦
          ap (λ (after : Bool). next_stored n.head n.image.now after (letters_of key))
          w.if-not-after.false
          ∙ after_key c.along-depth.ensures fits end
    ]

pub returns : goal.returns
returns c =
    record {
      search_tells = told_same c.args.nodes.head c.args.nodes.image.now
          (from-here (goal.at.returns c).Joined-not-after) c.climb-2.ensures;
      path_room = room_kept (room (goal.at.returns c).After-along-depth) c.climb-2.auto.letters
          c.climb-2.auto.addresses;
    }
