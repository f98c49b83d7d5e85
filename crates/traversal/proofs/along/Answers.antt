-- `traversal::along` meets its contract: letter by letter the path is the beginning of the key,
-- down to the key's end or to an empty link. Assumes nothing.
use Prim.Native.Nat.{◌<◌}
use mathlib.Core.Path.{◌≡◌, refl, sym, ◌∙◌, ap}
use native.Mathlib.Omega.{arith}
use borrow.Author.Rules.{rules}
use Rattle.std.specs.Option.{option_flatten}
use lib.ListN.{length, length-set}
use Rattle.trie.proofs.LettersBelow.{letters_at}
use Rattle.key.specs.Hand.{letters_of}
use Rattle.key.proofs.Hand.{letters_count}
use Rattle.traversal.proofs.Paths.{along_within}
use Rattle.traversal.proofs.Following.{led, following_start, following_stop, following_on}
use Rattle.traversal.proofs.along.Goals as goal
use Rattle.traversal.proofs.along.Goals.{After-flatten, In-loop-depth, Start}

-- the number of the key's letters
count : (c : Start) → length (letters_of c.args.key) ≡ c.args.key.len
count c = letters_count c.args.key (search rules) c.requires.ready.short

-- the loop goes over these letters
low : (c : In-loop-depth) → c.loop-depth.depth < length (letters_of c.args.key)
low c = c.loop-depth-test.true

-- where it led
step : (c : After-flatten) → c.flatten.result ≡ led c.step.result
step c = c.flatten.ensures ∙ ap option_flatten c.ok.ensures.value

pub loop-depth-init : goal.loop-depth-init
loop-depth-init c =
    let n = c.args.nodes in
    following_start n.head n.image.now (letters_of c.args.key) c.args.letters.now
    c.args.addresses.now (omega (arith, c.requires.room.ends))

pub step-requires-clause-node : goal.step-requires-clause-node
step-requires-clause-node c =
    let n = c.args.nodes in
    let f = c.loop-depth.invariant in
    rw f.node (along_within n.head n.image.now c.requires.within f.along)

pub step-requires-clause-letter : goal.step-requires-clause-letter
step-requires-clause-letter c =
    letters_at c.args.nodes.head.n (letters_of c.args.key) c.requires.ready.letters
    c.loop-depth.depth (low (goal.at.step-requires-clause-letter c).In-loop-depth)

pub returns-in_default : goal.returns-in_default
returns-in_default c =
    following_stop c.loop-depth.invariant refl c.step.ensures c.requires.within
    (sym (step (goal.at.returns-in_default c).After-flatten) ∙ c.in_default.is)

pub loop-depth-preserved : goal.loop-depth-preserved
loop-depth-preserved c =
    let at = goal.at.loop-depth-preserved c in
    let room = c.requires.room in
    let in_key = low at.In-loop-depth in
    let in_max : c.loop-depth.depth < c.args.nodes.head.max =
    omega (arith, count at.Start, in_key, c.requires.short) in
    following_on c.loop-depth.invariant refl c.step.ensures in_key c.requires.ready.letters
    (omega (arith, room.letters, c.loop-depth.auto.letters, in_max))
    (omega (
      arith,
      room.ends,
      c.loop-depth.auto.addresses,
      length-set c.args.addresses.now 0 0,
      in_max,
    ))
    (sym (step at.After-flatten) ∙ c.in-Some.is)
