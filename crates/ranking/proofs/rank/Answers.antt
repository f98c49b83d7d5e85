-- `ranking::rank` meets its contract: letter by letter the keys before it are the keys passed,
-- and the keys under the node reached that come before the rest of the key. Assumes nothing.
use Prim.Native.Nat.{suc, ◌+◌, ◌≤◌, ◌<◌}
use mathlib.Core.List.{◌∷◌}
use mathlib.Core.Path.{◌≡◌}
use native.Mathlib.Omega.{arith}
use borrow.Author.Rules.{rules}
use lib.ListN.{length, drop}
use lib.Seq.{drop-cons}
use Rattle.trie.proofs.LettersBelow.{letters_at}
use Rattle.field.proofs.Range.{between_true}
use Rattle.key.specs.Hand.{letters_of}
use Rattle.key.proofs.Hand.{letters_count}
use Rattle.ranking.proofs.Below.{known}
use Rattle.ranking.proofs.Placing.{Placing, owned, owned_none, owned_one, placing_start}
use Rattle.ranking.proofs.Placing.{placing_within, placing_missing, placing_end}
use Rattle.ranking.proofs.Placing.{placing_stop, placing_deep, placing_below, placing_own}
use Rattle.ranking.proofs.Placing.{placing_room, placing_on}
use Rattle.ranking.proofs.rank.Goals as goal
use Rattle.ranking.proofs.rank.Goals.{After-from-letter, After-loop-depth, Joined-own_value-ne0}
use Rattle.ranking.proofs.rank.Goals.{Start, then-own_value-ne0, else-own_value-ne0}

-- the number of the key's letters is allowed
allowed : (c : Start)
    → (c.args.counted.sound.nodes.head.min ≤ length (letters_of c.args.key))
    × (length (letters_of c.args.key) ≤ c.args.counted.sound.nodes.head.max)
allowed c =
    let h = c.args.counted.sound.nodes.head in
    between_true (length (letters_of c.args.key)) h.min h.max c.requires.allowed

-- the letters left, and the first of them, which is below N
next : (c : After-from-letter)
    → (let depth = c.loop-depth.depth in
    let key = letters_of c.args.key in
    drop depth key ≡ c.from-letter.result ∷ drop (suc depth) key)
next c =
    rw c.from-letter.ensures
    (drop-cons (letters_of c.args.key) c.loop-depth.depth 0 c.loop-depth-test.true)

low : (c : After-from-letter) → c.from-letter.result < c.args.counted.sound.nodes.head.n
low c =
    rw c.from-letter.ensures
    (letters_at c.args.counted.sound.nodes.head.n (letters_of c.args.key) c.requires.ready.letters
    c.loop-depth.depth c.loop-depth-test.true)

pub loop-depth-init : goal.loop-depth-init
loop-depth-init c = placing_start (known c.args.counted) (letters_of c.args.key)

pub link-c-requires-clause-node : goal.link-c-requires-clause-node
link-c-requires-clause-node c = placing_within (known c.args.counted) _ c.loop-depth.invariant

pub link-c-requires-clause-letter : goal.link-c-requires-clause-letter
link-c-requires-clause-letter c = low (goal.at.link-c-requires-clause-letter c).After-from-letter

pub returns-then-c-eq0 : goal.returns-then-c-eq0
returns-then-c-eq0 c =
    let at = goal.at.returns-then-c-eq0 c in
    placing_stop (known c.args.counted) _ c.loop-depth.invariant (next at.After-from-letter)
    c.link-c.ensures c.if-c-eq0.true

pub own_value-requires : goal.own_value-requires
own_value-requires c = placing_within (known c.args.counted) _ c.loop-depth.invariant

pub overflow_add-before : goal.overflow_add-before
overflow_add-before c =
    let at = goal.at.overflow_add-before c in
    let n = c.args.counted.sound.nodes in
    let one = owned_one n.head n.image.now c.loop-depth.node c.loop-depth.depth
    c.own_value.ensures c.if-own_value-ne0.true in
    let few = placing_own (known c.args.counted) _ c.loop-depth.invariant
    (next at.After-from-letter) c.link-c.ensures
    (allowed at.Start).1 (low at.After-from-letter) in
    omega (arith, one, few)

-- the node's own key is passed
own-passed : (c : Joined-own_value-ne0)
    → (let n = c.args.counted.sound.nodes in
    c.if-own_value-ne0.before ≡ c.loop-depth.before + owned n.head n.image.now c.loop-depth.node
    c.loop-depth.depth)
own-passed c =
    let n = c.args.counted.sound.nodes in
    elim c.if-own_value-ne0.branch [
      | then-own_value-ne0 o ↦
          omega (
            arith,
            o.before-is,
            owned_one n.head n.image.now c.loop-depth.node
                c.loop-depth.depth c.own_value.ensures o.if-own_value-ne0.true,
          )
      | else-own_value-ne0 o ↦
          omega (
            arith,
            o.before-is,
            owned_none n.head n.image.now c.loop-depth.node
                c.loop-depth.depth c.own_value.ensures o.if-own_value-ne0.false,
          )
    ]

pub passed-before-requires : goal.passed-before-requires
passed-before-requires c =
    let at = goal.at.passed-before-requires c in
    let w = known c.args.counted in
    let i = c.loop-depth.invariant in
    let left = next at.After-from-letter in
    let link = c.link-c.ensures in
    let short = (allowed at.Start).1 in
    let less = low at.After-from-letter in
    record {
      node = placing_within w _ i;
      depth = placing_deep w _ i left link short less;
      letter = omega (arith, less);
      child_counts = placing_below w _ i left link short less;
      rank_fits = placing_room w _ i left link short less (own-passed at.Joined-own_value-ne0);
    }

pub loop-depth-preserved : goal.loop-depth-preserved
loop-depth-preserved c =
    let at = goal.at.loop-depth-preserved c in
    placing_on (known c.args.counted) _ c.loop-depth.invariant
    (next at.After-from-letter) c.link-c.ensures
    (allowed at.Start).1 (low at.After-from-letter)
    (own-passed at.Joined-own_value-ne0) c.if-c-eq0.false
    c.passed-before.ensures

pub own_value-requires-2 : goal.own_value-requires-2
own_value-requires-2 c = placing_within (known c.args.counted) _ c.loop-depth.invariant

-- the way has come to the key's end
arrived : (c : After-loop-depth)
    → (let n = c.args.counted.sound.nodes in
    let key = c.args.key in
    Placing n.head n.image.now (letters_of key) c.loop-depth.node key.len c.loop-depth.before)
arrived c =
    let end : c.loop-depth.depth ≡ c.args.key.len = omega (arith, c.loop-depth-test.false) in
    rw end at c.loop-depth.invariant

ended : (c : Start) → length (letters_of c.args.key) ≤ c.args.key.len
ended c = omega (arith, letters_count c.args.key (search rules) c.requires.ready.short)

pub returns-then-own_value-eq0 : goal.returns-then-own_value-eq0
returns-then-own_value-eq0 c =
    let at = goal.at.returns-then-own_value-eq0 c in
    placing_missing (known c.args.counted) _ (arrived at.After-loop-depth) (ended at.Start)
    (allowed at.Start).0 c.own_value-2.ensures c.if-own_value-eq0.true

pub returns : goal.returns
returns c =
    let at = goal.at.returns c in
    placing_end (known c.args.counted) _ (arrived at.After-loop-depth) (ended at.Start)
    (allowed at.Start).0 c.own_value-2.ensures c.if-own_value-eq0.false
