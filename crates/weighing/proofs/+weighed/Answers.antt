-- `weighing::weighed`, which calls itself, meets its contract. From letter to letter each count
-- and the sum have what the links so far add. At each call of itself the depth left to max falls.
-- Assumes nothing.
use Prim.Native.Nat.{ℕ, ◌+◌, ◌≤◌, ◌<◌}
use lib.ListN.{length}
use mathlib.Core.Path.{◌≡◌, ◌∙◌}
use native.Mathlib.Omega.{arith}
use Rattle.node.specs.Read.{node_table}
use Rattle.sound.proofs.Sounds.{sound_link}
use Rattle.weighing.proofs.KeysLeft.{owned, owned_by}
use Rattle.weighing.proofs.Weighing.{weighing_start, weighing_empty, weighing_sum}
use Rattle.weighing.proofs.Weighing.{weighing_end, fits_end}
use Rattle.weighing.proofs.Weighing.{Onto, weighing_leaf, weighing_child, fits_one}
use Rattle.weighing.proofs.Weighing.{fits_sum_one, fits_child, fits_sum}
use Rattle.weighing.proofs.+weighed.Goals as goal
use Rattle.weighing.proofs.+weighed.Goals.{After-from-one}

pub loop-i-init : goal.loop-i-init
loop-i-init t c =
    let a = c.args in
    weighing_start a.sound.nodes.head a.sound.nodes.image.now a.node a.depth a.list.now
    c.requires.own

pub loop-i-preserved-then-c-eq0 : goal.loop-i-preserved-then-c-eq0
loop-i-preserved-then-c-eq0 t c =
    weighing_empty c.loop-i.invariant c.loop-i-test.true c.link-c.ensures c.if-c-eq0.true

pub own_value-requires : goal.own_value-requires
own_value-requires t c = sound_link c.args.sound c.args.node c.loop-i.i c.link-c.ensures

pub no_keys_below-requires : goal.no_keys_below-requires
no_keys_below-requires t c = sound_link c.args.sound c.args.node c.loop-i.i c.link-c.ensures

-- the child's own key
own_counted : (t : ℕ) (c : After-from-one t)
    → (let n = c.args.sound.nodes in
    c.from-one.result ≡ owned n.head (node_table n) c.link-c.result (c.args.depth + 1))
own_counted t c =
    let n = c.args.sound.nodes in
    c.from-one.ensures
    ∙ owned_by n.head (node_table n) c.link-c.result (c.args.depth + 1) c.own_value.ensures

-- the child's address is at most G
inside : (t : ℕ) (c : After-from-one t) → c.link-c.result ≤ c.args.sound.nodes.head.g
inside t c = sound_link c.args.sound c.args.node c.loop-i.i c.link-c.ensures

-- the child's count is in the list
listed : (t : ℕ) (c : After-from-one t) → c.link-c.result < length c.loop-i.list
listed t c = omega (arith, inside t c, c.requires.room, c.loop-i.invariant.long)

-- the link is not empty
onto : (t : ℕ) (c : After-from-one t)
    → (let a = c.args in
    Onto a.sound.nodes.head a.sound.nodes.image.now a.node a.depth a.list.now c.loop-i.list
    c.loop-i.sum c.loop-i.i c.link-c.result)
onto t c =
    record {
      so_far = c.loop-i.invariant;
      fits = c.requires.fits;
      deep = c.requires.deep;
      low = c.loop-i-test.true;
      link = c.link-c.ensures;
      full = c.if-c-eq0.false;
      room = listed t c;
    }

pub bounds-list-c : goal.bounds-list-c
bounds-list-c t c = listed t (goal.at.bounds-list-c t c).After-from-one

pub bounds-list-c-then-no_keys_below : goal.bounds-list-c-then-no_keys_below
bounds-list-c-then-no_keys_below t c =
    listed t (goal.at.bounds-list-c-then-no_keys_below t c).After-from-one

pub overflow_add-list : goal.overflow_add-list
overflow_add-list t c =
    let j = (goal.at.overflow_add-list t c).After-from-one in
    omega (arith, fits_one (onto t j) (own_counted t j))

pub overflow_add-sum : goal.overflow_add-sum
overflow_add-sum t c =
    let j = (goal.at.overflow_add-sum t c).After-from-one in
    omega (arith, fits_sum_one (onto t j) (own_counted t j))

pub loop-i-preserved-then-no_keys_below : goal.loop-i-preserved-then-no_keys_below
loop-i-preserved-then-no_keys_below t c =
    let j = (goal.at.loop-i-preserved-then-no_keys_below t c).After-from-one in
    weighing_leaf (onto t j) (own_counted t j) c.no_keys_below.ensures c.if-no_keys_below.true

pub weighed-sum-requires : goal.weighed-sum-requires
weighed-sum-requires t c =
    let j = (goal.at.weighed-sum-requires t c).After-from-one in
    let o = onto t j in (
      omega (arith, c.decreases, o.deep),
      (
        inside t j,
        (
          c.no_keys_below.ensures.deep c.if-no_keys_below.false,
          (omega (arith, c.requires.room, o.so_far.long), (own_counted t j, fits_child o)),
        ),
      ),
    )

pub overflow_add-sum-in-loop-i : goal.overflow_add-sum-in-loop-i
overflow_add-sum-in-loop-i t c =
    let j = (goal.at.overflow_add-sum-in-loop-i t c).After-from-one in
    omega (arith, fits_sum (onto t j) c.weighed-sum.ensures.value)

pub loop-i-preserved : goal.loop-i-preserved
loop-i-preserved t c =
    weighing_child (onto t (goal.at.loop-i-preserved t c).After-from-one)
    c.weighed-sum.ensures.value
    c.weighed-sum.ensures.weighed

pub overflow_add-list-2 : goal.overflow_add-list-2
overflow_add-list-2 t c =
    omega (arith, fits_end c.loop-i.invariant c.requires.fits c.loop-i-test.false)

pub returns : goal.returns
returns t c =
    let w = c.loop-i.invariant in
    let high = c.loop-i-test.false in
    record {
      value = weighing_sum w high;
      weighed = weighing_end w high (omega (arith, c.requires.inside, c.requires.room));
    }
