-- `traversal::below`, which calls itself, meets its contract. From letter to letter the key sought
-- is the first of the keys that are left. At each call of itself the depth left to max falls.
-- Assumes nothing.
use mathlib.Core.Path.{sym, ◌∙◌}
use Prim.Native.Nat.{ℕ}
use native.Mathlib.Omega.{arith}
use Rattle.head.proofs.Permitted.{bounds}
use Rattle.traversal.proofs.Paths.{kept_below, along_within}
use Rattle.traversal.proofs.Searching.{told_none, Onto, passing_start}
use Rattle.traversal.proofs.Searching.{passing_empty, passing_end}
use Rattle.traversal.proofs.Searching.{onto_room, onto_node, onto_along, onto_kept}
use Rattle.traversal.proofs.Searching.{onto_own, onto_found, onto_missing, onto_no_keys}
use Rattle.traversal.proofs.+below.Goals as goal
use Rattle.traversal.proofs.+below.Goals.{After-own_value-value}

pub loop-i-init : goal.loop-i-init
loop-i-init t c =
    passing_start c.args.from c.requires.depth c.requires.along.0 c.requires.along.1

pub link-c-requires-clause-node : goal.link-c-requires-clause-node
link-c-requires-clause-node t c =
    let n = c.args.nodes.now in
    rw c.requires.along.1 (along_within n.head n.image.now c.requires.within c.requires.along.0)

pub loop-i-preserved-then-c-eq0 : goal.loop-i-preserved-then-c-eq0
loop-i-preserved-then-c-eq0 t c =
    passing_empty c.loop-i.invariant c.loop-i-test.true c.link-c.ensures c.if-c-eq0.true

pub overflow_cast-letters : goal.overflow_cast-letters
overflow_cast-letters t c =
    omega (arith, bounds c.args.nodes.now.head c.args.nodes.now.open.head_permitted)

-- the link is not empty
onto : (t : ℕ) (c : After-own_value-value t)
    → (let a = c.args in
    Onto a.nodes.now.head a.nodes.now.image.now a.letters.now a.addresses.now a.depth a.node a.from
    c.loop-i.letters c.loop-i.addresses c.loop-i.i c.link-c.result)
onto t c =
    let room = c.requires.room in
    record {
      passing = c.loop-i.invariant;
      letters = omega (arith, room.letters, c.loop-i.auto.letters, c.requires.depth);
      ends = omega (arith, room.ends, c.loop-i.auto.addresses, c.requires.depth);
      low = c.loop-i-test.true;
      link = c.link-c.ensures;
      full = c.if-c-eq0.false;
    }

pub returns-then-value-ne0 : goal.returns-then-value-ne0
returns-then-value-ne0 t c =
    let o = onto t (goal.at.returns-then-value-ne0 t c).After-own_value-value in
    record {
      search_tells = onto_own o c.own_value-value.ensures c.if-value-ne0.true;
      path_kept = onto_kept o;
    }

-- no key lies below the child
pub loop-i-preserved-then-no_keys_below : goal.loop-i-preserved-then-no_keys_below
loop-i-preserved-then-no_keys_below t c =
    onto_no_keys (onto t (goal.at.loop-i-preserved-then-no_keys_below t c).After-own_value-value)
    c.own_value-value.ensures c.if-value-ne0.false
    c.no_keys_below.ensures c.if-no_keys_below.true

pub below-deeper-requires : goal.below-deeper-requires
below-deeper-requires t c =
    let o = onto t (goal.at.below-deeper-requires t c).After-own_value-value in
    let deep = c.no_keys_below.ensures.deep c.if-no_keys_below.false in
    let long = c.loop-i.auto in
    let room = onto_room o c.requires.room long.letters long.addresses in (
      omega (arith, c.decreases, o.passing.deep),
      (c.requires.within, (deep, (room, (onto_along o, onto_node o)))),
    )

pub returns-then-is_some : goal.returns-then-is_some
returns-then-is_some t c =
    let o = onto t (goal.at.returns-then-is_some t c).After-own_value-value in
    record {
      search_tells = onto_found o c.own_value-value.ensures c.if-value-ne0.false
          c.below-deeper.ensures.search_tells (sym c.is_some.ensures ∙ c.if-is_some.true);
      path_kept = kept_below (onto_kept o) c.below-deeper.ensures.path_kept;
    }

pub loop-i-preserved : goal.loop-i-preserved
loop-i-preserved t c =
    onto_missing (onto t (goal.at.loop-i-preserved t c).After-own_value-value)
    c.own_value-value.ensures
    c.if-value-ne0.false c.below-deeper.ensures.search_tells
    (sym c.is_some.ensures ∙ c.if-is_some.false) c.below-deeper.ensures.path_kept

pub returns : goal.returns
returns t c =
    let p = c.loop-i.invariant in
    record {
      search_tells = told_none c.args.nodes.now.head c.args.nodes.now.image.now
          (passing_end p c.loop-i-test.false);
      path_kept = p.kept;
    }
