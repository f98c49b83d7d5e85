-- `traversal::climb` meets its contract. Below the path's end, then from node to node up the path,
-- either the first key still to come is found, or none lies there and it comes from a node before.
-- A search is made only at a depth below max. Assumes nothing.
use Prim.Native.Nat.{suc, ◌-◌, ◌≤◌}
use mathlib.Core.Path.{sym, refl, ◌∙◌}
use native.Mathlib.Omega.{arith}
use lib.ListN.{length}
use Rattle.traversal.proofs.Paths.{along_within}
use Rattle.traversal.proofs.Searching.{told_none}
use Rattle.traversal.proofs.Climbing.{climbing_start, climb_found, climbing_more, climbing_along}
use Rattle.traversal.proofs.Climbing.{climbing_found, climbing_end, climbing_up, Climbing}
use Rattle.traversal.proofs.Climbing.{Nothing, nothing_missing, climb_no_keys}
use Rattle.traversal.proofs.climb.Goals as goal
use Rattle.traversal.proofs.climb.Goals.{Start, Joined-first-ne0, In-loop-depth}
use Rattle.traversal.proofs.climb.Goals.{then-first-ne0+else-is_some}
use Rattle.traversal.proofs.climb.Goals.{else-first-ne0+else-not-no_keys_below}

-- the path is long enough
long : (c : Start) → c.args.end ≤ length c.args.letters.now
long c = omega (arith, c.requires.end, c.requires.room.letters)

pub no_keys_below-requires : goal.no_keys_below-requires
no_keys_below-requires c =
    let n = c.args.nodes.now in
    along_within n.head n.image.now c.requires.within c.requires.along

pub returns-then-is_some : goal.returns-then-is_some
returns-then-is_some c =
    climb_found c.args.first (long (goal.at.returns-then-is_some c).Start) c.requires.along
    c.below-found.ensures.search_tells (sym c.is_some.ensures ∙ c.if-is_some.true)

-- no key was found below the path's end, or no search was made there
nothing : (c : Joined-first-ne0)
    → (let n = c.args.nodes.now in
    Nothing n.head n.image.now c.args.letters.now c.args.addresses.now c.args.end c.args.first
    c.if-first-ne0.letters c.if-first-ne0.addresses)
nothing c =
    elim c.if-first-ne0.branch [
      | then-first-ne0+else-is_some w ↦
          rw (w.letters-is, w.addresses-is)
          (nothing_missing w.below-found.ensures.search_tells
          (sym w.is_some.ensures ∙ w.if-is_some.false) w.below-found.ensures.path_kept)
      | else-first-ne0+else-not-no_keys_below w ↦
          rw (w.letters-is, w.addresses-is)
          (climb_no_keys w.no_keys_below.ensures w.if-not-no_keys_below.false)
    ]

pub loop-depth-init : goal.loop-depth-init
loop-depth-init c =
    let at = goal.at.loop-depth-init c in
    climbing_start c.requires.end (long at.Start) c.requires.along (nothing at.Joined-first-ne0)

-- a node is left above
left : (c : In-loop-depth)
    → (let n = c.args.nodes.now in
    let at = c.loop-depth in
    Climbing n.head n.image.now c.args.letters.now c.args.end c.args.first at.letters at.addresses
    (suc (at.depth - 1)))
left c = climbing_more c.loop-depth.invariant c.loop-depth-test.true

reach : (c : In-loop-depth) → c.loop-depth.depth - 1 ≤ length c.loop-depth.letters
reach c =
    omega (
      arith,
      c.loop-depth.invariant.deep,
      c.requires.room.letters,
      c.loop-depth.auto.letters,
      c.if-first-ne0.auto.letters,
    )

pub below-found-requires-in-loop-depth-clause-along
    : goal.below-found-requires-in-loop-depth-clause-along
below-found-requires-in-loop-depth-clause-along c = (
  climbing_along (left (goal.at.below-found-requires-in-loop-depth-clause-along c).In-loop-depth),
  refl,
)

pub returns-then-is_some-2 : goal.returns-then-is_some-2
returns-then-is_some-2 c =
    let at = (goal.at.returns-then-is_some-2 c).In-loop-depth in
    climbing_found (left at) (reach at)
    (rw c.from-from.ensures at c.below-found-in-loop-depth.ensures.search_tells)
    (sym c.is_some-in-loop-depth.ensures ∙ c.if-is_some-2.true)

pub loop-depth-preserved : goal.loop-depth-preserved
loop-depth-preserved c =
    let here = (goal.at.loop-depth-preserved c).In-loop-depth in
    let found = c.below-found-in-loop-depth.ensures in
    climbing_up (left here) (reach here)
    (nothing_missing (rw c.from-from.ensures at found.search_tells)
    (sym c.is_some-in-loop-depth.ensures ∙ c.if-is_some-2.false) found.path_kept)

pub returns : goal.returns
returns c =
    told_none c.args.nodes.now.head c.args.nodes.now.image.now
    (climbing_end c.loop-depth.depth c.loop-depth.invariant (omega arith))
