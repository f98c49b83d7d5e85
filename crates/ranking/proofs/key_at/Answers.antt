-- `ranking::key_at` meets its contract: letter by letter the key is at the position left among
-- the keys at or under the node reached, down to the node whose own key it is. The depth left to
-- max falls. Assumes nothing.
use native.Mathlib.Omega.{arith}
use Rattle.head.proofs.Permitted.{bounds}
use Rattle.ranking.proofs.Below.{known}
use Rattle.ranking.proofs.Spotting.{Beneath, spotting_start, spotting_within}
use Rattle.ranking.proofs.Spotting.{spotting_end, beneath_own, beneath_none}
use Rattle.ranking.proofs.Spotting.{spotting_deep, spotting_below, spotting_room}
use Rattle.ranking.proofs.Spotting.{spotting_on}
use Rattle.ranking.proofs.key_at.Goals as goal
use Rattle.ranking.proofs.key_at.Goals.{Joined-value-ne0, then-value-ne0+else-left-eq0}
use Rattle.ranking.proofs.key_at.Goals.{else-value-ne0}

-- after the node's own key
beneath : (c : Joined-value-ne0)
    → (let n = c.args.counted.sound.nodes in
    let at = c.loop-position in
    Beneath n.head n.image.now at.node at.depth at.left c.if-value-ne0.left)
beneath c =
    let w = known c.args.counted in
    let i = c.loop-position.invariant in
    elim c.if-value-ne0.branch [
      | then-value-ne0+else-left-eq0 o ↦
          rw o.left-is
          (beneath_own w c.requires.room i c.own_value-value.ensures o.if-value-ne0.true
          o.if-left-eq0.false)
      | else-value-ne0 o ↦
          rw o.left-is
          (beneath_none w c.requires.room i c.own_value-value.ensures o.if-value-ne0.false)
    ]

pub loop-position-init : goal.loop-position-init
loop-position-init c =
    spotting_start (known c.args.counted) c.requires.room c.requires.position

pub own_value-value-requires : goal.own_value-value-requires
own_value-value-requires c =
    spotting_within (known c.args.counted) c.requires.room c.loop-position.invariant

pub returns-then-left-eq0 : goal.returns-then-left-eq0
returns-then-left-eq0 c =
    spotting_end (known c.args.counted) c.requires.room
    c.loop-position.invariant c.own_value-value.ensures c.if-value-ne0.true c.if-left-eq0.true

pub branch_at-branch-requires : goal.branch_at-branch-requires
branch_at-branch-requires c =
    let at = goal.at.branch_at-branch-requires c in
    let w = known c.args.counted in
    let room = c.requires.room in
    let i = c.loop-position.invariant in
    let under = beneath at.Joined-value-ne0 in
    record {
      node = spotting_within w room i;
      depth = spotting_deep w room i under;
      child_counts = spotting_below w room i under;
      inside = under.inside;
    }

pub bounds-path-depth : goal.bounds-path-depth
bounds-path-depth c =
    spotting_room (known c.args.counted) c.requires.room
    c.loop-position.invariant (beneath (goal.at.bounds-path-depth c).Joined-value-ne0)

pub overflow_add-depth : goal.overflow_add-depth
overflow_add-depth c =
    omega (
      arith,
      bounds c.args.counted.sound.nodes.head c.args.counted.sound.nodes.open.head_permitted,
      c.loop-position.invariant.deep,
    )

pub loop-position-smaller : goal.loop-position-smaller
loop-position-smaller c =
    omega (
      arith,
      spotting_deep (known c.args.counted) c.requires.room c.loop-position.invariant
          (beneath (goal.at.loop-position-smaller c).Joined-value-ne0),
    )

pub loop-position-preserved : goal.loop-position-preserved
loop-position-preserved c =
    spotting_on (known c.args.counted) c.requires.room
    c.loop-position.invariant (beneath (goal.at.loop-position-preserved c).Joined-value-ne0)
    c.branch_at-branch.ensures
