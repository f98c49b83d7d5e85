-- `audit::reached` meets its contract: the search has met every node, and the lowest one with
-- hidden data is the place of 19; or the lowest one that it has not met is the place of 16.
-- Assumes nothing.
use Prim.Native.Nat.{◌+◌}
use mathlib.Core.Path.{◌≡◌, ◌∙◌}
use Rattle.audit.proofs.EachReached.{reached_not, each_met, reached_hidden, reached_shown}
use Rattle.audit.proofs.reached.Goals as goal
use Rattle.audit.proofs.reached.Goals.{Joined-met-count, then-met-count+in_default, else-met-count}

pub returns-in-Some : goal.returns-in-Some
returns-in-Some c =
    reached_not c.reach-met.ensures (rw c.count-count.ensures at c.in-Some.ensures)

-- past 16 every node is met
all : (c : Joined-met-count) → c.reach-met.result ≡ c.args.nodes.head.g + 1
all c =
    elim c.if-met-count.branch [
      | then-met-count+in_default w ↦
          each_met c.reach-met.ensures (rw c.count-count.ensures at w.in_default.ensures)
      | else-met-count w ↦ w.if-met-count.false ∙ c.count-count.ensures
    ]

pub returns-in-Some-first_hidden : goal.returns-in-Some-first_hidden
returns-in-Some-first_hidden c =
    reached_hidden c.reach-met.ensures c.args.nodes.open c.requires.once
    (all (goal.at.returns-in-Some-first_hidden c).Joined-met-count)
    c.in-Some-first_hidden.ensures

pub returns : goal.returns
returns c =
    reached_shown c.reach-met.ensures c.args.nodes.open c.requires.once
    (all (goal.at.returns c).Joined-met-count) c.in_default-first_hidden.ensures
