-- What the nodes of an accepted image know: 01, "An image is called accepted if the check, lent
-- G+1 working numbers or more, answers 0". `Accepted` of `paper` says the same, rule by rule
-- (`check_exactly` there); it has witnesses, and a ghost field holds a fact that has one proof.
use Rattle.std.specs.Prelude.{ℕ, ◌+◌, ◌≡◌, List, replicate}
use Rattle.std.proofs.Math.Option.{none}
use Rattle.head.specs.declared.Head.{Head}
use Rattle.paper.specs.Hearing.{first}
use Rattle.paper.specs.Orders.{check_order}

-- the check, lent a working number for each node, gives no row
abbrev pub Passed : Head → List ℕ → Type 0
Passed h l = first (check_order l (replicate (h.g + 1) 0)) ≡ none
