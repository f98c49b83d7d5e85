-- 02, Ask 7: "how many stored keys lie at or under it". What the walk at or under a node at a
-- depth adds to a list of counts.
use Rattle.std.specs.Prelude.{ℕ, ◌+◌, ◌-◌, ◌^◌, ◌<◌, ◌≡◌, List, length, get_or}
use Rattle.head.specs.declared.Head.{Head}
use Rattle.node.specs.Image.{table_of}
use Rattle.passing.specs.Weights.{weight_at}

-- what the nodes at or under p, at this depth, add to the count of node q
abbrev pub weight : Head → List ℕ → ℕ → ℕ → ℕ → ℕ
weight h l p depth q = weight_at (table_of h l) h.n (h.min - depth) (h.max - depth) q p

-- every count fits 32 bits when the walk has been made
abbrev pub SumsFit : Head → List ℕ → ℕ → ℕ → List ℕ → Type 0
SumsFit h l p depth list = (q : ℕ) → get_or list q 0 + weight h l p depth q < 2 ^ 32

-- the list after the walk: each count is raised by what the walk adds to it
pub record Weighed (h : Head) (l : List ℕ) (p depth : ℕ) (list list' : List ℕ) : Type 0 where
  pub long : length list' ≡ length list
  pub each : (q : ℕ) → get_or list' q 0 ≡ get_or list q 0 + weight h l p depth q
