-- The working numbers from G+1 on are kept, since the search sets only numbers of nodes.
use Prim.Native.Nat.{ℕ, ◌+◌, ◌≤◌}
use mathlib.Core.Path.{refl, ◌∙◌}
use mathlib.Core.List.{List}
use native.Mathlib.Omega.{arith}
use lib.ListN.{set, length-set}
use lib.Seq.{drop-set-lt}
use Rattle.reaching.specs.Reaching.{RestKept}

pub kept_none : (g : ℕ) (work : List ℕ) → RestKept g work work
kept_none g work = record { long = refl; rest = refl }

pub kept_more : {g : ℕ} {work work' work'' : List ℕ} → RestKept g work work'
    → RestKept g work' work'' → RestKept g work work''
kept_more a b = record { long = b.long ∙ a.long; rest = b.rest ∙ a.rest }

pub kept_set : {g x : ℕ} (work : List ℕ) (v : ℕ) → x ≤ g → RestKept g work (set work x v)
kept_set {g} {x} work v h =
    record { long = length-set work x v; rest = drop-set-lt (g + 1) work x v (omega arith) }
