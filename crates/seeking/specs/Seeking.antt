-- 01, "next key: 1 to 8, 9, 10, 14, 15": the part after the check. If the check of an image has
-- passed, this part answers and leaves in the buffer what the whole call does, whatever working
-- numbers were lent.
use Rattle.std.specs.Prelude.{◌≡◌, ℕ, Bool, List, Result}
use Rattle.std.proofs.Math.Option.{none}
use Rattle.paper.specs.declared.Found.{Found}
use Rattle.paper.specs.declared.Refusal.{Refusal}
use Rattle.paper.specs.Answers.{found_of}
use Rattle.paper.specs.Hearing.{first}
use Rattle.paper.specs.Orders.{check_order}
use Rattle.paper.specs.Calls.{work_after}
use Rattle.paper.specs.Promises.{Nexts}

-- what this part promises, once the check has passed
abbrev pub Seeks : List ℕ → List ℕ → Bool → List ℕ → Result Found Refusal → List ℕ → Type 0
Seeks l key after buffer r buffer' =
    (work : List ℕ) → first (check_order l work) ≡ none
    → Nexts l work key after buffer (found_of r) (work_after l work) buffer'
