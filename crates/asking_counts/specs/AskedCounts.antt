-- 02, Ask 7: "25 [..] after all the check's answers and before 9 and 10". The part of an order
-- that ends with 9 and 10, in a call that compares counts.
use Rattle.std.specs.Prelude.{ℕ, List, Result}
use Rattle.paper.specs.declared.Refusal.{Refusal}
use Rattle.paper.specs.Given.{Given}
use Rattle.position.specs.Orders.{check_counts_order}
use Rattle.position.specs.Calls.{work_left}
use Rattle.key.specs.declared.asked.Asked.{Asked}
use Rattle.asking.specs.Asked.{AsksAfter}

-- the check's rows, 25, then 9 and 10 of the key
abbrev pub AsksCounts : List ℕ → List ℕ → List ℕ → Given → Result Asked Refusal → List ℕ → Type 0
AsksCounts l work counts given r work' =
    AsksAfter (check_counts_order l work counts) (work_left l work counts) l given r work'
