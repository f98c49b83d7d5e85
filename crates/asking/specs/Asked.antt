-- 01, "store: 1 to 8, 9, 10, 11, 12, 13", with 02's 16 after 8: the part before 11. It answers the
-- first of these refusals that applies or, if none does, the head and the key in hand. It leaves
-- the working numbers as the whole call does.
use Rattle.std.specs.Prelude.{ℕ, ◌≡◌, List, ◌++◌, Result, IfOk}
use Rattle.head.specs.Fields.{head_of}
use Rattle.paper.specs.Hearing.{Row, first}
use Rattle.paper.specs.Answers.{row_of}
use Rattle.paper.specs.declared.Refusal.{Refusal}
use Rattle.paper.specs.Given.{Given, key_in}
use Rattle.paper.specs.Orders.{check_order, key_rows}
use Rattle.paper.specs.Calls.{work_after}
use Rattle.paper.specs.Accepted.{Accepted}
use Rattle.key.specs.Hand.{letters_of, Ready}
use Rattle.key.specs.declared.asked.Asked.{Asked}

-- what a store can rely on once 10 has passed
pub record Admitted (l key : List ℕ) (r : Asked) : Type 0 where
  pub accepted : Accepted l
  pub head : r.head ≡ head_of l
  pub ready : Ready r.head r.key
  pub letters : letters_of r.key ≡ key

-- the rows before the key, then 9 and 10 of the key; `left` is what the working numbers hold
-- then
pub record AsksAfter (rows : List Row) (left l : List ℕ) (given : Given) (r : Result Asked Refusal)
    (work' : List ℕ) : Type 0 where
  pub verdict : row_of r ≡ first (rows ++ key_rows l given)
  pub numbers : work' ≡ left
  pub allowed : IfOk r (λ a. Admitted l (key_in l given) a)

-- with the check's rows before the key
abbrev pub Asks : List ℕ → List ℕ → Given → Result Asked Refusal → List ℕ → Type 0
Asks l work given r work' = AsksAfter (check_order l work) (work_after l work) l given r work'
