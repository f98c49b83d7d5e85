-- 02, Ask 7: "every other call that takes counts, a checking call too, first compares them with
-- fresh ones". What the check of an image with counts beside it answers, and what it leaves in
-- the working numbers.
use Rattle.std.specs.Prelude.{ℕ, ◌≡◌, List, ◌++◌, take, drop, Result, IfOk}
use Rattle.head.specs.declared.Head.{Head}
use Rattle.head.specs.Fields.{head_of}
use Rattle.alphabet.specs.declared.codes.Codes.{Codes}
use Rattle.paper.specs.declared.Refusal.{Refusal}
use Rattle.paper.specs.Hearing.{first}
use Rattle.paper.specs.Answers.{row_of}
use Rattle.paper.specs.Given.{alphabet_in}
use Rattle.paper.specs.Orders.{check_order}
use Rattle.paper.specs.Calls.{work_after}
use Rattle.position.specs.Orders.{check_counts_order}
use Rattle.position.specs.Calls.{work_left}
use Rattle.opening.specs.Opened.{Decoded}

-- the check's rows, when no more than the first `lent` working numbers are lent to the check
pub record CheckedBoth (l work : List ℕ) (lent : ℕ) (r : Result Head Refusal)
    (work' : List ℕ) (codes : Codes) : Type 0 where
  pub verdict : row_of r ≡ first (check_order l (take lent work))
  pub numbers : work' ≡ work_after l (take lent work) ++ drop lent work
  pub head : IfOk r (λ h. h ≡ head_of l)
  pub decoded : IfOk r (λ _. Decoded (alphabet_in (head_of l) l) codes)

-- the check's rows, then 25
pub record Compared (l work counts : List ℕ) (r : Result Head Refusal) (work' : List ℕ)
    (codes : Codes) : Type 0 where
  pub verdict : row_of r ≡ first (check_counts_order l work counts)
  pub numbers : work' ≡ work_left l work counts
  pub head : IfOk r (λ h. h ≡ head_of l)
  pub decoded : IfOk r (λ _. Decoded (alphabet_in (head_of l) l) codes)
