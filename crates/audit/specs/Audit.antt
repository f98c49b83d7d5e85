-- 01, "What the bench may hear", 1 to 8, and 02's 16 and 19: what the check of an image answers,
-- and how it leaves the working numbers.
use Rattle.std.specs.Prelude.{ℕ, ◌+◌, ◌≡◌, List, [], ◌∷◌, length, Result, IfOk}
use Rattle.head.specs.declared.Head.{Head}
use Rattle.head.specs.Fields.{head_of}
use Rattle.node.specs.Image.{table_of}
use Rattle.alphabet.specs.declared.codes.Codes.{Codes}
use Rattle.paper.specs.declared.Refusal.{Refusal}
use Rattle.paper.specs.Hearing.{first}
use Rattle.paper.specs.Answers.{row_of}
use Rattle.paper.specs.Given.{alphabet_in}
use Rattle.paper.specs.Orders.{node_rows, check_order}
use Rattle.paper.specs.Rows.{row5, row16, row19}
use Rattle.paper.specs.Calls.{cleared_by, work_after}
use Rattle.opening.specs.Opened.{Decoded}
use Rattle.reaching.specs.Reaching.{RestKept}

-- 1 to 8, 16 and 19 for an image, and its head and letters where none is given
pub record Checked (l work : List ℕ) (r : Result Head Refusal) (work' : List ℕ) (codes : Codes)
    : Type 0 where
  pub verdict : row_of r ≡ first (check_order l work)
  pub numbers : work' ≡ work_after l work
  pub head : IfOk r (λ h. h ≡ head_of l)
  pub decoded : IfOk r (λ _. Decoded (alphabet_in (head_of l) l) codes)

-- what judges only answers whether a row is given
abbrev Answer : Type 0
Answer = Result (Unit {0}) Refusal

-- 5 to 8, 16 and 19 for an opened image
pub record Audited (h : Head) (l work : List ℕ) (r : Answer) (work' : List ℕ) : Type 0 where
  pub verdict : row_of r ≡ first (row5 h (length work) ∷ node_rows h (table_of h l))
  pub numbers : work' ≡ cleared_by (first (row5 h (length work) ∷ [])) (h.g + 1) work

-- 6 to 8, 16 and 19
pub record LinksJudged (h : Head) (l work : List ℕ) (r : Answer) (work' : List ℕ) : Type 0 where
  pub verdict : row_of r ≡ first (node_rows h (table_of h l))
  pub kept : RestKept h.g work work'

-- 16 and 19
pub record ReachedJudged (h : Head) (l work : List ℕ) (r : Answer) (work' : List ℕ) : Type 0 where
  pub verdict : row_of r ≡ first (row16 h (table_of h l) ∷ row19 h (table_of h l) ∷ [])
  pub kept : RestKept h.g work work'
