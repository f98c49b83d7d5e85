-- 02, Ask 1: "the image with G set to p-1 is accepted". The trial checks that image, and leaves
-- it if it is accepted, else the image as it was.
use Rattle.std.specs.Prelude.{ℕ, ◌-◌, ◌≡◌, List, Result, OnOk, OnErr}
use Rattle.head.specs.Fields.{put_total}
use Rattle.paper.specs.declared.Refusal.{Refusal}
use Rattle.paper.specs.Hearing.{first}
use Rattle.paper.specs.Answers.{row_of}
use Rattle.paper.specs.Orders.{check_order}
use Rattle.paper.specs.Calls.{work_after}

-- the verdict of the trial, and what it leaves
pub record Lowers (l work : List ℕ) (p : ℕ) (r : Result (Unit {0}) Refusal) (l' work' : List ℕ)
    : Type 0 where
  pub verdict : row_of r ≡ first (check_order (put_total l (p - 1)) work)
  pub numbers : work' ≡ work_after (put_total l (p - 1)) work
  pub lowered : OnOk r (l' ≡ put_total l (p - 1))
  pub kept : OnErr r (l' ≡ l)
