-- The first working numbers are set to 0. Those after them are kept, so a second clearing leaves
-- the same, whatever was counted in the first numbers between the two.
use mathlib.Core.Path.{◌≡◌, sym, ap, ◌∙◌}
use mathlib.Core.List.{List, ◌++◌}
use Prim.Native.Nat.{ℕ, ◌+◌, ◌≤◌}
use native.Mathlib.Omega.{arith}
use lib.ListN.{length, drop, replicate, length-append, length-drop, length-replicate}
use lib.Seq.{drop_at}
use Rattle.reaching.specs.Reaching.{RestKept}

module _ (n : ℕ) (work : List ℕ) {work' : List ℕ} (e : work' ≡ replicate n 0 ++ drop n work) where
  -- the numbers after those that were set to 0
  pub cleared_rest : drop n work' ≡ drop n work
  cleared_rest = ap (drop n) e ∙ drop_at (replicate n 0) (drop n work) n (length-replicate n 0)

  pub cleared_again : work' ≡ replicate n 0 ++ drop n work'
  cleared_again = e ∙ ap (λ (w : List ℕ). replicate n 0 ++ w) (sym cleared_rest)

-- the numbers from G+1 on are kept
pub kept_cleared : (g : ℕ) (work : List ℕ) {work' : List ℕ}
    → work' ≡ replicate (g + 1) 0 ++ drop (g + 1) work → g + 1 ≤ length work
    → RestKept g work work'
kept_cleared g work e room =
    record {
      long =
          ap length e
          ∙ length-append (replicate (g + 1) 0) (drop (g + 1) work)
          ∙ omega (arith, length-replicate {A = ℕ} (g + 1) 0, length-drop (g + 1) work);
      rest = cleared_rest (g + 1) work e;
    }
