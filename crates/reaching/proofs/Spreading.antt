-- The invariant of the loop over a node's links. It speaks of every number of nodes followed so
-- far, since the loop does not know that number: whatever held of the search before, holds after.
-- The node itself has been met, so its number stays, and the mark that it gives its children.
use Prim.Native.Nat.{ℕ, ◌+◌, ◌*◌, ◌≤◌}
use mathlib.Core.Path.{◌≡◌, sym, ◌∙◌}
use mathlib.Core.Logic.{◌≢◌}
use mathlib.Core.List.{List}
use native.Mathlib.Omega.{arith}
use lib.ListN.{length, get_or, set}
use lib.Seq.{get_or-set_other}
use Rattle.trie.specs.Table.{Table}
use Rattle.trie.specs.Rules.{Within}
use Rattle.reaching.specs.Reaching.{RestKept, marks, deeper_of, mark_in, Met, Searching}
use Rattle.reaching.proofs.Kept.{kept_more, kept_set}
use Rattle.reaching.proofs.OnStack.{searching_met, searching_new}

-- the first i of n links of node q have been followed
pub record Spreading (t : Table) (g n q top : ℕ) (work : List ℕ) (i top' : ℕ) (work' : List ℕ)
    : Type 0 where
  pub on : (followed : ℕ) → Searching t g n q 0 followed top work
      → Searching t g n q i followed top' work'
  pub here : Met work q → get_or work' q 0 ≡ get_or work q 0
  pub top_most : top' ≤ g + 1
  pub kept : RestKept g work work'

module _ {t : Table} {g n q top : ℕ} {work : List ℕ} {i top' : ℕ} {work' : List ℕ}
    (p : Spreading t g n q top work i top' work') where
  -- a node that has been met stays as it is
  pub spreading_met : {c : ℕ} → c ≡ t.child q i → Met work' c
      → Spreading t g n q top work (i + 1) top' work'
  spreading_met e m =
      record {
        on = λ followed s. searching_met (p.on followed s) (rw (← e) m);
        here = p.here;
        top_most = p.top_most;
        kept = p.kept;
      }

  -- a node that has not been met receives its mark
  pub spreading_new : {c mark : ℕ} → Within t g → g + 1 ≤ length work → q ≤ g
      → c ≡ t.child q i → get_or work' c 0 ≡ 0 → mark ≡ deeper_of (mark_in work q)
      → Spreading t g n q top work (i + 1) c (set work' c (top' * marks + mark))
  spreading_new {c} {mark} within room low e z f =
      record {
        on = λ followed s. searching_new (p.on followed s) (omega (arith, p.kept.long)) low high
            e z (rw (p.here s.here) f);
        here = λ m. get_or-set_other work' c q (top' * marks + mark) 0 (other m) ∙ p.here m;
        top_most = omega (arith, high);
        kept = kept_more p.kept (kept_set work' (top' * marks + mark) high);
      }
    where
      high : c ≤ g
      high = omega (arith, within q i, e)

      other : Met work q → q ≢ c
      other m w = m (sym (p.here m) ∙ rw w z)
