-- Where all is plain and each node stands in a link, the working numbers are the marks of the
-- nodes: that of the root is 1, and every other node has its mark from its parent, which comes
-- before it. Then no node hides data.
use mathlib.Core.Path.{◌≡◌}
use mathlib.Core.Logic.{◌≢◌}
use mathlib.Core.Bool.{false}
use mathlib.Core.List.{List}
use Prim.Native.Nat.{ℕ, zero, suc, ◌+◌, ◌≤◌, ◌<◌}
use native.Mathlib.Decide.{ℕ_discrete}
use native.Mathlib.Omega.{arith}
use lib.ListN.{get_or}
use Rattle.trie.specs.Table.{Table}
use Rattle.head.specs.declared.Head.{Head}
use Rattle.reaching.specs.Reaching.{Marked}
use Rattle.reaching.proofs.Marks.{marked_root, marked_on}
use Rattle.tallying.specs.Tallied.{hidden_at, MarkedBy, Plain, AllMet}

module _ {h : Head} {t : Table} {work : List ℕ} (p : Plain h t (h.g + 1) work)
    (first : get_or work 0 0 ≡ 1) (met : AllMet work (h.g + 1)) where
  by_parent : (x : ℕ) → x ≤ h.g → x ≢ 0 → MarkedBy h t (h.g + 1) work x
  by_parent x high f =
      p.marked first x (omega arith) high (met x (omega arith) (omega arith))

  below : (m x : ℕ) → x < m → x ≤ h.g → Marked t x (get_or work x 0)
  below zero x b high = absurd (omega arith)
  below (suc m) x b high = go (below m) (ℕ_discrete x 0)
    where
      go : ((y : ℕ) → y < m → y ≤ h.g → Marked t y (get_or work y 0)) → Dec (x ≡ 0)
          → Marked t x (get_or work x 0)
      go rest (yes z) = rw (z, first) (marked_root t)
      go rest (no f) =
          let by = by_parent x high f in
          rw by.mark
          (marked_on (rest by.node (omega (arith, by.before)) (omega (arith, by.before)))
          (record { letter = by.letter; link = by.link; full = f }))

  pub plain_marked : (x : ℕ) → x ≤ h.g → Marked t x (get_or work x 0)
  plain_marked x high = below (x + 1) x (omega arith) high

  pub plain_shown : (x : ℕ) → x ≤ h.g → hidden_at h t x (get_or work x 0) ≡ false
  plain_shown x high = go (ℕ_discrete x 0)
    where
      go : Dec (x ≡ 0) → hidden_at h t x (get_or work x 0) ≡ false
      go (yes z) = rw (z, first) (p.root first)
      go (no f) = (by_parent x high f).shown
