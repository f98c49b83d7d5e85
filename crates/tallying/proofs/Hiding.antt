-- Whether a node hides data, by the tests of `hides`. If its depth is within min..max it hides
-- none, else all data that is not 0 is hidden.
use mathlib.Core.Path.{◌≡◌, refl, ◌∙◌}
use mathlib.Core.Bool.{Bool, true, false, not, ◌&&◌}
use Prim.Native.Nat.{ℕ, ◌+◌}
use native.Mathlib.Decide.{ℕ_discrete}
use native.Mathlib.Numerals.{add-one}
use native.Mathlib.Omega.{arith}
use lib.Dec.{eqb, leb, ltb}
use borrow.Author.Tests.{lt-ltb, ne_eqb}
use Rattle.trie.specs.Table.{Table}
use Rattle.head.specs.declared.Head.{Head}
use Rattle.tallying.specs.Tallied.{hidden_at}

neither : (a : Bool) → (a && false) ≡ false
neither true = refl
neither false = refl

same : (a : Bool) → (a && true) ≡ a
same true = refl
same false = refl

above_none : (v : ℕ) → ltb 0 v ≡ not (eqb v 0)
above_none v = go (ℕ_discrete v 0)
  where
    go : Dec (v ≡ 0) → ltb 0 v ≡ not (eqb v 0)
    go (yes z) = rw z
    go (no f) = rw (lt-ltb 0 v (omega arith), ne_eqb v 0 f)

module _ (h : Head) (t : Table) (x mark : ℕ) where
  -- the mark is that of a depth within min..max
  pub hides_none : (ltb h.min mark && leb mark (h.max + 1)) ≡ true
      → hidden_at h t x mark ≡ false
  unfolding hidden_at
  hides_none e = rw (add-one h.min, e) (neither (ltb 0 (t.value x)))

  -- it is not
  pub hides_data : {v : ℕ} → (ltb h.min mark && leb mark (h.max + 1)) ≡ false → v ≡ t.value x
      → hidden_at h t x mark ≡ not (eqb v 0)
  unfolding hidden_at
  hides_data e f =
      rw (add-one h.min, e, f) (same (ltb 0 (t.value x)) ∙ above_none (t.value x))
