-- A table before a last link is written (`grow`). It has every other link, so what the rules say
-- of a single link or of two holds without it too. The last link's address stands in no link.
use Prim.Native.Nat.{ℕ, ◌≤◌}
use mathlib.Core.Path.{◌≡◌, sym, ◌∙◌}
use mathlib.Core.Logic.{◌≢◌}
use native.Mathlib.Decide.{ℕ_discrete}
use native.Mathlib.Omega.{arith}
use Rattle.trie.specs.Table.{Table}
use Rattle.trie.specs.Rules.{Within, Named, Once}
use Rattle.trie.specs.Storing.{grow}
use Rattle.trie.proofs.Grow.{Grown, new, old, grown, grow_child, grow_child_full}

module _ (t : Table) (q x c : ℕ) (empty : t.child q x ≡ 0) where
  -- a link that is not empty is the same once the last one is written
  there : (p i : ℕ) → t.child p i ≢ 0 → (grow t q x c).child p i ≡ t.child p i
  there p i h = grow_child_full t q x c p i empty h

  pub unlinked_within : {g : ℕ} → Within (grow t q x c) g → Within t g
  unlinked_within {g} w p i = go (ℕ_discrete (t.child p i) 0)
    where
      go : Dec (t.child p i ≡ 0) → t.child p i ≤ g
      go (yes e) = omega arith
      go (no h) = rw (there p i h) at (w p i)

  pub unlinked_once : Once (grow t q x c) → Once t
  unlinked_once once p i r j h e =
      once p i r j (rw (there p i h) h) (there p i h ∙ e ∙ sym (there r j (rw (← e) h)))

  -- every other address stands in a link
  pub unlinked_names : {g : ℕ} → Named (grow t q x c) g → (y : ℕ) → 1 ≤ y → y ≤ g → y ≢ c
      → (p : ℕ) × (i : ℕ) × (t.child p i ≡ y)
  unlinked_names named y low high other =
      let (p, i, e) = named y low high in (p, i, go (grown t q x c p i) e)
    where
      go : {p i z : ℕ} → Grown t q x c p i z → z ≡ y → t.child p i ≡ y
      go (new _ _) e = absurd (other (sym e))
      go old e = e

  -- the address of the last link stands in none
  pub unlinked_none : c ≢ 0 → Once (grow t q x c) → (p i : ℕ) → t.child p i ≢ c
  unlinked_none h once p i e =
      let full : t.child p i ≢ 0 = rw e h in
      let same : (p ≡ q) × (i ≡ x) =
      once p i q x (rw (there p i full) full) (there p i full ∙ e ∙ sym (grow_child t q x c))
      in
      full (rw (same.0, same.1) empty)
