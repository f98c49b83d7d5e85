-- The number of a node's keys, letter by letter: the keys counted so far and the keys still to
-- come make up the whole. A link that is not empty adds the child's own key, if there is one,
-- and the keys below the child.
use Prim.Native.Nat.{ℕ, ◌+◌, ◌-◌, ◌<◌, ◌≤◌}
use native.Mathlib.Decide.{ℕ_discrete}
use native.Mathlib.Numerals.{add-one}
use mathlib.Core.Bool.{Bool, true, not}
use mathlib.Core.Logic.{◌≢◌}
use mathlib.Core.Path.{◌≡◌, sym, ◌∙◌, ap}
use mir.Val.{bool_byte}
use lib.Dec.{eqb}
use lib.ListN.{length, length-append, length-map}
use borrow.Author.Tests.{eq-eqb, ne_eqb}
use Rattle.trie.specs.Table.{Table}
use Rattle.trie.specs.Keys.{own_key}
use Rattle.trie.proofs.Beyond.{from_none, from_empty}
use Rattle.head.specs.declared.Head.{Head}
use Rattle.depths.specs.Depths.{own_value, KeysBelow}
use Rattle.depths.proofs.Links.{own_empty, own_full, from, from_link}

module _ (h : Head) (t : Table) where
  -- how many keys below node q are still to come, from letter i on
  abbrev pub left : ℕ → ℕ → ℕ → ℕ
  left q depth i = length (from h t q depth i)

  -- how many keys are the node's own: one or none
  abbrev pub owned : ℕ → ℕ → ℕ
  owned q depth = length (own_key t (h.min - depth) q)

  -- by the value that was read
  pub owned_by : (q depth : ℕ) {v : ℕ} → v ≡ own_value h t q depth
      → bool_byte (not (eqb v 0)) ≡ owned q depth
  owned_by q depth {v} e = go (ℕ_discrete v 0)
    where
      go : Dec (v ≡ 0) → bool_byte (not (eqb v 0)) ≡ owned q depth
      go (yes none) = rw (eq-eqb v 0 none) (sym (ap length (own_empty h t q depth (sym e ∙ none))))
      go (no some) =
          rw (ne_eqb v 0 some) (sym (ap length (own_full h t q depth (λ z. some (e ∙ z)))))

  -- no key is left below a node without keys below it, nor past the last letter
  pub left_no_keys : (q depth i : ℕ) {r : Bool} → KeysBelow h t q depth r → r ≡ true
      → left q depth i ≡ 0
  left_no_keys q depth i b e = ap length (b.nothing e i)

  pub left_none : (q depth i : ℕ) → h.n ≤ i → left q depth i ≡ 0
  left_none q depth i b = ap length (from_none t h.n (h.min - depth) (h.max - depth) q i b)

  -- one letter on: an empty link adds no key; any other link adds the child's own key and the
  -- keys below the child
  pub left_empty : (q depth i : ℕ) {c : ℕ} → i < h.n → c ≡ t.child q i → c ≡ 0 → left q depth i
      ≡ left q depth (i + 1)
  left_empty q depth i b e empty =
      rw add-one (ap length (from_empty t h.n (h.min - depth) (h.max - depth) q i b
      (sym e ∙ empty)))

  pub left_link : (q depth i : ℕ) {c : ℕ} → depth < h.max → i < h.n → c ≡ t.child q i → c ≢ 0
      → left q depth i ≡ owned c (depth + 1) + left c (depth + 1) 0 + left q depth (i + 1)
  left_link q depth i deep b e full =
      rw (add-one depth, add-one i) (ap length (from_link h t q depth i deep b (sym e) full)
      ∙ simp (length-append, length-map))
