-- The count of a node that a key reaches. The keys that pass it are that key followed by each
-- key at or under the node: both lists are in order and hold the same keys. A node outside the
-- table, or deeper than a key may be, has the count 0.
use Prim.Native.Nat.{ℕ, zero, suc, ◌+◌, ◌-◌, ◌<◌, ◌≤◌}
use native.Mathlib.Omega.{arith}
use mathlib.Core.Bool.{true}
use mathlib.Core.List.Memᴰ
use mathlib.Core.List.{List, [], ◌∷◌, ◌++◌, map, Memᴰ}
use mathlib.Core.Path.{◌≡◌, refl, sym, ◌∙◌, ap, ap₂}
use lib.ListN.{length, length-append, length-map, get_or}
use Rattle.trie.specs.Table.{Table, complete, descend, value_at}
use Rattle.trie.specs.Keys.{keys_under, listing, before, filter, Ascending}
use Rattle.trie.specs.Rules.{Within, Linked}
use Rattle.trie.proofs.Before.{before_cons}
use Rattle.trie.proofs.Filter.{filter_none, filter_length, filter_holds, filter_ascending}
use Rattle.trie.proofs.Walk.{descend_append}
use Rattle.trie.proofs.Listing.{under_listed, keys_under_holds, keys_under_ascending, same_keys}
use Rattle.passing.specs.Passing.{passes, count_at, one_for_each}
use Rattle.passing.proofs.Passing.{prefix_passes, passes_extends, passes_within, refuted}

-- a path put before keys leaves their order
before_path : (k a b : List ℕ) → before (k ++ a) (k ++ b) ≡ before a b
before_path [] a b = refl
before_path (x ∷ k) a b = before_cons x (k ++ a) (k ++ b) ∙ before_path k a b

path_ascending : (k : List ℕ) (l : List (List ℕ)) → Ascending l → Ascending (map (k ++◌) l)
path_ascending k [] up = tt
path_ascending k (a ∷ l) up = (
  λ m b. let (r, hr, e) =
      Memᴰ.of_map (k ++◌) l b in ap (before (k ++ a)) (sym e) ∙ before_path k a r ∙ up.0 r hr,
  path_ascending k l up.1,
)

module _ {t : Table} {g n : ℕ} (linked : Linked t g n) (least most : ℕ) where
  -- the keys that are listed at the node p of key k, written from there on
  abbrev rests : List ℕ → ℕ → List (List ℕ)
  rests k p = keys_under t n (least - length k) (most - length k) p

  -- if a key extends the node's own key, the rest of it is listed there
  onward : (k : List ℕ) {p : ℕ} → descend t 0 k ≡ complete p → (r : List ℕ)
      → Memᴰ (k ++ r) (listing t n least most)
      → Memᴰ r (rests k p)
  unfolding value_at
  onward k {p} e r a =
      let f = under_listed t n least most 0 (k ++ r) a in
      let size : length (k ++ r) ≡ length k + length r = length-append k r in
      let ends : descend t p r ≡ complete f.node =
      sym (descend_append t 0 k r e) ∙ f.reaches in
      keys_under_holds
      t
      n
      linked.framed.no_letter
      (least - length k)
      (most - length k)
      p
      r (
        omega (arith, f.long),
        omega (arith, f.deep),
        λ z. f.full (sym (ap (value_at t) ends) ∙ z),
      )

  -- the converse
  followed : (k : List ℕ) {p : ℕ} → descend t 0 k ≡ complete p → length k ≤ most → (r : List ℕ)
      → Memᴰ r (rests k p)
      → Memᴰ (k ++ r) (listing t n least most)
  unfolding value_at
  followed k {p} e deep r a =
      let f = under_listed t n (least - length k) (most - length k) p r a in
      let size : length (k ++ r) ≡ length k + length r = length-append k r in
      let ends : descend t 0 (k ++ r) ≡ complete f.node =
      descend_append t 0 k r e ∙ f.reaches in
      keys_under_holds
      t
      n
      linked.framed.no_letter
      least
      most
      0
      (k ++ r) (
        omega (arith, f.long),
        omega (arith, f.deep),
        λ z. f.full (sym (ap (value_at t) ends) ∙ z),
      )

  -- the keys that pass a node: its own key, followed by each key at or under it
  pub passing_keys : (k : List ℕ) {p : ℕ} → descend t 0 k ≡ complete p → length k ≤ most
      → filter (passes t p 0) (listing t n least most) ≡ map (k ++◌)
      (keys_under t n (least - length k) (most - length k) p)
  passing_keys k {p} e deep =
      same_keys
      (filter (passes t p 0) (listing t n least most))
      (map (k ++◌) (rests k p))
      (filter_ascending (passes t p 0) (listing t n least most)
      (keys_under_ascending t n least most 0))
      (path_ascending k (rests k p)
      (keys_under_ascending t n (least - length k) (most - length k) p))
      to
      from
    where
      to : (j : List ℕ) → Memᴰ j (filter (passes t p 0) (listing t n least most))
          → Memᴰ j (map (k ++◌) (rests k p))
      to j a =
          let h = (filter_holds (passes t p 0) (listing t n least most) j).0 a in
          let (r, f) = passes_extends t k linked.once e j h.1 in
          Memᴰ.cast f (Memᴰ.map (k ++◌) (onward k e r (Memᴰ.cast (sym f) h.0)))

      from : (j : List ℕ) → Memᴰ j (map (k ++◌) (rests k p))
          → Memᴰ j (filter (passes t p 0) (listing t n least most))
      from j a =
          let (r, hr, f) = Memᴰ.of_map (k ++◌) (rests k p) a in
          let met : passes t p 0 (k ++ r) ≡ true = prefix_passes t p 0 k r e in
          Memᴰ.cast (sym f) ((filter_holds (passes t p 0) (listing t n least most) (k ++ r)).1
          (followed k e deep r hr, met))

  pub count_reached : (k : List ℕ) {p : ℕ} → descend t 0 k ≡ complete p → length k ≤ most
      → count_at t n least most p ≡ length (keys_under t n (least - length k) (most - length k) p)
  unfolding count_at
  count_reached k {p} e deep =
      ap length (passing_keys k e deep) ∙ length-map (rests k p) (k ++◌)

  -- a node deeper than a key may be
  pub count_deep : (k : List ℕ) {p : ℕ} → descend t 0 k ≡ complete p → most < length k
      → count_at t n least most p ≡ 0
  unfolding count_at
  count_deep k {p} e deep =
      ap length (filter_none (passes t p 0) (listing t n least most) (λ j a. refuted _ (out j a)))
    where
      out : (j : List ℕ) → Memᴰ j (listing t n least most) → ¬ (passes t p 0 j ≡ true)
      out j a h =
          let (r, f) = passes_extends t k linked.once e j h in
          omega (arith, (under_listed t n least most 0 j a).deep, ap length f, length-append k r)

pub count_few : (t : Table) (n least most q : ℕ) → count_at t n least most q
    ≤ length (listing t n least most)
unfolding count_at
count_few t n least most q = filter_length (passes t q 0) (listing t n least most)

pub count_outside : (t : Table) (g n least most q : ℕ) → Within t g → g < q
    → count_at t n least most q ≡ 0
unfolding count_at
count_outside t g n least most q within out =
    ap length (filter_none (passes t q 0) (listing t n least most)
    (λ j a. passes_within t g q 0 j within (omega arith) out))

-- ---- one number for each node

pub each_length : (f : ℕ → ℕ) (a k : ℕ) → length (one_for_each f a k) ≡ k
unfolding one_for_each
each_length f a zero = refl
each_length f a (suc k) = ap suc (each_length f (suc a) k)

pub each_at : (f : ℕ → ℕ) (a k i : ℕ) → i < k → get_or (one_for_each f a k) i 0 ≡ f (a + i)
unfolding one_for_each
each_at f a zero i h = absurd (omega arith)
each_at f a (suc k) zero h = let e : a ≡ a + 0 = omega arith in ap f e
each_at f a (suc k) (suc i) h =
    let e : suc a + i ≡ a + suc i = omega arith in each_at f (suc a) k i (omega arith) ∙ ap f e

pub each_same : (f h : ℕ → ℕ) (a k : ℕ) → ((i : ℕ) → a ≤ i → i < a + k → f i ≡ h i)
    → one_for_each f a k ≡ one_for_each h a k
unfolding one_for_each
each_same f h a zero same = refl
each_same f h a (suc k) same =
    ap₂ ◌∷◌ (same a (omega arith) (omega arith))
    (each_same f h (suc a) k (λ i low high. same i (omega arith) (omega arith)))
