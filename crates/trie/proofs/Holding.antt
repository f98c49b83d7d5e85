-- How many nodes hold data. If every node is reached, no address stands in two links, and no data
-- stands at a depth outside the limits, then each node whose data is not 0 is named by one stored
-- key and each stored key names such a node. So there are as many stored keys as such nodes: node
-- by node, one key more where the data is not 0.
use Prim.Native.Nat.{ℕ, zero, suc, ◌+◌, ◌≤◌, ◌<◌}
use native.Mathlib.Omega.{arith}
use native.Mathlib.Decide.{ℕ_discrete}
use native.Mathlib.Nat.{add-zero, add-suc}
use native.Mathlib.Numerals.{add-one}
use mathlib.Core.Bool.{Bool, false}
use mathlib.Core.List.{List, Memᴰ}
use mathlib.Core.Logic.{◌↔◌, ◌≢◌}
use mathlib.Core.Path.{◌≡◌, refl, sym, ◌∙◌, ap}
use lib.Dec.{ltb}
use lib.ListN.{length}
use borrow.Author.Tests.{lt-ltb, le-ltb, ltb-true, eq-eqb, ne_eqb}
use Rattle.trie.specs.Table.{Table, Descent, complete, stopped, descend, answer}
use Rattle.trie.specs.Keys.{listing, holding, filter, Ascending}
use Rattle.trie.specs.Rules.{Framed, Within, LinkRules, Visible}
use Rattle.trie.proofs.Walk.{answer_complete, one_key, complete_within}
use Rattle.trie.proofs.Listing.{listing_holds, under_listed, keys_under_ascending, same_keys}
use Rattle.trie.proofs.Filter.{filter_holds, filter_none, filter_every, filter_ascending}
use Rattle.trie.proofs.Count.{one_more}

-- ---- node by node

module _ (t : Table) where
  pub holding_none : holding t 0 ≡ 0
  unfolding holding
  holding_none = refl

  pub holding_empty : (m : ℕ) → t.value m ≡ 0 → holding t (m + 1) ≡ holding t m
  unfolding holding
  holding_empty m e = rw (add-one m, eq-eqb (t.value m) 0 e) (omega arith)

  pub holding_full : (m : ℕ) → t.value m ≢ 0 → holding t (m + 1) ≡ holding t m + 1
  unfolding holding
  holding_full m full = rw (add-one m, ne_eqb (t.value m) 0 full) (omega arith)

  -- the nodes up to m hold no more than these and d nodes above
  pub holding_grows : (m d : ℕ) → holding t m ≤ holding t (m + d)
  unfolding holding
  holding_grows m zero = rw (add-zero m) (omega arith)
  holding_grows m (suc d) = rw (add-suc m d) (omega (arith, holding_grows m d))

-- ---- the stored keys by their nodes

-- does a walk end at a node below m?
unfoldable ended_below : ℕ → Descent → Bool
ended_below m (complete q) = ltb q m
ended_below m (stopped q x xs) = false

-- does the walk of key k?
unfoldable ends_below : Table → ℕ → List ℕ → Bool
unfolding ended_below descend
ends_below t m k = ended_below m (descend t 0 k)

ends : (t : Table) (m : ℕ) (k : List ℕ) {x : ℕ} → descend t 0 k ≡ complete x
    → ends_below t m k ≡ ltb x m
unfolding ends_below
ends t m k e = ap (ended_below m) e

-- each stored key ends at a node whose data is not 0
pub key_node : (t : Table) (g n least most : ℕ) → Within t g
    → (k : List ℕ) → Memᴰ k (listing t n least most)
    → (x : ℕ) × (x ≤ g) × (t.value x ≢ 0) × (descend t 0 k ≡ complete x)
key_node t g n least most within k a =
    let f = under_listed t n least most 0 k a in
    (f.node, complete_within t g k within f.reaches, f.full, f.reaches)

module _ {t : Table} {g n : ℕ} (framed : Framed t g n) (rules : LinkRules t g) (least most : ℕ)
    (visible : Visible t least most) where
  node_of : (k : List ℕ) → Memᴰ k (listing t n least most)
      → (x : ℕ) × (x ≤ g) × (t.value x ≢ 0) × (descend t 0 k ≡ complete x)
  node_of = key_node t g n least most rules.within

  -- each node whose data is not 0 is named by one stored key
  pub named_once : (x : ℕ) → x ≤ g → t.value x ≢ 0
      → (k : List ℕ) × Memᴰ k (listing t n least most) × (descend t 0 k ≡ complete x)
      × ((m : List ℕ) → descend t 0 m ≡ complete x → m ≡ k)
  named_once x low full =
      let (k, e) = rules.reached x low in
      let present : answer t k ≢ 0 = λ z. full (sym (answer_complete t k e) ∙ z) in
      let (long, deep) = visible k present in (
        k,
        (listing_holds framed least most k).1 (long, deep, present),
        e,
        λ m f. one_key t m k rules.once f e,
      )

  -- the stored keys whose walks end below node m
  abbrev keys_ending : ℕ → List (List ℕ)
  keys_ending m = filter (ends_below t m) (listing t n least most)

  ascending : (m : ℕ) → Ascending (keys_ending m)
  ascending m =
      filter_ascending (ends_below t m) (listing t n least most)
      (keys_under_ascending t n least most 0)

  listed : (m : ℕ) (k : List ℕ) → Memᴰ k (keys_ending m)
      → Memᴰ k (listing t n least most)
  listed m k a = ((filter_holds (ends_below t m) (listing t n least most) k).0 a).0

  -- a stored key is among them or not, by its node
  below : (m x : ℕ) (k : List ℕ) → descend t 0 k ≡ complete x
      → Memᴰ k (listing t n least most)
      → Memᴰ k (keys_ending m) ↔ (x < m)
  below m x k e a = (
    λ b. ltb-true x m
        (sym (ends t m k e)
        ∙ ((filter_holds (ends_below t m) (listing t n least most) k).0 b).1),
    λ low. (filter_holds (ends_below t m) (listing t n least most) k).1
        (a, ends t m k e ∙ lt-ltb x m low),
  )

  -- one node on, a key that does not end at that node is in both lists or in neither
  others : (m : ℕ) (k : List ℕ) → ¬ (descend t 0 k ≡ complete m)
      → Memᴰ k (keys_ending m) ↔ Memᴰ k (keys_ending (m + 1))
  others m k other = (
    λ b. let a = listed m k b in
        let (x, low, full, e) = node_of k a in
        (below (m + 1) x k e a).1 (omega (arith, (below m x k e a).0 b)),
    λ b. let a = listed (m + 1) k b in
        let (x, low, full, e) = node_of k a in
        let apart : x ≢ m = λ same. other (e ∙ ap complete same) in
        (below m x k e a).1 (omega (arith, (below (m + 1) x k e a).0 b)),
  )

  empty_node : (m : ℕ) → t.value m ≡ 0 → (k : List ℕ)
      → Memᴰ k (listing t n least most)
      → ¬ (descend t 0 k ≡ complete m)
  empty_node m e k a f =
      let (low, high, present) = (listing_holds framed least most k).0 a in
      present (answer_complete t k f ∙ e)

  step : (m : ℕ) → m ≤ g → length (keys_ending m) ≡ holding t m
      → length (keys_ending (m + 1)) ≡ holding t (m + 1)
  step m low so_far = go (ℕ_discrete (t.value m) 0)
    where
      go : Dec (t.value m ≡ 0) → length (keys_ending (m + 1)) ≡ holding t (m + 1)
      go (yes e) =
          let same : keys_ending (m + 1) ≡ keys_ending m =
          same_keys (keys_ending (m + 1)) (keys_ending m) (ascending (m + 1)) (ascending m)
          (λ k a. (others m k (empty_node m e k (listed (m + 1) k a))).1 a)
          (λ k a. (others m k (empty_node m e k (listed m k a))).0 a) in
          omega (arith, holding_empty t m e, ap length same)
      go (no full) =
          let (k, a, e, only) = named_once m low full in
          let one : length (keys_ending (m + 1)) ≡ suc (length (keys_ending m)) =
          one_more (keys_ending m) (keys_ending (m + 1)) k (ascending m) (ascending (m + 1))
          (λ b. omega (arith, (below m m k e a).0 b))
          ((below (m + 1) m k e a).1 (omega arith))
          (λ j other. others m j (λ f. other (only j f))) in
          omega (arith, holding_full t m full)

  up_to : (m : ℕ) → m ≤ g + 1 → length (keys_ending m) ≡ holding t m
  up_to zero low =
      ap length (filter_none (ends_below t 0) (listing t n least most)
      (λ k a. let (x, l, full, f) = node_of k a in ends t 0 k f ∙ le-ltb x 0 (omega arith)))
      ∙ sym (holding_none t)
  up_to (suc m) low = rw (← add-one m) (step m (omega arith) (up_to m (omega arith)))

  -- "the number of stored keys" is the number of nodes whose data is not 0
  pub keys_hold : length (listing t n least most) ≡ holding t (g + 1)
  keys_hold =
      sym (ap length (filter_every (ends_below t (g + 1)) (listing t n least most)
      (λ k a. let (x, low, full, f) = node_of k a in
      ends t (g + 1) k f ∙ lt-ltb x (g + 1) (omega arith))))
      ∙ up_to (g + 1) (omega arith)
