-- One link of a node at a depth. The keys through this link are the child's own key and the keys
-- below the child, each with the link's letter before it. The search and the count both go from
-- letter to letter by this law, and read a node's own key by `own_value`.
use Prim.Native.Nat.{ℕ, suc, pred, ◌-◌, ◌<◌, ◌≤◌}
use native.Mathlib.Omega.{arith}
use native.Mathlib.Decide.{dec_lt}
use mathlib.Core.Bool.{Bool, true, true≢false}
use mathlib.Core.List.{List, [], ◌∷◌, ◌++◌, map}
use mathlib.Core.Logic.{◌≢◌}
use mathlib.Core.Path.{◌≡◌, sym, ◌∙◌}
use borrow.Author.Tests.{lt-ltb, le-ltb}
use Rattle.trie.specs.Table.{Table}
use Rattle.trie.specs.Keys.{own_key}
use Rattle.trie.specs.Beyond.{keys_from}
use Rattle.trie.proofs.Beyond.{own_none, own_short, own_there, under_split, from_shallow}
use Rattle.trie.proofs.Beyond.{from_childless, from_on}
use Rattle.head.specs.declared.Head.{Head}
use Rattle.depths.specs.Depths.{own_value, KeysBelow}

module _ (h : Head) (t : Table) where
  -- ---- the node's own key

  pub own_below : (q depth : ℕ) → depth < h.min → own_value h t q depth ≡ 0
  unfolding own_value
  own_below q depth b = rw (lt-ltb depth h.min b)

  pub own_data : (q depth : ℕ) → h.min ≤ depth → own_value h t q depth ≡ t.value q
  unfolding own_value
  own_data q depth b = rw (le-ltb depth h.min b)

  pub own_empty : (q depth : ℕ) → own_value h t q depth ≡ 0 → own_key t (h.min - depth) q ≡ []
  own_empty q depth e = go (dec_lt depth h.min)
    where
      go : Dec (depth < h.min) → own_key t (h.min - depth) q ≡ []
      go (yes b) = own_short t (h.min - depth) q (omega arith)
      go (no b) = own_none t (h.min - depth) q (sym (own_data q depth (omega arith)) ∙ e)

  -- if the value is not 0, the depth is min or more
  pub own_long : (q depth : ℕ) → own_value h t q depth ≢ 0 → h.min ≤ depth
  own_long q depth full = go (dec_lt depth h.min)
    where
      go : Dec (depth < h.min) → h.min ≤ depth
      go (yes b) = absurd (full (own_below q depth b))
      go (no b) = omega arith

  pub own_full : (q depth : ℕ) → own_value h t q depth ≢ 0 → own_key t (h.min - depth) q ≡ [] ∷ []
  own_full q depth full =
      let long = own_long q depth full in
      own_there t (h.min - depth) q (omega arith) (λ e. full (own_data q depth long ∙ e))

  -- ---- the keys from a letter on

  -- the keys below node q at a depth, from letter i on
  abbrev pub from : ℕ → ℕ → ℕ → List (List ℕ)
  from q depth i = keys_from t h.n (h.min - depth) (h.max - depth) q i

  -- there are none if no letter may follow, nor if all links are empty
  pub keys_below_full : (q depth : ℕ) → h.max ≤ depth → KeysBelow h t q depth true
  keys_below_full q depth b =
      let e : h.max - depth ≡ 0 = omega arith in
      record {
        nothing = λ z i. rw e (from_shallow t h.n (h.min - depth) q i);
        deep = λ z. absurd (true≢false z);
      }

  pub keys_below_asked : (q depth : ℕ) {r : Bool} → depth < h.max
      → (r ≡ true → (i : ℕ) → t.child q i ≡ 0) → KeysBelow h t q depth r
  keys_below_asked q depth deep childless =
      record {
        nothing = λ z i. from_childless t h.n (h.min - depth) (h.max - depth) q i
            (childless z);
        deep = λ z. deep;
      }

  pub from_link : (q depth i : ℕ) {c : ℕ} → depth < h.max → i < h.n → t.child q i ≡ c → c ≢ 0
      → from q depth i ≡ map (i ∷◌) (own_key t (h.min - suc depth) c ++ from c (suc depth) 0)
      ++ from q depth (suc i)
  from_link q depth i {c} deep low e full =
      let m : h.max - depth ≡ suc (h.max - suc depth) = omega arith in
      let s : pred (h.min - depth) ≡ h.min - suc depth = omega arith in
      rw m
      (from_on t h.n (h.min - depth) (h.max - suc depth) q i low e full
      ∙ rw (s, under_split t h.n (h.min - suc depth) (h.max - suc depth) c))
