-- The keys below a node, letter by letter. The keys from a letter on are those of that letter,
-- then those from the next letter on. So the key at a position has the first letter whose keys
-- reach beyond the position, and all keys of lower letters come before a key.
use Prim.Native.Nat.{ℕ, zero, suc, pred, ◌+◌, ◌-◌, ◌≤◌, ◌<◌}
use native.Mathlib.Omega.{arith}
use native.Mathlib.Decide.{ℕ_discrete}
use native.Mathlib.Numerals.{add-one}
use mathlib.Core.List.{List, [], ◌∷◌, ◌++◌, map}
use mathlib.Core.Logic.{◌≢◌}
use mathlib.Core.Path.{◌≡◌, refl, sym, ◌∙◌, ap, ap₂}
use lib.ListN.{length, get_or, length-append, length-map}
use Rattle.trie.specs.Keys.{keys_under}
use Rattle.trie.proofs.Beyond.{from_none, from_empty, from_on}
use Rattle.trie.proofs.Walk.{follow_empty, follow_on}
use Rattle.head.specs.declared.Head.{Head}
use Rattle.node.specs.Image.{table_of}
use Rattle.depths.proofs.Links.{from}
use Rattle.passing.specs.Passing.{key_at, rank_in}
use Rattle.passing.specs.Weights.{sum_from}
use Rattle.passing.proofs.Ranks.{at_left, at_right, at_map, rank_few, rank_append, rank_lower}
use Rattle.passing.proofs.Ranks.{rank_same, rank_higher}
use Rattle.ranking.specs.Ranking.{under_letter, ChildCounts, under_lower, Under}

module _ (h : Head) (l : List ℕ) (p depth : ℕ) where
  -- the keys from letter i on
  abbrev pub onward : ℕ → List (List ℕ)
  onward i = from h (table_of h l) p depth i

  -- how many keys letter i has
  abbrev pub sizes : ℕ → ℕ
  sizes i = length (under_letter h l p depth i)

  pub by_none : (i : ℕ) → (table_of h l).child p i ≡ 0 → under_letter h l p depth i ≡ []
  by_none i e = follow_empty ((table_of h l).child p i) [] _ e

  pub by_child : (i : ℕ) → (table_of h l).child p i ≢ 0
      → under_letter h l p depth i ≡ keys_under (table_of h l) h.n (h.min - suc depth)
      (h.max - suc depth) ((table_of h l).child p i)
  by_child i full = follow_on ((table_of h l).child p i) [] _ full

  -- the count of a child that is linked
  pub below_link : (counts : List ℕ) (i : ℕ) {c : ℕ} → ChildCounts h l p depth counts
      → c ≡ (table_of h l).child p i → c ≢ 0
      → (c < length counts) × (get_or counts c 0 ≡ sizes i)
  below_link counts i below e full = rw e (below i (λ z. full (e ∙ z)))

  pub past_letters : (i : ℕ) → h.n ≤ i → onward i ≡ []
  past_letters i b = from_none (table_of h l) h.n (h.min - depth) (h.max - depth) p i b

  -- Letter i is reached: the key at a position below the node is at `left` among the keys from
  -- letter i on.
  pub record Turning (position left i : ℕ) : Type 0 where
    pub inside : left < length (onward i)
    pub same : key_at (onward 0) position ≡ key_at (onward i) left

  module _ (deep : depth < h.max) where
    pub by_letter_lem : (i : ℕ) → i < h.n → onward i ≡ map (i ∷◌) (under_letter h l p depth i)
        ++ onward (suc i)
    by_letter_lem i b = go (ℕ_discrete ((table_of h l).child p i) 0)
      where
        m : h.max - depth ≡ suc (h.max - suc depth)
        m = omega arith

        s : pred (h.min - depth) ≡ h.min - suc depth
        s = omega arith

        go : Dec ((table_of h l).child p i ≡ 0) → onward i
            ≡ map (i ∷◌) (under_letter h l p depth i)
            ++ onward (suc i)
        go (yes e) =
            from_empty (table_of h l) h.n (h.min - depth) (h.max - depth) p i b e
            ∙ ap (λ (keys : List (List ℕ)). map (i ∷◌) keys ++ onward (suc i)) (sym (by_none i e))
        go (no full) =
            rw m
            (from_on (table_of h l) h.n (h.min - depth) (h.max - suc depth) p i b refl full
            ∙ rw (s, by_child i full))

    -- ---- the letter of the key at a position

    sized : (i under : ℕ) → under ≡ length (under_letter h l p depth i)
        → length (map (i ∷◌) (under_letter h l p depth i)) ≡ under
    sized i under e = length-map (under_letter h l p depth i) (i ∷◌) ∙ sym e

    module _ {position left i : ℕ} (t : Turning position left i) where
      -- an empty link has no keys
      pub turning_empty : {c : ℕ} → i < h.n → c ≡ (table_of h l).child p i → c ≡ 0
          → Turning position left (i + 1)
      turning_empty low e empty =
          let over : onward i ≡ onward (i + 1) =
          rw (add-one i) (from_empty (table_of h l) h.n (h.min - depth) (h.max - depth) p i low
          (sym e ∙ empty)) in
          record {
            inside = omega (arith, t.inside, ap length over);
            same = t.same ∙ ap (λ (keys : List (List ℕ)). key_at keys left) over;
          }

      -- the position is after all keys of this letter
      pub turning_past : (under : ℕ) → i < h.n → under ≡ length (under_letter h l p depth i)
          → under ≤ left
          → Turning position (left - under) (i + 1)
      turning_past under low e past =
          let here = map (i ∷◌) (under_letter h l p depth i) in
          let so = sized i under e in
          let by : onward i ≡ here ++ onward (i + 1) = rw (add-one i) (by_letter_lem i low) in
          record {
            inside = omega (
              arith,
              t.inside,
              ap length by,
              length-append here
                  (onward (i + 1)),
              so,
            );
            same =
                t.same
                ∙ ap (λ (keys : List (List ℕ)). key_at keys left) by
                ∙ at_right here (onward (i + 1)) left (omega (arith, so))
                ∙ ap (λ (m : ℕ). key_at (onward (i + 1)) (left - m)) so;
          }

      -- the position is among the keys of this letter
      pub turning_here : (under : ℕ) {c : ℕ} → i < h.n
          → under ≡ length (under_letter h l p depth i) → left < under
          → c ≡ (table_of h l).child p i → c ≢ 0
          → Under h l p depth position (record { letter = i; child = c; left = left })
      turning_here under low e before link full =
          let here = map (i ∷◌) (under_letter h l p depth i) in
          record {
            letter = low;
            child = link;
            linked = full;
            inside = omega (arith, e);
            there = λ k f.
                t.same
                ∙ ap (λ (keys : List (List ℕ)). key_at keys left) (by_letter_lem i low)
                ∙ at_left here (onward (suc i)) left (omega (arith, sized i under e))
                ∙ at_map i (under_letter h l p depth i) left f;
          }

      -- after the last letter no key is left, so it is not reached
      pub turning_none : h.n ≤ i → ⊥
      turning_none out = omega (arith, t.inside, ap length (past_letters i out))

    -- ---- the keys before a key, by its first letter

    -- no key from a later letter on comes before it
    rank_past : (x : ℕ) (k : List ℕ) (m i : ℕ) → i + m ≡ h.n → x < i → rank_in (onward i) (x ∷ k)
        ≡ 0
    rank_past x k zero i e b =
        omega (arith, rank_few (onward i) (x ∷ k), ap length (past_letters i (omega arith)))
    rank_past x k (suc m) i e b =
        let here = map (i ∷◌) (under_letter h l p depth i) in
        ap (λ (keys : List (List ℕ)). rank_in keys (x ∷ k)) (by_letter_lem i (omega arith))
        ∙ rank_append here (onward (suc i)) (x ∷ k)
        ∙ ap₂ ◌+◌ (rank_higher i x (under_letter h l p depth i) k b)
        (rank_past x k m (suc i) (omega arith) (omega arith))

    -- from an earlier letter on: all keys of the letters between, and the keys of its own letter
    -- that come before the rest of the key
    rank_through : (x : ℕ) (k : List ℕ) → x < h.n → (d i : ℕ) → i + d ≡ x
        → rank_in (onward i) (x ∷ k) ≡ sum_from sizes i d + rank_in (under_letter h l p depth x) k
    unfolding sum_from
    rank_through x k low zero i e =
        let same : i ≡ x = omega arith in
        let here = map (x ∷◌) (under_letter h l p depth x) in
        rw same
        (ap (λ (keys : List (List ℕ)). rank_in keys (x ∷ k)) (by_letter_lem x low)
        ∙ rank_append here (onward (suc x)) (x ∷ k)
        ∙ ap₂ ◌+◌ (rank_same x (under_letter h l p depth x) k)
        (rank_past x k (h.n - suc x) (suc x) (omega arith) (omega arith))
        ∙ omega arith)
    rank_through x k low (suc d) i e =
        let here = map (i ∷◌) (under_letter h l p depth i) in
        let rest = rank_through x k low d (suc i) (omega arith) in
        let first = rank_lower i x (under_letter h l p depth i) k (omega arith) in
        ap (λ (keys : List (List ℕ)). rank_in keys (x ∷ k)) (by_letter_lem i (omega arith))
        ∙ rank_append here (onward (suc i)) (x ∷ k)
        ∙ omega (arith, rest, first)

    pub rank_letters : (x : ℕ) (k : List ℕ) → x < h.n
        → rank_in (onward 0) (x ∷ k)
        ≡ under_lower h l p depth x + rank_in (under_letter h l p depth x)
        k
    unfolding under_lower
    rank_letters x k low = rank_through x k low x 0 (omega arith)

  -- ---- the number of keys of lower letters

  -- how many are still to come from letter i on, below letter x
  abbrev pub rest : ℕ → ℕ → ℕ
  rest x i = sum_from sizes i (x - i)

  pub rest_all : (x : ℕ) → rest x 0 ≡ under_lower h l p depth x
  unfolding under_lower
  rest_all x = let e : x - 0 ≡ x = omega arith in rw e

  pub rest_none : (x i : ℕ) → x ≤ i → rest x i ≡ 0
  unfolding sum_from
  rest_none x i b = let e : x - i ≡ 0 = omega arith in rw e

  rest_more : (x i : ℕ) → i < x → rest x i ≡ sizes i + rest x (i + 1)
  unfolding sum_from
  rest_more x i b = let e : x - i ≡ suc (x - suc i) = omega arith in rw (add-one i, e)

  pub rest_empty : (x i : ℕ) {c : ℕ} → i < x → c ≡ (table_of h l).child p i → c ≡ 0
      → rest x i ≡ rest x (i + 1)
  rest_empty x i b e empty = omega (arith, rest_more x i b, ap length (by_none i (sym e ∙ empty)))

  pub rest_counted : (x i under : ℕ) → i < x → under ≡ sizes i → rest x i ≡ under + rest x (i + 1)
  rest_counted x i under b e = omega (arith, rest_more x i b)
