-- The way to the key at a position. The letters taken so far lead to a node, and the rest of the
-- key is at the position left among the keys at or under it. One letter more makes the rest
-- shorter. At the node whose own key it is, nothing is left.
use Prim.Native.Nat.{ℕ, suc, ◌+◌, ◌-◌, ◌≤◌, ◌<◌}
use native.Mathlib.Omega.{arith}
use native.Mathlib.Decide.{dec_lt}
use native.Mathlib.Numerals.{add-one}
use mathlib.Core.List.{List, [], ◌∷◌, ◌++◌, append-nil, append_assoc}
use mathlib.Core.Logic.{◌≢◌}
use mathlib.Core.Option.{some}
use mathlib.Core.Path.{◌≡◌, refl, sym, ◌∙◌, ap}
use lib.ListN.{length, take, set, length-set}
use lib.Seq.{length-take-le, take-suc-set}
use Rattle.trie.specs.Table.{complete, descend, answer}
use Rattle.trie.specs.Keys.{own_key, listing}
use Rattle.trie.proofs.Walk.{descend_nil, answer_complete}
use Rattle.trie.proofs.Beyond.{under_split, from_shallow}
use Rattle.head.specs.declared.Head.{Head}
use Rattle.node.specs.Image.{table_of}
use Rattle.depths.specs.Depths.{own_value}
use Rattle.depths.proofs.Links.{own_empty, own_full, own_long, own_data}
use Rattle.passing.specs.Passing.{key_at}
use Rattle.passing.proofs.Ranks.{at_right}
use Rattle.paper.specs.Calls.{stored_keys}
use Rattle.ranking.specs.declared.Branch.{Branch}
use Rattle.ranking.specs.Ranking.{Spotted, under_letter, ChildCounts, Under}
use Rattle.ranking.proofs.ByLetter.{onward, by_child}
use Rattle.ranking.proofs.Below.{Known, held, within, one_more, below}

pub record Spotting (h : Head) (l : List ℕ) (position : ℕ) (path₀ path : List ℕ)
    (node depth left : ℕ) : Type 0 where
  pub reaches : descend (table_of h l) 0 (take depth path) ≡ complete node
  pub deep : depth ≤ h.max
  pub kept : length path ≡ length path₀
  pub inside : left < length (held h l node depth)
  pub there : (k : List ℕ) → key_at (held h l node depth) left ≡ some k
      → key_at (listing (table_of h l) h.n h.min h.max) position
      ≡ some (take depth path ++ k)

-- after the node's own key, if it has one: the key is at `behind` among the keys below the node
pub record Beneath (h : Head) (l : List ℕ) (node depth left behind : ℕ) : Type 0 where
  pub inside : behind < length (onward h l node depth 0)
  pub same : key_at (held h l node depth) left ≡ key_at (onward h l node depth 0) behind

module _ {h : Head} {l counts : List ℕ} (w : Known h l counts) {position : ℕ} {path₀ : List ℕ}
    (room : h.max ≤ length path₀) where
  pub spotting_start : position < length (stored_keys l)
      → Spotting h l position path₀ path₀ 0 0 position
  spotting_start b =
      let least : h.min - 0 ≡ h.min = omega arith in
      let most : h.max - 0 ≡ h.max = omega arith in
      record {
        reaches = descend_nil (table_of h l) 0;
        deep = omega arith;
        kept = refl;
        inside = rw (least, most, ← w.stored) b;
        there = λ k e. rw (least, most) at e;
      }

  module _ {path : List ℕ} {node depth left : ℕ}
      (s : Spotting h l position path₀ path node depth left) where
    pub spotting_within : node ≤ h.g
    spotting_within = within w (take depth path) s.reaches

    so_many : length (take depth path) ≡ depth
    so_many = length-take-le depth path (omega (arith, s.deep, s.kept))

    split : held h l node depth ≡ own_key (table_of h l) (h.min - depth) node
        ++ onward h l node depth 0
    split = under_split (table_of h l) h.n (h.min - depth) (h.max - depth) node

    module _ {v : ℕ} (own : v ≡ own_value h (table_of h l) node depth) where
      -- the key is the node's own
      pub spotting_end : v ≢ 0 → left ≡ 0
          → Spotted l position (record { length = depth; value = v }) path
      unfolding key_at
      spotting_end full first =
          let there : own_value h (table_of h l) node depth ≢ 0 = λ z. full (own ∙ z) in
          let all : held h l node depth ≡ [] ∷ onward h l node depth 0 =
          split ∙ ap (◌++ onward h l node depth 0) (own_full h (table_of h l) node depth there) in
          let here : key_at (held h l node depth) left ≡ some [] = rw (first, all) in
          record {
            key = take depth path;
            there =
                ap (λ (keys : List (List ℕ)). key_at keys position) w.stored
                ∙ s.there [] here
                ∙ ap (λ (k : List ℕ). some k) (append-nil (take depth path));
            long = sym so_many;
            value =
                own
                ∙ own_data h (table_of h l) node depth (own_long h (table_of h l) node depth there)
                ∙ sym (ap (λ t. answer t (take depth path)) w.table ∙ answer_complete
                (table_of h l) (take depth path) s.reaches);
            letters = ap (λ (m : ℕ). take m path) so_many;
          }

      -- the key is after the node's own key, or the node has none
      pub beneath_own : v ≢ 0 → left ≢ 0 → Beneath h l node depth left (left - 1)
      beneath_own full later =
          let there : own_value h (table_of h l) node depth ≢ 0 = λ z. full (own ∙ z) in
          let all : held h l node depth ≡ ([] ∷ []) ++ onward h l node depth 0 =
          split ∙ ap (◌++ onward h l node depth 0) (own_full h (table_of h l) node depth there) in
          record {
            inside = omega (arith, s.inside, ap length all);
            same =
                ap (λ (keys : List (List ℕ)). key_at keys left) all
                ∙ at_right ([] ∷ []) (onward h l node depth 0) left (omega arith);
          }

      pub beneath_none : v ≡ 0 → Beneath h l node depth left left
      beneath_none empty =
          let all : held h l node depth ≡ onward h l node depth 0 =
          split ∙ ap (◌++ onward h l node depth 0)
          (own_empty h (table_of h l) node depth (sym own ∙ empty)) in
          record {
            inside = omega (arith, s.inside, ap length all);
            same = ap (λ (keys : List (List ℕ)). key_at keys left) all;
          }

    -- a key below the node has one letter more
    module _ {behind : ℕ} (b : Beneath h l node depth left behind) where
      pub spotting_deep : depth < h.max
      spotting_deep = go (dec_lt depth h.max)
        where
          go : Dec (depth < h.max) → depth < h.max
          go (yes low) = low
          go (no high) =
              let none_left : h.max - depth ≡ 0 = omega arith in
              let empty : onward h l node depth 0 ≡ [] =
              rw none_left (from_shallow (table_of h l) h.n (h.min - depth) node 0) in
              absurd (omega (arith, b.inside, ap length empty))

      pub spotting_below : ChildCounts h l node depth counts
      spotting_below = below w (take depth path) depth s.reaches so_many spotting_deep

      pub spotting_room : depth < length path
      spotting_room = omega (arith, spotting_deep, s.kept)

      -- and is at or under the child that was found for it
      pub spotting_on : {r : Branch} → Under h l node depth behind r
          → Spotting h l position path₀ (set path depth r.letter) r.child (depth + 1)
          r.left
      spotting_on {r} u =
          let longer : take (suc depth) (set path depth r.letter) ≡ take depth path
          ++ (r.letter ∷ []) =
          take-suc-set path depth r.letter spotting_room in
          let full : (table_of h l).child node r.letter ≢ 0 = λ z. u.linked (u.child ∙ z) in
          let same : held h l r.child (suc depth) ≡ under_letter h l node depth r.letter =
          ap (λ (c : ℕ). held h l c (suc depth)) u.child
          ∙ sym (by_child h l node depth r.letter full) in
          rw (add-one depth)
          (record {
            reaches =
                ap (descend (table_of h l) 0) longer
                ∙ one_more w (take depth path) r.letter s.reaches u.child u.linked;
            deep = omega (arith, spotting_deep);
            kept = length-set path depth r.letter ∙ s.kept;
            inside = omega (arith, u.inside, ap length same);
            there = λ k e.
                s.there (r.letter ∷ k)
                (b.same ∙ u.there k (ap (λ (keys : List (List ℕ)). key_at keys r.left)
                (sym same) ∙ e))
                ∙ ap (λ (m : List ℕ). some m)
                (sym (ap (◌++ k) longer ∙ append_assoc (take depth path) (r.letter ∷ []) k));
          })
