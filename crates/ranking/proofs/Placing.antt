-- The way down to a key, letter by letter. The keys before it are the keys passed so far, and
-- the keys under the node reached that come before the rest of the key. One letter more passes
-- the node's own key and all keys of lower letters. No key comes before an empty rest.
use Prim.Native.Nat.{ℕ, suc, ◌+◌, ◌-◌, ◌^◌, ◌≤◌, ◌<◌}
use native.Mathlib.Omega.{arith}
use native.Mathlib.Numerals.{add-one}
use mathlib.Core.List.{List, [], ◌∷◌, ◌++◌}
use mathlib.Core.Logic.{◌≢◌}
use mathlib.Core.Path.{◌≡◌, sym, ◌∙◌, ap, ap₂}
use Rattle.std.specs.Prelude.{Some, None}
use lib.ListN.{length, take, drop, length-drop, take-append-drop}
use lib.Seq.{length-take-le, take_all, drop-length, take-add, drop-drop}
use borrow.Author.Tests.{ne_eqb}
use Rattle.trie.specs.Table.{Table, complete, descend, answer}
use Rattle.trie.specs.Keys.{own_key, listing}
use Rattle.trie.proofs.Walk.{descend_nil, descend_empty, descend_append, answer_complete}
use Rattle.trie.proofs.Walk.{answer_stopped}
use Rattle.trie.proofs.Beyond.{under_split}
use Rattle.head.specs.declared.Head.{Head}
use Rattle.node.specs.Image.{table_of}
use Rattle.depths.specs.Depths.{own_value}
use Rattle.depths.proofs.Links.{own_empty, own_full, own_data}
use Rattle.passing.specs.Passing.{rank_in}
use Rattle.passing.proofs.Ranks.{rank_nil, rank_few, rank_append, rank_own}
use Rattle.paper.specs.Calls.{table_in, stored_keys}
use Rattle.ranking.specs.Ranking.{ranked_of, under_letter, ChildCounts, under_lower, RankFits}
use Rattle.ranking.proofs.ByLetter.{onward, by_child, rank_letters}
use Rattle.ranking.proofs.Below.{Known, held, within, one_more, below}

pub record Placing (h : Head) (l k : List ℕ) (node depth passed : ℕ) : Type 0 where
  pub reaches : descend (table_of h l) 0 (take depth k) ≡ complete node
  pub short : depth ≤ length k
  pub same : passed + rank_in (held h l node depth) (drop depth k)
      ≡ rank_in (listing (table_of h l) h.n h.min h.max) k

-- how many keys are a node's own
abbrev pub owned : Head → List ℕ → ℕ → ℕ → ℕ
owned h l node depth = length (own_key (table_of h l) (h.min - depth) node)

module _ (h : Head) (l : List ℕ) (node depth : ℕ) {v : ℕ}
    (own : v ≡ own_value h (table_of h l) node depth) where
  pub owned_none : v ≡ 0 → owned h l node depth ≡ 0
  owned_none empty = ap length (own_empty h (table_of h l) node depth (sym own ∙ empty))

  pub owned_one : v ≢ 0 → owned h l node depth ≡ 1
  owned_one full = ap length (own_full h (table_of h l) node depth (λ z. full (own ∙ z)))

stored_at : (l k : List ℕ) → answer (table_in l) k ≢ 0 → Some (rank_in (stored_keys l) k)
    ≡ ranked_of l k
unfolding ranked_of
stored_at l k full = rw (ne_eqb (answer (table_in l) k) 0 full)

module _ {h : Head} {l counts : List ℕ} (w : Known h l counts) (k : List ℕ) where
  -- a key that is not stored, and one that is
  missing : answer (table_of h l) k ≡ 0 → None ≡ ranked_of l k
  unfolding ranked_of
  missing e = rw (w.table, e)

  there : answer (table_of h l) k ≢ 0 → {passed : ℕ}
      → passed ≡ rank_in (listing (table_of h l) h.n h.min h.max) k
      → Some passed ≡ ranked_of l k
  there full e =
      ap Some (e ∙ ap (λ (keys : List (List ℕ)). rank_in keys k) (sym w.stored))
      ∙ stored_at l k (λ z. full (ap (λ (t : Table). answer t k) (sym w.table) ∙ z))

  pub placing_start : Placing h l k 0 0 0
  placing_start =
      let least : h.min - 0 ≡ h.min = omega arith in
      let most : h.max - 0 ≡ h.max = omega arith in
      record {
        reaches = descend_nil (table_of h l) 0;
        short = omega arith;
        same = rw (least, most) (omega arith);
      }

  module _ {node depth passed : ℕ} (s : Placing h l k node depth passed) where
    pub placing_within : node ≤ h.g
    placing_within = within w (take depth k) s.reaches

    -- at the end of the key
    module _ (ended : length k ≤ depth) (long : h.min ≤ length k) {v : ℕ}
        (own : v ≡ own_value h (table_of h l) node depth) where
      answers : answer (table_of h l) k ≡ v
      answers =
          answer_complete (table_of h l) k
          (ap (descend (table_of h l) 0) (sym (take_all depth k ended)) ∙ s.reaches)
          ∙ sym (own ∙ own_data h (table_of h l) node depth (omega arith))

      pub placing_missing : v ≡ 0 → None ≡ ranked_of l k
      placing_missing empty = missing (answers ∙ empty)

      pub placing_end : v ≢ 0 → Some passed ≡ ranked_of l k
      placing_end full =
          let end : depth ≡ length k = omega (arith, s.short) in
          let none_left : drop depth k ≡ [] = ap (λ (d : ℕ). drop d k) end ∙ drop-length k in
          let none_before : rank_in (held h l node depth) (drop depth k) ≡ 0 =
          ap (rank_in (held h l node depth)) none_left ∙ rank_nil (held h l node depth) in
          there (λ z. full (sym answers ∙ z)) (omega (arith, s.same, none_before))

    -- before the end, with the letters x and xs left
    module _ {x : ℕ} {xs : List ℕ} (next : drop depth k ≡ x ∷ xs) {c : ℕ}
        (link : c ≡ (table_of h l).child node x) where
      -- an empty link
      pub placing_stop : c ≡ 0 → None ≡ ranked_of l k
      placing_stop empty =
          missing
          (answer_stopped (table_of h l) k
          (ap (descend (table_of h l) 0)
          (sym (take-append-drop depth k) ∙ ap (take depth k ++◌) next)
          ∙ descend_append (table_of h l) 0 (take depth k) (x ∷ xs) s.reaches
          ∙ descend_empty (table_of h l) node x xs (sym link ∙ empty)))

      module _ (allowed : length k ≤ h.max) (low : x < h.n) where
        further : depth < length k
        further = omega (arith, length-drop depth k, ap length next)

        pub placing_deep : depth < h.max
        placing_deep = omega (arith, further)

        pub placing_below : ChildCounts h l node depth counts
        placing_below = below w (take depth k) depth s.reaches
            (length-take-le depth k s.short) placing_deep

        parts : passed + (owned h l node depth
            + (under_lower h l node depth x + rank_in (under_letter h l node depth x) xs))
            ≡ rank_in (listing (table_of h l) h.n h.min h.max) k
        parts =
            ap (passed +◌)
            (sym
            (ap₂ rank_in (under_split (table_of h l) h.n (h.min - depth) (h.max - depth) node)
            next
            ∙ rank_append (own_key (table_of h l) (h.min - depth) node) (onward h l node depth 0)
            (x ∷ xs)
            ∙ ap₂ ◌+◌ (rank_own (table_of h l) (h.min - depth) node x xs)
            (rank_letters h l node depth placing_deep x xs low)))
            ∙ s.same

        few : rank_in (listing (table_of h l) h.n h.min h.max) k < 2 ^ 32
        few = omega (arith, rank_few (listing (table_of h l) h.n h.min h.max) k, w.few)

        pub placing_own : passed + owned h l node depth < 2 ^ 32
        placing_own = omega (arith, parts, few)

        module _ {behind : ℕ} (own : behind ≡ passed + owned h l node depth) where
          pub placing_room : RankFits h l node depth x behind
          placing_room = omega (arith, parts, few, own)

          pub placing_on : c ≢ 0 → {sum : ℕ} → sum ≡ behind + under_lower h l node depth x
              → Placing h l k c (depth + 1) sum
          placing_on full {sum} e =
              let linked : (table_of h l).child node x ≢ 0 = λ z. full (link ∙ z) in
              let longer : take (suc depth) k ≡ take depth k ++ (x ∷ []) =
              ap (λ (d : ℕ). take d k) (sym (add-one depth)) ∙ take-add depth 1 k
              ∙ ap (λ (m : List ℕ). take depth k ++ take 1 m) next in
              let rest : drop (suc depth) k ≡ xs =
              ap (λ (d : ℕ). drop d k) (sym (add-one depth)) ∙ sym (drop-drop 1 depth k)
              ∙ ap (drop 1) next in
              let keys : held h l c (suc depth) ≡ under_letter h l node depth x =
              ap (λ (q : ℕ). held h l q (suc depth)) link ∙ sym (by_child h l node depth x linked)
              in
              let same : rank_in (held h l c (suc depth)) (drop (suc depth) k)
              ≡ rank_in (under_letter h l node depth x) xs = ap₂ rank_in keys rest in
              rw (add-one depth)
              (record {
                reaches = ap (descend (table_of h l) 0) longer ∙ one_more w (take depth k) x
                    s.reaches link full;
                short = further;
                same = omega (arith, parts, own, e, same);
              })
