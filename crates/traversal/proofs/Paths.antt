-- A path and its nodes, letter by letter. Only the first letters and nodes count. So what is
-- written after them changes nothing (`PathKept`), and one letter more is one link more.
use Prim.Native.Nat.{ℕ, suc, ◌+◌, ◌<◌, ◌≤◌}
use native.Mathlib.Decide.{ℕ_discrete, dec_le}
use native.Mathlib.Numerals.{add-one}
use native.Mathlib.Omega.{arith}
use mathlib.Core.List.{List, [], ◌∷◌, ◌++◌}
use mathlib.Core.Logic.{◌≢◌}
use mathlib.Core.Path.{◌≡◌, refl, sym, ◌∙◌, ap, subst}
use lib.ListN.{length, get_or, take, drop, set, take-append-drop}
use lib.Seq.{take-suc, take-take, take-set-le, take-suc-set, get_or-take, get_or-set_same}
use Rattle.trie.specs.Table.{complete, descend, LettersBelow}
use Rattle.trie.specs.Rules.{Within}
use Rattle.trie.proofs.LettersBelow.{letters_before}
use Rattle.trie.proofs.Walk.{descend_nil, descend_empty, descend_on, descend_append}
use Rattle.trie.proofs.Walk.{complete_within}
use Rattle.head.specs.declared.Head.{Head}
use Rattle.node.specs.Image.{table_of}
use Rattle.traversal.specs.Search.{PathRoom, Along, PathKept}

letters_take : (n j : ℕ) (k : List ℕ) → LettersBelow n k → LettersBelow n (take j k)
letters_take n j k l = letters_before n (take j k) (drop j k) (rw (take-append-drop j k) l)

letters_more : (n : ℕ) (k : List ℕ) (x : ℕ) → LettersBelow n k → x < n
    → LettersBelow n (k ++ (x ∷ []))
letters_more n [] x l b = (b, tt)
letters_more n (y ∷ k) x l b = (l.0, letters_more n k x l.1 b)

-- lists with the same first n elements have the same first m
fewer : (m n : ℕ) (k l : List ℕ) → m ≤ n → take n k ≡ take n l → take m k ≡ take m l
fewer m n k l b e = sym (take-take m n k b) ∙ ap (take m) e ∙ take-take m n l b

alike_at : (n i : ℕ) (k l : List ℕ) → i < n → take n k ≡ take n l → get_or k i 0 ≡ get_or l i 0
alike_at n i k l b e =
    sym (get_or-take n k i 0 b) ∙ ap (λ (m : List ℕ). get_or m i 0) e ∙ get_or-take n l i 0 b

-- ---- what is kept

pub room_kept : {h : Head} {path₀ nodes₀ path nodes : List ℕ} → PathRoom h path₀ nodes₀
    → length path ≡ length path₀ → length nodes ≡ length nodes₀
    → PathRoom h path nodes
room_kept r e f = record { letters = rw e r.letters; ends = rw f r.ends }

pub kept_all : (depth : ℕ) (path nodes : List ℕ) → PathKept depth path nodes path nodes
kept_all depth path nodes = record { letters = refl; ends = refl }

-- one letter and its node are written at the end
pub kept_set : {depth : ℕ} {path₀ nodes₀ path nodes : List ℕ} (x c : ℕ)
    → PathKept depth path₀ nodes₀ path nodes
    → PathKept depth path₀ nodes₀ (set path depth x) (set nodes (depth + 1) c)
kept_set {depth} {path = path} {nodes} x c k =
    record {
      letters = take-set-le depth path depth x (omega arith) ∙ k.letters;
      ends = take-set-le (suc depth) nodes (depth + 1) c (omega arith) ∙ k.ends;
    }

-- and a search after that letter keeps the path
pub kept_below : {depth : ℕ} {path₀ nodes₀ path nodes path₁ nodes₁ : List ℕ}
    → PathKept depth path₀ nodes₀ path nodes
    → PathKept (depth + 1) path nodes path₁ nodes₁
    → PathKept depth path₀ nodes₀ path₁ nodes₁
kept_below {depth} {path = path} {nodes} {path₁} {nodes₁} k m =
    record {
      letters = fewer depth (depth + 1) path₁ path (omega arith) m.letters ∙ k.letters;
      ends = fewer (suc depth) (suc (depth + 1)) nodes₁ nodes (omega arith) m.ends ∙ k.ends;
    }

-- the letters and nodes up to the depth, and the node at it
pub kept_front : {depth : ℕ} {path₀ nodes₀ path nodes : List ℕ} (j : ℕ)
    → PathKept depth path₀ nodes₀ path nodes → j ≤ depth → take j path ≡ take j path₀
kept_front {depth} {path₀} {path = path} j k b = fewer j depth path path₀ b k.letters

pub kept_letter : {depth : ℕ} {path₀ nodes₀ path nodes : List ℕ} (j : ℕ)
    → PathKept depth path₀ nodes₀ path nodes → j < depth → get_or path j 0 ≡ get_or path₀ j 0
kept_letter {depth} {path₀} {path = path} j k b = alike_at depth j path path₀ b k.letters

pub kept_end : {depth : ℕ} {path₀ nodes₀ path nodes : List ℕ}
    → PathKept depth path₀ nodes₀ path nodes → get_or nodes depth 0 ≡ get_or nodes₀ depth 0
kept_end {depth} {nodes₀ = nodes₀} {nodes = nodes} k =
    alike_at (suc depth) depth nodes nodes₀ (omega arith) k.ends

module _ (h : Head) (l : List ℕ) where
  -- ---- along a path

  pub along_none : (path nodes : List ℕ) → get_or nodes 0 0 ≡ 0 → Along h l 0 path nodes
  along_none path nodes e =
      record {
        letters = tt;
        ends = λ j b.
            let z : j ≡ 0 = omega arith in
            rw z (descend_nil (table_of h l) 0 ∙ ap complete (sym e));
      }

  pub along_root : {depth : ℕ} {path nodes : List ℕ} → Along h l depth path nodes
      → get_or nodes 0 0
      ≡ 0
  along_root a = cc (a.ends 0 (omega arith), descend_nil (table_of h l) 0)

  pub along_kept : {depth : ℕ} {path₀ nodes₀ path nodes : List ℕ} → Along h l depth path₀ nodes₀
      → PathKept depth path₀ nodes₀ path nodes
      → Along h l depth path nodes
  along_kept {depth} {path₀} {nodes₀} {path} {nodes} a k =
      record {
        letters = subst (LettersBelow h.n) (sym k.letters) a.letters;
        ends = λ j b.
            ap (descend (table_of h l) 0) (kept_front j k b)
            ∙ a.ends j b
            ∙ ap complete (sym (alike_at (suc depth) j nodes nodes₀ (omega arith) k.ends));
      }

  -- one link more
  pub along_more : {depth i c : ℕ} {path nodes : List ℕ} → Along h l depth path nodes
      → depth < length path → depth + 1 < length nodes → i < h.n
      → c ≡ (table_of h l).child (get_or nodes depth 0) i → c ≢ 0
      → Along h l (depth + 1) (set path depth i) (set nodes (depth + 1) c)
  along_more {depth} {i} {c} {path} {nodes} a room ends low e full =
      record {
        letters =
            rw (add-one depth, longer) (letters_more h.n (take depth path) i a.letters low);
        ends = λ j b. go j b (dec_le j depth);
      }
    where
      longer : take (suc depth) (set path depth i) ≡ take depth path ++ (i ∷ [])
      longer = take-suc-set path depth i room

      link : (table_of h l).child (get_or nodes depth 0) i ≢ 0
      link z = full (e ∙ z)

      last : descend (table_of h l) 0 (take (suc depth) (set path depth i)) ≡ complete c
      last =
          ap (descend (table_of h l) 0) longer
          ∙ descend_append (table_of h l) 0 (take depth path) (i ∷ []) (a.ends depth (omega arith))
          ∙ descend_on (table_of h l) (get_or nodes depth 0) i [] link
          ∙ descend_nil (table_of h l) ((table_of h l).child (get_or nodes depth 0) i)
          ∙ ap complete (sym e)

      go : (j : ℕ) → j ≤ depth + 1 → Dec (j ≤ depth)
          → descend (table_of h l) 0 (take j (set path depth i))
          ≡ complete (get_or (set nodes (depth + 1) c) j 0)
      go j b (yes d) = (along_kept a (kept_set i c (kept_all depth path nodes))).ends j d
      go j b (no d) =
          let z : j ≡ suc depth = omega arith in
          rw (z, add-one depth) (last ∙ ap complete
          (sym (get_or-set_same nodes (suc depth) c 0 (rw (add-one depth) at ends))))

  -- the last link of a path, and the path before it
  pub along_less : {depth : ℕ} {path nodes : List ℕ} → Along h l (suc depth) path nodes
      → Along h l depth path nodes
  along_less {depth} {path} a =
      record {
        letters = rw (← take-take depth (suc depth) path (omega arith))
            (letters_take h.n depth (take (suc depth) path) a.letters);
        ends = λ j b. a.ends j (omega arith);
      }

  pub along_last : {depth : ℕ} {path nodes : List ℕ} → Along h l (suc depth) path nodes
      → depth < length path
      → (table_of h l).child (get_or nodes depth 0) (get_or path depth 0)
      ≡ get_or nodes (suc depth) 0
  along_last {depth} {path} {nodes} a room = go (ℕ_discrete ((table_of h l).child q x) 0)
    where
      q : ℕ
      q = get_or nodes depth 0

      x : ℕ
      x = get_or path depth 0

      one : descend (table_of h l) q (x ∷ []) ≡ complete (get_or nodes (suc depth) 0)
      one =
          sym (descend_append (table_of h l) 0 (take depth path) (x ∷ [])
          (a.ends depth (omega arith)))
          ∙ ap (descend (table_of h l) 0) (sym (take-suc path depth 0 room))
          ∙ a.ends (suc depth) (omega arith)

      go : Dec ((table_of h l).child q x ≡ 0) → (table_of h l).child q x
          ≡ get_or nodes (suc depth) 0
      go (yes e) = let z : ◌≡◌ {A = ℕ} 0 1 = cc (one, descend_empty (table_of h l) q x [] e) in
          absurd (omega arith)
      go (no e) =
          cc (
            one,
            descend_on (table_of h l) q x [] e,
            descend_nil (table_of h l)
                ((table_of h l).child q x),
          )

  pub along_within : {depth : ℕ} {path nodes : List ℕ} → Within (table_of h l) h.g
      → Along h l depth path nodes → get_or nodes depth 0 ≤ h.g
  along_within {depth} {path} within a =
      complete_within (table_of h l) h.g (take depth path) within (a.ends depth (omega arith))
