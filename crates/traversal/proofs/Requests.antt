-- Which keys of the listing meet a request. The key given is followed to its end or to an empty
-- link. The keys that meet the request are those still to come from there. If the key ends there
-- and is stored, it meets the request "at or after" too.
use Prim.Native.Nat.{ℕ, suc, ◌+◌, ◌<◌, ◌≤◌}
use native.Mathlib.Numerals.{add-one}
use native.Mathlib.Omega.{arith}
use mathlib.Core.Bool.{Bool, true, false}
use mathlib.Core.List.{List, ◌∷◌, ◌++◌}
use mathlib.Core.Logic.{◌≢◌}
use mathlib.Core.Path.{◌≡◌, sym, ◌∙◌, ap, subst}
use Rattle.std.specs.Prelude.{Some}
use lib.ListN.{length, get_or, take, drop}
use lib.Seq.{take_all, split_at, length-take-le}
use Rattle.trie.specs.Table.{LettersBelow, complete, descend}
use Rattle.trie.specs.Beyond.{beyond, first_of}
use Rattle.trie.proofs.Beyond.{meets_after_path, meets_at_none, meets_at_own, meets_stopped}
use Rattle.head.specs.declared.Head.{Head}
use Rattle.node.specs.Image.{table_of}
use Rattle.depths.specs.Depths.{own_value}
use Rattle.traversal.specs.Search.{coming, Along, Followed, next_stored}
use Rattle.traversal.specs.Search.{SearchTells}
use Rattle.depths.proofs.Links.{own_empty, own_long, own_data}
use Rattle.traversal.proofs.Searching.{told_same, told_here}

-- at the end of a path
module _ (h : Head) (l path nodes : List ℕ) {depth : ℕ} (deep : depth ≤ h.max)
    (size : length (take depth path) ≡ depth) (along : Along h l depth path nodes) where
  pub after_path : next_stored h l true (take depth path) ≡ first_of (coming h l path depth 0)
  unfolding coming
  after_path =
      meets_after_path (table_of h l) h.n h.min h.max 0 (take depth path)
      (along.ends depth (omega arith)) along.letters (omega (arith, size))

  -- v is the value of the key that ends there
  module _ {v : ℕ} (value : v ≡ own_value h (table_of h l) (get_or nodes depth 0) depth) where
    at_none : v ≡ 0 → next_stored h l false (take depth path) ≡ first_of (coming h l path depth 0)
    unfolding coming
    at_none empty =
        meets_at_none (table_of h l) h.n h.min h.max 0 (take depth path)
        (along.ends depth (omega arith)) along.letters (omega (arith, size))
        (rw size (own_empty h (table_of h l) (get_or nodes depth 0) depth (sym value ∙ empty)))

    at_own : v ≢ 0 → SearchTells h l (next_stored h l false (take depth path))
        (Some (record { length = depth; value = v })) path nodes
    at_own full =
        let some_value : own_value h (table_of h l) (get_or nodes depth 0) depth ≢ 0 =
        λ z. full (value ∙ z) in
        let long = own_long h (table_of h l) (get_or nodes depth 0) depth some_value in
        told_here h l deep size along value full
        (meets_at_own (table_of h l) h.n h.min h.max 0 (take depth path)
        (along.ends depth (omega arith)) along.letters (omega (arith, size))
        (omega (arith, size)) (λ z. some_value
        (own_data h (table_of h l) (get_or nodes depth 0) depth long ∙ z)))

-- key k was followed to this depth
module _ {h : Head} {l k path nodes : List ℕ} {depth : ℕ} (f : Followed h l k path nodes depth)
    (deep : length k ≤ h.max) where
  -- the next letter of the key meets an empty link
  pub stopped_key : (after : Bool) → LettersBelow h.n k → depth < length k
      → next_stored h l after k ≡ first_of (coming h l path depth (get_or k depth 0 + 1))
  unfolding coming
  stopped_key after letters low =
      rw (add-one (get_or k depth 0))
      (ap (next_stored h l after) parts
      ∙ meets_stopped (table_of h l) h.n after h.min h.max 0 (take depth k)
      (get_or k depth 0) (drop (suc depth) k) reaches (f.stops low)
      (subst (LettersBelow h.n) parts letters) (rw (← parts) deep)
      ∙ ap (λ (m : List ℕ). first_of
      (beyond (table_of h l) h.n h.min h.max 0 m (suc (get_or k depth 0))))
      (sym f.letters))
    where
      parts : k ≡ take depth k ++ (get_or k depth 0 ∷ drop (suc depth) k)
      parts = split_at k depth 0 low

      reaches : descend (table_of h l) 0 (take depth k) ≡ complete (get_or nodes depth 0)
      reaches =
          ap (descend (table_of h l) 0) (sym f.letters) ∙ f.along.ends depth (omega arith)

  -- the key ends with the path
  module _ (whole : length k ≤ depth) where
    same : take depth path ≡ k
    same = f.letters ∙ take_all depth k whole

    within : depth ≤ h.max
    within = omega (arith, f.short)

    size : length (take depth path) ≡ depth
    size = ap length f.letters ∙ length-take-le depth k f.short

    pub after_key : next_stored h l true k ≡ first_of (coming h l path depth 0)
    after_key =
        ap (next_stored h l true) (sym same) ∙ after_path h l path nodes within size f.along

    module _ {v : ℕ} (value : v ≡ own_value h (table_of h l) (get_or nodes depth 0) depth) where
      pub at_key_none : v ≡ 0 → next_stored h l false k ≡ first_of (coming h l path depth 0)
      at_key_none empty = ap (next_stored h l false) (sym same)
          ∙ at_none h l path nodes within size f.along value empty

      pub at_key_own : v ≢ 0 → SearchTells h l (next_stored h l false k)
          (Some (record { length = depth; value = v })) path nodes
      at_key_own full = told_same h l (ap (next_stored h l false) (sym same))
          (at_own h l path nodes within size f.along value full)
