-- The bytes that a store leaves as they were. A write changes its own bytes and no other. The
-- bytes of a new node are inside the node: it is cleared, and one number is written into it.
use mathlib.Core.Path.{◌≡◌, refl, sym, ap, ◌∙◌}
use mathlib.Core.Logic.{◌⊎◌, inl, inr}
use Prim.Native.Nat.{ℕ, zero, suc, ◌+◌, ◌*◌, ◌≤◌, ◌<◌}
use native.Mathlib.Nat.{suc-mul}
use native.Mathlib.Numerals.{add-one}
use native.Mathlib.Decide.{dec_lt}
use native.Mathlib.Omega.{arith}
use mathlib.Core.List.{List, [], ◌∷◌}
use lib.ListN.{length, get_or, replicate, length-replicate}
use lib.Seq.{sets}
use Rattle.field.specs.Field.{digits, put_field, cleared}
use Rattle.field.proofs.Sets.{get_d_outside}
use Rattle.field.proofs.Field.{length_digits}
use Rattle.trie.specs.Table.{Descent, LettersBelow, complete, stopped, missing}
use Rattle.trie.specs.Storing.{added}
use Rattle.head.specs.declared.Head.{Head}
use Rattle.head.specs.Fields.{fields_len, total_at, total_len, put_total, node_width, node_place}
use Rattle.head.specs.Fields.{used_len}
use Rattle.head.proofs.Places.{place_add, place_least, used_le}
use Rattle.node.specs.Image.{link_place, data_place}
use Rattle.node.specs.Writes.{carried_out, path_node, new_nodes, total_write, link_write}
use Rattle.node.specs.Writes.{data_write, store_writes}
use Rattle.node.specs.Frame.{InBytes, Touched, data_of_key, node_total, one_link, new_nodes_lem}
use Rattle.node.proofs.FieldPlaces.{link_inside, data_inside, inside_least, inside_used}
use Rattle.node.proofs.FieldPlaces.{link_from}
use Rattle.node.proofs.Heads.{with_total, used_more}
use Rattle.node.proofs.WholeNodes.{path_node_lem, last_node_lem}
use Rattle.node.proofs.StoreOnTable.{carried_append}

-- where a key's walk can end: at one of the nodes, and the letters left are below N
abbrev pub EndsIn : Head → Descent → Type 0
EndsIn h (complete q) = q ≤ h.g
EndsIn h (stopped q x xs) = (q ≤ h.g) × LettersBelow h.n (x ∷ xs)

-- ---- a byte outside a write

beside : (l vs : List ℕ) (at p n : ℕ) → length vs ≡ n → ¬ InBytes at n p
    → get_or (sets l at vs) p 0
    ≡ get_or l p 0
beside l vs at p n e miss = get_d_outside l vs at p 0 (go (dec_lt p at) (dec_lt p (at + n)))
  where
    go : Dec (p < at) → Dec (p < at + n) → (p < at) ⊎ (at + length vs ≤ p)
    go (yes b) _ = inl b
    go (no b) (yes c) = absurd (miss (omega arith))
    go (no b) (no c) = inr (omega arith)

module _ (h : Head) (p : ℕ) where
  -- a number written inside a cleared node
  beside_node : (l : List ℕ) (q at w v : ℕ) → node_place h q ≤ at → at + w ≤ node_place h (q + 1)
      → ¬ InBytes (node_place h q) (node_width h) p
      → get_or (put_field (cleared l (node_place h q) (node_width h)) at w v) p 0 ≡ get_or l p 0
  beside_node l q at w v from to miss =
      beside (cleared l (node_place h q) (node_width h)) (digits w v) at p w (length_digits w v)
      (λ b. miss (omega (arith, place_add h q 1)))
      ∙ beside l (replicate (node_width h) 0) (node_place h q) p (node_width h)
      (length-replicate (node_width h) 0) miss

  beside_nodes : (l : List ℕ) (q : ℕ) (ys : List ℕ) (v : ℕ) → LettersBelow h.n ys
      → ¬ InBytes (node_place h q) (suc (length ys) * node_width h) p
      → get_or (carried_out l (new_nodes h q ys v)) p 0 ≡ get_or l p 0
  unfolding carried_out new_nodes
  beside_nodes l q [] v s miss =
      let i = data_inside h q in
      ap (λ (m : List ℕ). get_or m p 0) (last_node_lem h l q v)
      ∙ beside_node l q (data_place h q) h.d v i.from i.to
      (λ b. miss (omega (arith, suc-mul 0 (node_width h))))
  beside_nodes l q (y ∷ ys) v s miss =
      let i = link_inside h q s.0 in
      let w : suc (suc (length ys)) * node_width h
      ≡ suc (length ys) * node_width h + node_width h =
      suc-mul (suc (length ys)) (node_width h) in
      let n : node_place h (suc q) ≡ node_place h q + 1 * node_width h =
      ap (node_place h) (sym (add-one q)) ∙ place_add h q 1 in
      beside_nodes (sets l (node_place h q) (path_node h y (suc q))) (suc q) ys v s.1
      (λ b. miss (omega arith))
      ∙ ap (λ (m : List ℕ). get_or m p 0) (path_node_lem h l q y (suc q) s.0)
      ∙ beside_node l q (link_place h q y) h.a (suc q) i.from i.to
      (λ b. miss (omega arith))

-- ---- a store

-- "No other byte changes."
pub frame : (h : Head) (l : List ℕ) (d : Descent) (v p : ℕ) → EndsIn h d → ¬ Touched h d v p
    → get_or (carried_out l (store_writes h d v)) p 0 ≡ get_or l p 0
unfolding store_writes carried_out data_write total_write link_write used_len
frame h l (complete q) v p s miss = beside l (digits h.d v) (data_place h q) p h.d
    (length_digits h.d v) (λ b. miss (data_of_key b))
frame h l (stopped q x xs) zero p s miss = refl
frame h l (stopped q x xs) (suc v) p s miss =
    let m : List ℕ = carried_out l (new_nodes h (suc h.g) xs (suc v)) in
    let g : ℕ = h.g + suc (length xs) in
    ap (λ (r : List ℕ). get_or r p 0) (carried_append l (new_nodes h (suc h.g) xs (suc v)) _)
    ∙ beside (put_total m g) (digits h.a (suc h.g)) (link_place h q x) p h.a
    (length_digits h.a (suc h.g))
    (λ b. miss (one_link b))
    ∙ beside m (digits total_len g) total_at p total_len (length_digits total_len g)
    (λ b. miss (node_total b))
    ∙ beside_nodes h p l (suc h.g) xs (suc v) s.1.1
    (rw (← add-one h.g) (λ b. miss (new_nodes_lem b)))

-- no byte between G and the nodes is touched: the other fields of the head, and the alphabet
pub none_before : {h : Head} {d : Descent} {v p : ℕ} → total_at + total_len ≤ p → p < fields_len
    + h.f → ¬ Touched h d v p
none_before {h} low high (data_of_key {q} b) = omega (arith, inside_least (data_inside h q))
none_before {h} low high (node_total b) = omega arith
none_before {h} low high (one_link {q} {x} b) = omega (arith, link_from h q x, place_least h q)
none_before {h} low high (new_nodes_lem b) = omega
    (arith, used_le h 0 (omega arith), place_least h 0)

-- nor is a byte from the new used length on
none_after : {h : Head} {d : Descent} {v p : ℕ} → EndsIn h d
    → used_len (with_total h (h.g + added (missing d) v)) ≤ p → ¬ Touched h d v p
unfolding added missing
none_after {h} s high (data_of_key {q} {v} b) =
    omega (arith, inside_used (data_inside h q) s, used_more h (added 0 v))
none_after {h} s high (node_total {xs = xs} b) =
    omega (arith, used_more h (suc (length xs)), used_le h 0 (omega arith), place_least h 0)
none_after {h} s high (one_link {q} {x} {xs} b) =
    omega (arith, used_more h (suc (length xs)), inside_used (link_inside h q s.1.0) s.0)
none_after {h} s high (new_nodes_lem {xs = xs} b) = omega (arith, used_more h (suc (length xs)))

-- "bytes from U on are spare": they stay as they were
pub spare : (h : Head) (l : List ℕ) (d : Descent) (v p : ℕ) → EndsIn h d
    → used_len (with_total h (h.g + added (missing d) v)) ≤ p
    → get_or (carried_out l (store_writes h d v)) p 0 ≡ get_or l p 0
spare h l d v p s high = frame h l d v p s (none_after s high)
