-- The writes of a store as they are noted. The write of a new node is as long as a node and
-- begins where the one before it ends, so the entries of the new nodes follow from their number.
-- At each turn the entries that are left give the list that all entries together give.
use Prim.Native.Nat.{ℕ, zero, suc, ◌+◌, ◌-◌, ◌*◌, ◌<◌}
use mathlib.Core.Path.{◌≡◌, refl, sym, ◌∙◌, ap}
use mathlib.Core.Logic.{◌≢◌}
use mathlib.Core.List.{List, [], ◌∷◌, ◌++◌}
use native.Mathlib.Nat.{add-mul}
use native.Mathlib.Numerals.{add-one}
use native.Mathlib.Omega.{arith}
use lib.ListN.{length, drop}
use lib.Seq.{sets}
use Rattle.field.proofs.Field.{length_digits}
use Rattle.trie.specs.Table.{LettersBelow, missing}
use Rattle.trie.specs.Storing.{added}
use Rattle.head.specs.declared.Head.{Head}
use Rattle.head.specs.Fields.{total_len, node_width, node_place, used_len}
use Rattle.head.proofs.Places.{place_add}
use Rattle.node.specs.Image.{link_place, data_place}
use Rattle.node.specs.Writes.{Write, noted, new_nodes, total_write, link_write, data_write}
use Rattle.node.specs.Writes.{store_writes}
use Rattle.node.proofs.WholeNodes.{length_path, length_last, nodes_count}
use Rattle.walk.specs.declared.Position.{Position}
use Rattle.walk.specs.declared.Walked.{Walked}
use Rattle.storing.specs.StoreStage.{end_of, stopped_at}
use Rattle.noting.specs.Noting.{Notes}

-- ---- the writes of a new path

-- the entries of this many nodes of one width, the first at this place
pub nodes_at : ℕ → ℕ → ℕ → List ℕ
nodes_at place width zero = []
nodes_at place width (suc k) = place ∷ width ∷ nodes_at (place + width) width k

module _ (h : Head) (v : ℕ) (ws : List Write) where
  nodes_noted : (q : ℕ) (ys : List ℕ) → LettersBelow h.n ys
      → noted (new_nodes h q ys v ++ ws)
      ≡ nodes_at (node_place h q) (node_width h) (suc (length ys))
      ++ noted ws
  unfolding noted new_nodes nodes_at
  nodes_noted q [] s = ap (λ (w : ℕ). node_place h q ∷ w ∷ noted ws) (length_last h v)
  nodes_noted q (y ∷ ys) s =
      let next : node_place h (suc q) ≡ node_place h q + node_width h =
      ap (node_place h) (sym (add-one q)) ∙ omega (arith, place_add h q 1) in
      rw (length_path h y (suc q) s.0, nodes_noted (suc q) ys s.1, next)

-- as many nodes are missing as letters are left; after the nodes come G and the link
pub notes_path : (h : Head) (q x : ℕ) (xs list : List ℕ) {left list' : List ℕ}
    {r nodes from width place : ℕ} → left ≡ x ∷ xs
    → LettersBelow h.n left → nodes ≡ length left → from ≡ used_len h → width ≡ node_width h
    → place ≡ link_place h q x → r ≡ nodes + 2
    → list' ≡ sets list 0 (nodes_at from width nodes ++ (0 ∷ 4 ∷ place ∷ h.a ∷ [])) → (v : ℕ)
    → Notes h (stopped_at q left) (suc v) list r list'
unfolding stopped_at store_writes total_write link_write noted used_len
notes_path h q x xs list {nodes = nodes} e s n used wide place r w v =
    let total : ℕ = h.g + suc (length xs) in
    let ws : List Write = total_write total ∷ link_write h q x (suc h.g) ∷ [] in
    let below : LettersBelow h.n xs = (rw e at s).1 in
    let k : nodes ≡ suc (length xs) = rw e at n in
    rw e
    (record {
      count = omega (arith, nodes_count h (suc h.g) xs (suc v) ws);
      entries =
          w
          ∙ rw (
            k,
            used,
            wide,
            place,
            add-one h.g,
            nodes_noted h (suc v) ws (suc h.g) xs below,
            length_digits total_len total,
            length_digits h.a (suc h.g),
          );
    })

-- ---- by how the walk ended

missing_all : (q : ℕ) (left : List ℕ) → missing (stopped_at q left) ≡ length left
unfolding stopped_at missing
missing_all q [] = refl
missing_all q (x ∷ xs) = refl

-- a node is missing for each letter left
pub missing_left : (k : List ℕ) (value : ℕ) {o : Walked} {p : Position} → o ≡ Walked.Stopped p
    → value ≢ 0
    → added (missing (end_of k o)) value ≡ length (drop p.depth k)
unfolding end_of added
missing_left k zero e z = absurd (z refl)
missing_left k (suc v) {p = p} e z = rw e (missing_all p.node (drop p.depth k))

module _ (h : Head) (k list : List ℕ) {o : Walked} where
  -- the data alone
  pub notes_data : (value : ℕ) {q place : ℕ} {list' : List ℕ} → o ≡ Walked.Complete q
      → place ≡ data_place h q
      → list' ≡ sets list 0 (place ∷ h.d ∷ []) → Notes h (end_of k o) value list 1 list'
  unfolding end_of store_writes data_write noted
  notes_data value {q} e p w =
      rw e (record { count = refl; entries = rw (length_digits h.d value, ← p) w })

  module _ {p : Position} (e : o ≡ Walked.Stopped p) where
    -- nothing for the value 0
    pub notes_none : (value x : ℕ) (xs : List ℕ) → value ≡ 0 → drop p.depth k ≡ x ∷ xs
        → Notes h (end_of k o) value list 0 list
    unfolding end_of stopped_at store_writes noted
    notes_none value x xs z left = rw (e, z, left) (record { count = refl; entries = refl })

    pub notes_value : (value : ℕ) {r : ℕ} {list' : List ℕ} → value ≢ 0
        → ((v : ℕ) → Notes h (stopped_at p.node (drop p.depth k)) (suc v) list r list')
        → Notes h (end_of k o) value list r list'
    unfolding end_of
    notes_value zero z all = absurd (z refl)
    notes_value (suc v) z all = rw e (all v)

-- ---- one after the other

-- The first i nodes are noted; before the first of them the list was list₀.
pub record Noting (nodes width from : ℕ) (list₀ list : List ℕ) (i place : ℕ) : Type 0 where
  pub here : place ≡ from + i * width
  pub rest : (more : List ℕ) → sets list (2 * i) (nodes_at place width (nodes - i) ++ more)
      ≡ sets list₀ 0 (nodes_at from width nodes ++ more)

module _ {nodes width from : ℕ} {list₀ list : List ℕ} {i place : ℕ}
    (w : Noting nodes width from list₀ list i place) where
  pub noting_on : {list' : List ℕ} → i < nodes → list' ≡ sets list (2 * i) (place ∷ width ∷ [])
      → Noting nodes width from list₀ list' (i + 1) (place + width)
  unfolding nodes_at
  noting_on b e =
      let left : nodes - i ≡ suc (nodes - (i + 1)) = omega arith in
      let on : 2 * (i + 1) ≡ suc (suc (2 * i)) = omega arith in
      record {
        here = omega (arith, w.here, add-mul i 1 width);
        rest = λ more. rw (e, on) (rw left at (w.rest more));
      }

  pub noting_end : (p m q n : ℕ) {list₁ list₂ : List ℕ} → i ≡ nodes
      → list₁ ≡ sets list (2 * nodes) (p ∷ m ∷ [])
      → list₂ ≡ sets list₁ (2 * (nodes + 1)) (q ∷ n ∷ [])
      → list₂ ≡ sets list₀ 0 (nodes_at from width nodes ++ (p ∷ m ∷ q ∷ n ∷ []))
  unfolding nodes_at
  noting_end p m q n all e f =
      let none : nodes - i ≡ 0 = omega arith in
      let on : 2 * (nodes + 1) ≡ suc (suc (2 * nodes)) = omega arith in
      f ∙ rw (e, on) (rw (none, all) at (w.rest (p ∷ m ∷ q ∷ n ∷ [])))
