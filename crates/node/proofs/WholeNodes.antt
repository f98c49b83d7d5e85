-- Whole nodes. A node whose bytes are all 0 has no link and no data, so one more such node
-- leaves the table the same. The bytes of a new node are zeros with one number among them, so
-- clearing the node and writing the number gives the same bytes.
use mathlib.Core.Path.{◌≡◌, sym, ap, ◌∙◌, subst}
use mathlib.Core.Logic.{inl}
use Prim.Native.Nat.{ℕ, suc, ◌+◌, ◌-◌, ◌*◌, ◌≤◌, ◌<◌}
use native.Mathlib.Nat.{add-zero, add-mul, suc-mul}
use native.Mathlib.Decide.{ℕ_discrete, dec_le, dec_lt}
use native.Mathlib.Omega.{arith}
use mathlib.Core.List.{List, [], ◌∷◌, ◌++◌, append-nil}
use lib.ListN.{length, get_or, replicate, length-append, length-replicate, get_or-replicate}
use lib.ListN.{replicate-append-replicate}
use lib.Seq.{sets}
use Rattle.field.specs.Field.{Zeros, digits, put_field, cleared}
use Rattle.field.proofs.Sets.{get_d_inside, sets_append, sets_comm, sets_over}
use Rattle.field.proofs.Field.{field_blank, length_digits}
use Rattle.head.specs.declared.Head.{Head}
use Rattle.head.specs.Fields.{node_width, node_place}
use Rattle.head.proofs.Places.{place_add}
use Rattle.node.specs.Image.{link_place, data_place, table_of}
use Rattle.node.specs.Writes.{Write, last_node, path_node, new_nodes}
use Rattle.node.proofs.FieldPlaces.{link_from, link_to, data_from, data_inside}
use Rattle.node.proofs.Tables.{table_eq, child_in, value_in, framed}
use Rattle.node.proofs.Heads.{with_total, child_kept, value_kept}

-- ---- a node of zeros

abbrev pub Blank : Head → List ℕ → ℕ → Type 0
Blank h l q = Zeros l (node_place h q) (node_place h q + node_width h)

-- links whose bytes are 0 are empty
pub blank_links : (h : Head) (l : List ℕ) (q : ℕ) → Zeros l (node_place h q) (data_place h q)
    → (i : ℕ) → (table_of h l).child q i ≡ 0
blank_links h l q z i = go (dec_le q h.g) (dec_lt i h.n)
  where
    go : Dec (q ≤ h.g) → Dec (i < h.n) → (table_of h l).child q i ≡ 0
    go (yes b) (yes c) = child_in h l q i b c ∙ field_blank l (node_place h q) (data_place h q)
        (link_place h q i) h.a z (link_from h q i) (link_to h q c)
    go (yes b) (no c) = (framed h l).no_letter q i (omega arith)
    go (no b) c = (framed h l).no_node q i (omega arith)

module _ (h : Head) (l : List ℕ) (q : ℕ) (z : Blank h l q) where
  pub blank_child : (i : ℕ) → (table_of h l).child q i ≡ 0
  blank_child =
      blank_links h l q (λ k low high. z k low (omega (arith, data_inside h q, place_add h q 1)))

  pub blank_value : (table_of h l).value q ≡ 0
  blank_value = go (dec_le q h.g)
    where
      go : Dec (q ≤ h.g) → (table_of h l).value q ≡ 0
      go (yes b) =
          value_in h l q b
          ∙ field_blank l (node_place h q) (node_place h q + node_width h) (data_place h q) h.d z
          (data_from h q) (omega (arith, data_inside h q, place_add h q 1))
      go (no b) = (framed h l).no_data q (omega arith)

pub blank_cleared : (h : Head) (l : List ℕ) (q : ℕ) → node_place h q + node_width h ≤ length l
    → Blank h (cleared l (node_place h q) (node_width h)) q
blank_cleared h l q r k low high =
    let j : node_place h q + (k - node_place h q) ≡ k = omega arith in
    let n : length {A = ℕ} (replicate (node_width h) 0) ≡ node_width h =
    length-replicate (node_width h) 0 in
    subst (λ (p : ℕ). get_or (cleared l (node_place h q) (node_width h)) p 0 ≡ 0) j
    (get_d_inside l (replicate (node_width h) 0) (node_place h q) (k - node_place h q) 0
    (omega arith)
    (omega arith)
    ∙ get_or-replicate (node_width h) (k - node_place h q) 0 0 (omega arith))

-- one more node, whose bytes are all 0
pub table_blank : (h : Head) (l : List ℕ) (g : ℕ) → Blank h l (suc g)
    → table_of (with_total h (suc g)) l ≡ table_of (with_total h g) l
unfolding node_width node_place
table_blank h l g z =
    table_eq (table_of more l) (table_of less l)
    (λ p i. child p i (ℕ_discrete p (suc g)) (dec_le p g))
    (λ p. value p (ℕ_discrete p (suc g)) (dec_le p g))
  where
    more : Head
    more = with_total h (suc g)

    less : Head
    less = with_total h g

    child : (p i : ℕ) → Dec (p ≡ suc g) → Dec (p ≤ g) → (table_of more l).child p i
        ≡ (table_of less l).child p i
    child p i d (yes b) = child_kept less l (suc g) p b (omega arith) i
    child p i (yes e) (no b) =
        rw e (blank_child more l (suc g) z i
        ∙ sym ((framed less l).no_node (suc g) i (omega arith)))
    child p i (no e) (no b) =
        (framed more l).no_node p i (omega arith) ∙ sym ((framed less l).no_node p i (omega arith))

    value : (p : ℕ) → Dec (p ≡ suc g) → Dec (p ≤ g) → (table_of more l).value p
        ≡ (table_of less l).value p
    value p d (yes b) = value_kept less l (suc g) p b (omega arith)
    value p (yes e) (no b) =
        rw e (blank_value more l (suc g) z ∙ sym ((framed less l).no_data (suc g) (omega arith)))
    value p (no e) (no b) =
        (framed more l).no_data p (omega arith) ∙ sym ((framed less l).no_data p (omega arith))

-- ---- the bytes of a new node

-- a list written in three parts, whose second part is then replaced
sets_among : (l a b c d : List ℕ) (at : ℕ) → length b ≡ length d → sets l at (a ++ (d ++ c))
    ≡ sets (sets l at (a ++ (b ++ c))) (at + length a) d
sets_among l a b c d at e =
    three d
    ∙ sym
    (ap (λ (r : List ℕ). sets r p d) (three b)
    ∙ sets_comm (sets x p b) c d (p + length b) p (inl (omega arith))
    ∙ ap (λ (r : List ℕ). sets r (p + length b) c) (sets_over x b d p e)
    ∙ ap (λ (n : ℕ). sets (sets x p d) (p + n) c) e)
  where
    x : List ℕ
    x = sets l at a

    p : ℕ
    p = at + length a

    three : (m : List ℕ) → sets l at (a ++ (m ++ c)) ≡ sets (sets x p m) (p + length m) c
    three m = sets_append l at a (m ++ c) ∙ sets_append x p m c

-- a number among zeros
zeros_with : (l : List ℕ) (at k w r v : ℕ)
    → sets l at (replicate k 0 ++ (digits w v ++ replicate r 0))
    ≡ put_field (cleared l at (k + (w + r))) (at + k) w v
zeros_with l at k w r v =
    sets_among l (replicate k 0) (replicate w 0) (replicate r 0) (digits w v) at
    (length-replicate w 0 ∙ sym (length_digits w v))
    ∙ rw (
      replicate-append-replicate {A = ℕ} w r 0,
      replicate-append-replicate {A = ℕ} k (w + r) 0,
      length-replicate {A = ℕ} k 0,
    )

pub path_node_lem : (h : Head) (l : List ℕ) (q y c : ℕ) → y < h.n
    → sets l (node_place h q) (path_node h y c)
    ≡ put_field (cleared l (node_place h q) (node_width h))
    (link_place h q y) h.a c
unfolding path_node link_place
path_node_lem h l q y c b =
    let r : ℕ = h.n - suc y in
    let n : suc y + r ≡ h.n = omega arith in
    let e : y * h.a + (h.a + (r * h.a + h.d)) ≡ h.n * h.a + h.d =
    omega (arith, ap (λ (k : ℕ). k * h.a) n, add-mul (suc y) r h.a, suc-mul y h.a) in
    zeros_with l (node_place h q) (y * h.a) h.a (r * h.a + h.d) c
    ∙ ap (λ (k : ℕ). put_field (cleared l (node_place h q) k) (link_place h q y) h.a c) e

pub last_node_lem : (h : Head) (l : List ℕ) (q v : ℕ)
    → sets l (node_place h q) (last_node h v)
    ≡ put_field (cleared l (node_place h q) (node_width h))
    (data_place h q) h.d v
unfolding last_node data_place
last_node_lem h l q v =
    ap (λ (r : List ℕ). sets l (node_place h q) (replicate (h.n * h.a) 0 ++ r))
    (sym (append-nil (digits h.d v)))
    ∙ zeros_with l (node_place h q) (h.n * h.a) h.d 0 v
    ∙ rw (add-zero h.d)

-- each of them is as long as a node
pub length_path : (h : Head) (y c : ℕ) → y < h.n → length (path_node h y c) ≡ node_width h
unfolding path_node node_width
length_path h y c b =
    let r : ℕ = h.n - suc y in
    let n : suc y + r ≡ h.n = omega arith in
    simp (length-append, length-replicate, length_digits)
    (omega (arith, ap (λ (k : ℕ). k * h.a) n, add-mul (suc y) r h.a, suc-mul y h.a))

pub length_last : (h : Head) (v : ℕ) → length (last_node h v) ≡ node_width h
unfolding last_node node_width
length_last h v = simp (length-append, length-replicate, length_digits)

-- a new node for each letter and one more, then further writes
pub nodes_count : (h : Head) (q : ℕ) (ys : List ℕ) (v : ℕ) (ws : List Write)
    → length (new_nodes h q ys v ++ ws) ≡ suc (length ys) + length ws
unfolding new_nodes
nodes_count h q [] v ws = omega arith
nodes_count h q (y ∷ ys) v ws = omega (arith, nodes_count h (suc q) ys v ws)
