-- A store's writes on the table. A new node is one more node of zeros, with a link or the data
-- written into it. So the new nodes are a path to which no link leads yet. The last write links
-- it; for the table, this write could also come first.
use mathlib.Core.Path.{◌≡◌, refl, sym, ap, ◌∙◌}
use mathlib.Core.Logic.{inr, ◌≢◌}
use mathlib.Core.Bool.{Bool, true, false, ◌&&◌, cond}
use Prim.Native.Nat.{ℕ, suc, ◌+◌, ◌^◌, ◌≤◌, ◌<◌}
use native.Mathlib.Numerals.{add-one}
use native.Mathlib.Omega.{arith}
use borrow.Author.Tests.{eqb-true}
use mathlib.Core.List.{List, [], ◌∷◌, ◌++◌}
use lib.Dec.{eqb}
use lib.ListN.{length, replicate}
use lib.Seq.{sets, length-sets}
use Rattle.field.specs.Field.{digits, cleared}
use Rattle.field.proofs.Range.{both}
use Rattle.trie.specs.Table.{Table, LettersBelow, complete, stopped}
use Rattle.trie.specs.Storing.{put, grow, grow_path, stored_by}
use Rattle.head.specs.declared.Head.{Head}
use Rattle.head.specs.Fields.{total_at, total_len, head_of, put_total, node_width, node_place}
use Rattle.head.specs.Fields.{used_len}
use Rattle.head.proofs.Places.{place_add, place_le, place_least}
use Rattle.head.proofs.Fields.{head_outside, length_total, head_total}
use Rattle.node.specs.Image.{link_place, data_place, table_of}
use Rattle.node.specs.Writes.{Write, carried_out, last_node, path_node, new_nodes, total_write}
use Rattle.node.specs.Writes.{link_write, data_write, store_writes}
use Rattle.node.proofs.FieldPlaces.{link_from}
use Rattle.node.proofs.Tables.{table_eq}
use Rattle.node.proofs.Writes.{table_outside, table_total, table_link, table_data}
use Rattle.node.proofs.Heads.{with_total, used_total}
use Rattle.node.proofs.WholeNodes.{blank_cleared, table_blank, path_node_lem, last_node_lem}

-- ---- writes done one after the other

pub length_carried : (l : List ℕ) (ws : List Write) → length (carried_out l ws) ≡ length l
unfolding carried_out
length_carried l [] = refl
length_carried l (w ∷ ws) =
    length_carried (sets l w.place w.bytes) ws ∙ length-sets l w.place w.bytes

pub carried_append : (l : List ℕ) (us ws : List Write) → carried_out l (us ++ ws)
    ≡ carried_out (carried_out l us) ws
unfolding carried_out
carried_append l [] ws = refl
carried_append l (u ∷ us) ws = carried_append (sets l u.place u.bytes) us ws

-- ---- one new node

module _ (h : Head) (l : List ℕ) (g : ℕ) (room : node_place h (suc (suc g)) ≤ length l) where
  cleared_room : used_len (with_total h (suc g))
      ≤ length (cleared l (node_place h (suc g)) (node_width h))
  cleared_room =
      omega (
        arith,
        used_total h (suc g),
        length-sets l (node_place h (suc g))
            (replicate (node_width h) 0),
      )

  pub table_cleared : table_of (with_total h (suc g))
      (cleared l (node_place h (suc g)) (node_width h))
      ≡ table_of (with_total h g) l
  table_cleared =
      table_blank h (cleared l (node_place h (suc g)) (node_width h)) g
      (blank_cleared h l (suc g)
      (omega (arith, place_add h (suc g) 1, ap (node_place h) (add-one (suc g)))))
      ∙ table_outside (with_total h g) l (replicate (node_width h) 0) (node_place h (suc g))
      (inr (omega (arith, used_total h g)))

  pub table_path : (y c : ℕ) → y < h.n → c < 256 ^ h.a
      → table_of (with_total h (suc g)) (sets l (node_place h (suc g)) (path_node h y c))
      ≡ grow (table_of (with_total h g) l) (suc g) y c
  unfolding link_place
  table_path y c b f =
      ap (table_of (with_total h (suc g))) (path_node_lem h l (suc g) y c b)
      ∙ table_link (with_total h (suc g)) (cleared l (node_place h (suc g)) (node_width h))
      cleared_room (suc g) y c (omega arith) b f
      ∙ ap (λ (t : Table). grow t (suc g) y c) table_cleared

  pub table_last : (v : ℕ) → v < 256 ^ h.d
      → table_of (with_total h (suc g)) (sets l (node_place h (suc g)) (last_node h v))
      ≡ put (table_of (with_total h g) l) (suc g) v
  unfolding data_place
  table_last v f =
      ap (table_of (with_total h (suc g))) (last_node_lem h l (suc g) v)
      ∙ table_data (with_total h (suc g)) (cleared l (node_place h (suc g)) (node_width h))
      cleared_room (suc g) v (omega arith) f
      ∙ ap (λ (t : Table). put t (suc g) v) table_cleared

-- ---- all new nodes

-- a path below a node of the table, its nodes by rising address
grow_from : Table → ℕ → List ℕ → Table
grow_from t c [] = t
grow_from t c (y ∷ ys) = grow_from (grow t c y (suc c)) (suc c) ys

grow_from_lem : (t : Table) (q x c : ℕ) (xs : List ℕ) → grow_path t q x xs c
    ≡ grow_from (grow t q x c) c
    xs
unfolding grow_path grow_from
grow_from_lem t q x c [] = refl
grow_from_lem t q x c (y ∷ ys) = grow_from_lem (grow t q x c) c y (suc c) ys

-- links in two nodes, written in either order
grow_swap : (t : Table) (q x c p y d : ℕ) → q ≢ p → grow (grow t p y d) q x c
    ≡ grow (grow t q x c) p y d
unfolding grow
grow_swap t q x c p y d h =
    table_eq (grow (grow t p y d) q x c) (grow (grow t q x c) p y d) child (λ r. refl)
  where
    swap : (a b : Bool) (u v w : ℕ) → (a ≡ true → b ≡ true → ⊥) → cond a u (cond b v w)
        ≡ cond b v (cond a u w)
    swap true true u v w e = absurd (e refl refl)
    swap true false u v w e = refl
    swap false b u v w e = refl

    child : (r i : ℕ) → (grow (grow t p y d) q x c).child r i
        ≡ (grow (grow t q x c) p y d).child r i
    child r i =
        swap (eqb r q && eqb i x) (eqb r p && eqb i y) c d (t.child r i)
        (λ e f. h (sym (eqb-true r q (both (eqb r q) (eqb i x) e).0) ∙ eqb-true r p
        (both (eqb r p) (eqb i y) f).0))

grow_before : (t : Table) (q x d c : ℕ) (ys : List ℕ) → q < c → grow (grow_from t c ys) q x d
    ≡ grow_from (grow t q x d) c ys
unfolding grow_from
grow_before t q x d c [] b = refl
grow_before t q x d c (y ∷ ys) b =
    grow_before (grow t c y (suc c)) q x d (suc c) ys (omega arith)
    ∙ ap (λ (s : Table). grow_from s (suc c) ys) (grow_swap t q x d c y (suc c) (omega arith))

new_nodes_lem : (h : Head) (v : ℕ) → v < 256 ^ h.d → (l : List ℕ) (g : ℕ) (ys : List ℕ)
    → LettersBelow h.n ys → g + suc (length ys) < 256 ^ h.a
    → node_place h (suc (g + suc (length ys))) ≤ length l
    → table_of (with_total h (g + suc (length ys))) (carried_out l (new_nodes h (suc g) ys v))
    ≡ put (grow_from (table_of (with_total h g) l) (suc g) ys) (g + suc (length ys)) v
unfolding carried_out new_nodes grow_from
new_nodes_lem h v f l g [] s a r = rw (add-one g) (table_last h l g (rw (add-one g) at r) v f)
new_nodes_lem h v f l g (y ∷ ys) s a r =
    let m : List ℕ = sets l (node_place h (suc g)) (path_node h y (suc (suc g))) in
    let e : g + suc (suc (length ys)) ≡ suc g + suc (length ys) = omega arith in
    let n : length m ≡ length l =
    length-sets l (node_place h (suc g)) (path_node h y (suc (suc g))) in
    rw e
    (new_nodes_lem h v f m (suc g) ys s.1 (omega arith) (rw (n, ← e) r)
    ∙ ap (λ (t : Table). put (grow_from t (suc (suc g)) ys) (suc g + suc (length ys)) v)
    (table_path h l g (omega (
      arith,
      place_le h (suc (suc g)) (suc (g + suc (suc (length ys))))
          (omega arith),
    )) y (suc (suc g)) s.0 (omega arith)))

-- ---- the store

-- what a store that builds nodes requires
pub record Storable (h : Head) (l : List ℕ) (q x : ℕ) (xs : List ℕ) (v : ℕ) : Type 0 where
  pub node : q ≤ h.g
  pub letters : LettersBelow h.n (x ∷ xs)
  pub addresses : h.g + suc (length xs) < 256 ^ h.a
  pub value : v < 256 ^ h.d
  pub room : used_len (with_total h (h.g + suc (length xs))) ≤ length l

pub store_new : (h : Head) (l : List ℕ) (q x : ℕ) (xs : List ℕ) (v : ℕ)
    → Storable h l q x xs (suc v)
    → table_of (with_total h (h.g + suc (length xs)))
    (carried_out l (store_writes h (stopped q x xs) (suc v)))
    ≡ stored_by (stopped q x xs) (table_of h l) h.g (suc v)
unfolding store_writes stored_by carried_out total_write link_write put grow
store_new h l q x xs v s =
    ap (table_of k) (carried_append l (new_nodes h (suc g) xs (suc v))
    (total_write m ∷ link_write h q x (suc g) ∷ []))
    ∙ table_link k (put_total n m) (rw long s.room) q x (suc g) (omega (arith, s.node))
    s.letters.0 (omega (arith, s.addresses))
    ∙ ap (λ (t : Table). grow t q x (suc g)) (table_total k n m)
    ∙ ap (λ (t : Table). grow t q x (suc g))
    (new_nodes_lem h (suc v) s.value l g xs s.letters.1 s.addresses
    (rw (used_total h m) at s.room))
    ∙ ap (λ (t : Table). put t m (suc v))
    (grow_before (table_of h l) q x (suc g) (suc g) xs (omega (arith, s.node))
    ∙ sym (grow_from_lem (table_of h l) q x (suc g) xs))
  where
    g : ℕ
    g = h.g

    m : ℕ
    m = g + suc (length xs)

    k : Head
    k = with_total h m

    n : List ℕ
    n = carried_out l (new_nodes h (suc g) xs (suc v))

    long : length (put_total n m) ≡ length l
    long = length_total n m ∙ length_carried l (new_nodes h (suc g) xs (suc v))

-- a complete path: only the data changes
pub store_over : (h : Head) (l : List ℕ) (q v : ℕ) → used_len h ≤ length l → q ≤ h.g
    → v < 256 ^ h.d
    → table_of h (carried_out l (store_writes h (complete q) v))
    ≡ stored_by (complete q) (table_of h l)
    h.g v
unfolding store_writes stored_by carried_out data_write
store_over h l q v r b f = table_data h l r q v b f

-- only one of the writes changes the head, and only its G
pub new_head : (h : Head) (l : List ℕ) (q : ℕ) (ys : List ℕ) (v : ℕ)
    → head_of (carried_out l (new_nodes h q ys v)) ≡ head_of l
unfolding carried_out new_nodes
new_head h l q [] v =
    head_outside l (last_node h v) (node_place h q) (omega (arith, place_least h q))
new_head h l q (y ∷ ys) v =
    new_head h (sets l (node_place h q) (path_node h y (suc q))) (suc q) ys v
    ∙ head_outside l (path_node h y (suc q)) (node_place h q) (omega (arith, place_least h q))

pub store_head : (h : Head) (l : List ℕ) (q x : ℕ) (xs : List ℕ) (v : ℕ) → total_at + total_len
    ≤ length l → h.g + suc (length xs) < 2 ^ 32
    → head_of (carried_out l (store_writes h (stopped q x xs) (suc v))) ≡ with_total (head_of l)
    (h.g + suc (length xs))
unfolding store_writes carried_out total_write link_write
store_head h l q x xs v r f =
    ap head_of (carried_append l (new_nodes h (suc h.g) xs (suc v))
    (total_write m ∷ link_write h q x (suc h.g) ∷ []))
    ∙ head_outside (put_total n m) (digits h.a (suc h.g)) (link_place h q x)
    (omega (arith, place_least h q, link_from h q x))
    ∙ head_total n m (omega (arith, length_carried l (new_nodes h (suc h.g) xs (suc v)))) f
    ∙ ap (λ (k : Head). with_total k m) (new_head h l (suc h.g) xs (suc v))
  where
    m : ℕ
    m = h.g + suc (length xs)

    n : List ℕ
    n = carried_out l (new_nodes h (suc h.g) xs (suc v))
