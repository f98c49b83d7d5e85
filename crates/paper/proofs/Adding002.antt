-- Our store beside TRIEFF's own text: a store that is not refused leaves the bytes that 002's
-- sample for adding an entry leaves. 002 writes a link, [G] and an empty node for each letter
-- left, then the data; ours writes whole nodes, G once and the old link last. Writes that have no
-- byte in common can be exchanged, a later [G] replaces an earlier one, and a number written into
-- an empty node gives the node that we write.
use Prim.Native.Nat.{ℕ, zero, suc, ◌+◌, ◌*◌, ◌≤◌, ◌<◌}
use mathlib.Core.Path.{◌≡◌, refl, sym, ◌∙◌, ap, ap₂}
use mathlib.Core.Logic.{inl, inr}
use mathlib.Core.Option.{Option, some}
use mathlib.Core.List.{List, [], ◌∷◌, ◌++◌}
use native.Mathlib.Decide.{ℕ_discrete}
use native.Mathlib.Numerals.{add-one}
use native.Mathlib.Omega.{arith}
use lib.ListN.{length, replicate, replicate-append-replicate}
use lib.Seq.{sets}
use borrow.Author.Tests.{le-ltb, lt-leb}
use Rattle.field.specs.Field.{digits, put_field, cleared}
use Rattle.field.proofs.Sets.{sets_comm, sets_over}
use Rattle.field.proofs.Field.{length_digits}
use Rattle.field.proofs.Range.{between_true}
use Rattle.trie.specs.Table.{Descent, complete, stopped, LettersBelow, follow, descend}
use Rattle.trie.specs.Rules.{Within}
use Rattle.trie.proofs.Walk.{follow_empty, follow_on, descend_nil, descend_empty, descend_on}
use Rattle.head.specs.declared.Head.{Head}
use Rattle.head.specs.Fields.{total_at, total_len, head_of, put_total, node_width, node_place}
use Rattle.head.proofs.Places.{place_le, place_least}
use Rattle.node.specs.Image.{link_place, data_place, table_of}
use Rattle.node.specs.Writes.{Write, carried_out, last_node, path_node, new_nodes, total_write}
use Rattle.node.specs.Writes.{link_write, data_write, store_writes}
use Rattle.node.proofs.FieldPlaces.{link_from, link_inside}
use Rattle.node.proofs.WholeNodes.{path_node_lem, last_node_lem}
use Rattle.node.proofs.StoreOnTable.{carried_append}
use Rattle.alphabet.specs.Letters.{or_empty}
use Rattle.paper.specs.Hearing.{Outcome}
use Rattle.paper.specs.Given.{Given, alphabet_in, meant_in, key_in}
use Rattle.paper.specs.Orders.{key_rows}
use Rattle.paper.specs.Calls.{table_in, work_after, stored_image, store_of}
use Rattle.paper.specs.Granted.{Granted}
use Rattle.paper.specs.Adding002.{data_written, data_at_last, link_written, total_written}
use Rattle.paper.specs.Adding002.{empty_written, node_created, append_from, create_from}
use Rattle.paper.specs.Adding002.{unless_broken, add_from, adds002, adds_made, left_by}
use Rattle.paper.specs.Adding002.{adding002, adding_of002}
use Rattle.paper.proofs.LookUpCall.{link_read_lem, meant_002}
use Rattle.paper.proofs.Keying.{fit_given}
use Rattle.paper.proofs.StoreCall.{store_granted, store_means, store_leaves}

-- ---- 002's writes at our places

-- the number 0 is zero bytes
digits_zero : (w : ℕ) → digits w 0 ≡ replicate w 0
unfolding digits
digits_zero zero = refl
digits_zero (suc w) =
    ap (λ (r : List ℕ). r ++ (0 ∷ [])) (digits_zero w)
    ∙ replicate-append-replicate w 1 0
    ∙ ap (λ (n : ℕ). replicate n 0) (add-one w)

module _ (h : Head) where
  data_put : (l : List ℕ) (q v : ℕ) → data_written h l q v ≡ put_field l (data_place h q) h.d v
  unfolding data_written data_place node_place node_width
  data_put l q v =
      let e : q * (h.n * h.a + h.d) + h.f + 28 + h.n * h.a ≡ data_place h q = omega arith in
      ap (λ (at : ℕ). put_field l at h.d v) e

  last_put : (l : List ℕ) (q v : ℕ) → data_at_last h l q v ≡ put_field l (data_place h q) h.d v
  unfolding data_at_last data_place node_place node_width
  last_put l q v =
      let e : q * (h.n * h.a + h.d) + h.n * h.a + h.f + 28 ≡ data_place h q = omega arith in
      ap (λ (at : ℕ). put_field l at h.d v) e

  link_put : (l : List ℕ) (q x c : ℕ) → link_written h l q x c
      ≡ put_field l (link_place h q x) h.a c
  unfolding link_written link_place node_place node_width
  link_put l q x c =
      let e : q * (h.n * h.a + h.d) + h.f + 28 + x * h.a ≡ link_place h q x = omega arith in
      ap (λ (at : ℕ). put_field l at h.a c) e

  empty_put : (l : List ℕ) (q : ℕ) → empty_written h l q
      ≡ cleared l (node_place h q) (node_width h)
  unfolding empty_written node_place node_width
  empty_put l q =
      let e : q * (h.n * h.a + h.d) + h.f + 28 ≡ node_place h q = omega arith in
      ap₂ (λ (at : ℕ) (r : List ℕ). sets l at r) e (digits_zero (h.n * h.a + h.d))

  -- one turn of 002's loop
  created : (l : List ℕ) (q x c : ℕ)
      → node_created h l q x c
      ≡ cleared (put_total (put_field l (link_place h q x) h.a c) c) (node_place h c)
      (node_width h)
  unfolding node_created total_written
  created l q x c =
      empty_put (put_total (link_written h l q x c) c) c
      ∙ ap (λ (r : List ℕ). cleared (put_total r c) (node_place h c) (node_width h))
      (link_put l q x c)

  -- ---- the nodes

  -- [G] and a write from the first node on
  total_past : (l bs : List ℕ) (at g : ℕ) → node_place h 0 ≤ at
      → put_total (sets l at bs) g ≡ sets (put_total l g) at bs
  total_past l bs at g b =
      sets_comm l bs (digits total_len g) at total_at
      (inl (omega (arith, length_digits total_len g, place_least h 0)))

  -- a write before the new nodes
  nodes_past : (l bs : List ℕ) (at q : ℕ) (ys : List ℕ) (v : ℕ) → at + length bs ≤ node_place h q
      → carried_out (sets l at bs) (new_nodes h q ys v)
      ≡ sets (carried_out l (new_nodes h q ys v)) at
      bs
  unfolding carried_out new_nodes
  nodes_past l bs at q [] v b = sets_comm l bs (last_node h v) at (node_place h q) (inr b)
  nodes_past l bs at q (y ∷ ys) v b =
      ap (λ (r : List ℕ). carried_out r (new_nodes h (suc q) ys v))
      (sets_comm l bs (path_node h y (suc q)) at (node_place h q) (inr b))
      ∙ nodes_past (sets l (node_place h q) (path_node h y (suc q))) bs at (suc q) ys v
      (omega (arith, place_le h q (suc q) (omega arith)))

  -- an empty node with [G] as it is so far, then its link, then [G] as it will be
  path_made : (l : List ℕ) (q y c g m : ℕ) → y < h.n
      → put_total (put_field (cleared (put_total l g) (node_place h q) (node_width h))
      (link_place h q y)
      h.a c) m
      ≡ sets (put_total l m) (node_place h q) (path_node h y c)
  path_made l q y c g m b =
      let low = place_le h 0 q (omega arith) in
      let from = link_from h q y in
      total_past (cleared (put_total l g) (node_place h q) (node_width h)) (digits h.a c)
      (link_place h q y) m (omega arith)
      ∙ ap (λ (r : List ℕ). put_field r (link_place h q y) h.a c)
      (total_past (put_total l g) (replicate (node_width h) 0) (node_place h q) m low
      ∙ ap (λ (r : List ℕ). cleared r (node_place h q) (node_width h))
      (sets_over l (digits total_len g) (digits total_len m) total_at
      (length_digits total_len g ∙ sym (length_digits total_len m))))
      ∙ sym (path_node_lem h (put_total l m) q y c b)

  -- 002's loop and its last line: the first link, [G] at its last, then the new nodes
  appended : (l : List ℕ) (q x m : ℕ) (xs : List ℕ) (v : ℕ) → LettersBelow h.n xs
      → append_from h l q m (x ∷ xs) v
      ≡ carried_out
      (put_total (put_field l (link_place h q x) h.a (suc m)) (m + suc (length xs)))
      (new_nodes h (suc m) xs v)
  unfolding append_from carried_out new_nodes
  appended l q x m [] v s =
      last_put (node_created h l q x (suc m)) (suc m) v
      ∙ ap (λ (r : List ℕ). put_field r (data_place h (suc m)) h.d v) (created l q x (suc m))
      ∙ sym (last_node_lem h (put_total (put_field l (link_place h q x) h.a (suc m)) (suc m))
      (suc m)
      v)
      ∙ ap
      (λ (g : ℕ). sets (put_total (put_field l (link_place h q x) h.a (suc m)) g)
      (node_place h (suc m)) (last_node h v))
      (sym (add-one m))
  appended l q x m (y ∷ ys) v s =
      let k : List ℕ = put_field l (link_place h q x) h.a (suc m) in
      let e : suc m + suc (length ys) ≡ m + suc (suc (length ys)) = omega arith in
      appended (node_created h l q x (suc m)) (suc m) y (suc m) ys v s.1
      ∙ ap₂
      (λ (r : List ℕ) (g : ℕ). carried_out
      (put_total (put_field r (link_place h (suc m) y) h.a (suc (suc m))) g)
      (new_nodes h (suc (suc m)) ys v))
      (created l q x (suc m)) e
      ∙ ap (λ (r : List ℕ). carried_out r (new_nodes h (suc (suc m)) ys v))
      (path_made k (suc m) y (suc (suc m)) (suc m) (m + suc (suc (length ys))) s.0)

  -- ---- what 002 does where its traversal ends

  -- a complete path: the data, which is then written once more
  completed : (l : List ℕ) (q v : ℕ) → data_at_last h (data_written h l q v) q v
      ≡ carried_out l (store_writes h (complete q) v)
  unfolding store_writes carried_out data_write
  completed l q v =
      last_put (data_written h l q v) q v
      ∙ ap (λ (r : List ℕ). put_field r (data_place h q) h.d v) (data_put l q v)
      ∙ sets_over l (digits h.d v) (digits h.d v) (data_place h q) refl

  -- an incomplete one
  broken_off : (l : List ℕ) (q x : ℕ) (xs : List ℕ) (v : ℕ) → q ≤ h.g → LettersBelow h.n
      (x ∷ xs)
      → create_from h l q (x ∷ xs) v ≡ carried_out l (store_writes h (stopped q x xs) v)
  unfolding create_from store_writes carried_out total_write link_write
  broken_off l q x xs zero b s = refl
  broken_off l q x xs (suc v) b s =
      let g : ℕ = h.g in
      let m : ℕ = g + suc (length xs) in
      let nodes : List Write = new_nodes h (suc g) xs (suc v) in
      let link : List ℕ = digits h.a (suc g) in
      let long : length link ≡ h.a = length_digits h.a (suc g) in
      let inside = link_inside h q s.0 in
      appended l q x g xs (suc v) s.1
      ∙ nodes_past (sets l (link_place h q x) link) (digits total_len m) total_at (suc g) xs
      (suc v)
      (omega (arith, length_digits total_len m, place_least h (suc g)))
      ∙ ap (λ (r : List ℕ). put_total r m)
      (nodes_past l link (link_place h q x) (suc g) xs (suc v)
      (omega (arith, inside, place_le h (q + 1) (suc g) (omega arith))))
      ∙ total_past (carried_out l nodes) link (link_place h q x) m
      (omega (arith, inside, place_le h 0 q (omega arith)))
      ∙ sym (carried_append l nodes (total_write m ∷ link_write h q x (suc g) ∷ []))

-- ---- the traversal

-- 002's test for an empty address is our walk's
broken {ℓ} : {X : Type ℓ} (c : ℕ) (off : X) (on : ℕ → X) → unless_broken c off on ≡ follow c off on
unfolding unless_broken follow
broken zero off on = refl
broken (suc c) off on = refl

module _ (h : Head) (l : List ℕ) (v : ℕ) (within : Within (table_of h l) h.g) where
  -- from a node up to G, over letters below N, 002 ends where our walk ends
  abbrev Agrees : ℕ → List ℕ → Type 0
  Agrees q k =
      q ≤ h.g → LettersBelow h.n k
      → add_from h l q k v ≡ some (carried_out l (store_writes h (descend (table_of h l) q k) v))

  agrees_more : (q x : ℕ) (xs : List ℕ) → ((c : ℕ) → Agrees c xs) → Agrees q (x ∷ xs)
  unfolding add_from
  agrees_more q x xs next b s =
      rw (lt-leb h.n x s.0, link_read_lem h l q x b s.0)
      (broken c off on ∙ go (ℕ_discrete c 0))
    where
      c : ℕ
      c = (table_of h l).child q x

      off : Option (List ℕ)
      off = some (create_from h l q (x ∷ xs) v)

      on : ℕ → Option (List ℕ)
      on p = add_from h l p xs v

      go : Dec (c ≡ 0) → follow c off on
          ≡ some (carried_out l (store_writes h (descend (table_of h l) q (x ∷ xs)) v))
      go (yes e) =
          follow_empty c off on e
          ∙ ap (λ (r : List ℕ). some r) (broken_off h l q x xs v b s)
          ∙ ap (λ (d : Descent). some (carried_out l (store_writes h d v)))
          (sym (descend_empty (table_of h l) q x xs e))
      go (no e) =
          follow_on c off on e
          ∙ next c (within q x) s.1
          ∙ ap (λ (d : Descent). some (carried_out l (store_writes h d v)))
          (sym (descend_on (table_of h l) q x xs e))

  agrees : (q : ℕ) (k : List ℕ) → Agrees q k
  unfolding add_from
  agrees q [] b s =
      ap (λ (r : List ℕ). some r) (completed h l q v)
      ∙ ap (λ (d : Descent). some (carried_out l (store_writes h d v)))
      (sym (descend_nil (table_of h l) q))
  agrees q (x ∷ xs) b s = agrees_more q x xs (λ c. agrees c xs) b s

-- ---- a store that is granted

module _ {l key : List ℕ} {value : ℕ} (s : Granted l key value) where
  -- 002 does not return false, and its document is our image
  pub adds_002 : adds002 l key value ≡ some (stored_image l key value)
  unfolding adds002 stored_image table_in
  adds_002 =
      let b = between_true (length key) (head_of l).min (head_of l).max s.fit.allowed in
      rw (
        le-ltb (length key) (head_of l).min b.0,
        le-ltb (head_of l).max (length key) b.1,
      )
      (agrees (head_of l) l value s.accepted.links.within 0 key (omega arith) s.fit.below)

  -- so all bytes are the same
  pub adding_002 : adding002 l key value ≡ stored_image l key value
  unfolding adding002 left_by
  adding_002 = ap (left_by l) adds_002

  -- and for every key, by its letters or by its text, that means this one
  pub adding_of_002 : (given : Given) → meant_in l given ≡ some key → adding_of002 l given value
      ≡ stored_image l key value
  unfolding adding_of002 adds_made left_by key_rows key_in meant_in or_empty
  adding_of_002 given e =
      let passes = fit_given (head_of l) (alphabet_in (head_of l) l) given e s.fit in
      ap (λ (query : Option (List ℕ)). left_by l (adds_made l query value))
      (meant_002 l given passes ∙ ap (λ (k : Option (List ℕ)). some (or_empty k)) e)
      ∙ ap (left_by l) adds_002

-- the store's own outcome: where its number is 0, the image that it leaves is 002's document
pub stores_002 : (l work : List ℕ) (given : Given) (value : ℕ)
    → (store_of l work given value).numbers.number ≡ 0
    → (store_of l work given value).lent ≡ adding_of002 l given value ∷ work_after l work ∷ []
stores_002 l work given value z =
    ap (λ (o : Outcome). o.lent) (store_leaves l work given value z)
    ∙ ap (λ (m : List ℕ). m ∷ work_after l work ∷ [])
    (sym (adding_of_002 (store_granted l work given value z) given
    (store_means l work given value z)))
