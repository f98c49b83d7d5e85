-- 02, Ask 1: "The list carried out whole gives the bytes of 01's store." From these bytes and
-- the list of places and lengths a caller recovers the writes: no two of them go to one byte,
-- since a new node shares no byte with another node, with G or with a link of an older node.
use Prim.Native.Nat.{ℕ, zero, suc, ◌+◌, ◌≤◌}
use mathlib.Core.Path.{◌≡◌, refl, ap}
use mathlib.Core.Logic.{inl, inr}
use mathlib.Core.List.{List, [], ◌∷◌, ◌++◌}
use native.Mathlib.Nat.{suc-add}
use native.Mathlib.Numerals.{add-one}
use native.Mathlib.Omega.{arith}
use lib.ListN.{length}
use Rattle.field.proofs.Field.{length_digits}
use Rattle.trie.specs.Table.{Descent, LettersBelow, complete, stopped, descend}
use Rattle.trie.proofs.Walk.{complete_within}
use Rattle.head.specs.declared.Head.{Head}
use Rattle.head.specs.Fields.{head_of, node_width, node_place, total_len}
use Rattle.head.proofs.Places.{place_add, place_le, place_least}
use Rattle.node.specs.Image.{link_place}
use Rattle.node.specs.Writes.{Write, carried_out, noted, path_node, last_node, new_nodes}
use Rattle.node.specs.Writes.{total_write}
use Rattle.node.specs.Writes.{link_write, data_write, store_writes}
use Rattle.node.proofs.FieldPlaces.{link_from, link_inside, data_inside, inside_used}
use Rattle.node.proofs.Heads.{used_total}
use Rattle.node.proofs.WholeNodes.{length_path, length_last}
use Rattle.paper.specs.Calls.{table_in, writes_in, stored_image}
use Rattle.paper.specs.Granted.{Granted}
use Rattle.paper.proofs.StoreCall.{able}
use Rattle.cuts.specs.Mended.{read_back}
use Rattle.cuts.proofs.WriteLists.{From, Misses, Laid, read_laid}
use Rattle.cuts.proofs.Cuts.{nodes_from}

-- whether the store is granted or not, by definition
pub whole : (l key : List ℕ) (value : ℕ) → carried_out l (writes_in l key value)
    ≡ stored_image l key value
unfolding stored_image
whole l key value = refl

-- ---- new nodes, and writes before them

-- every write of a list ends before a place
abbrev Until : ℕ → List Write → Type 0
Until at [] = Unit {0}
Until at (w ∷ ws) = (w.place + length w.bytes ≤ at) × Until at ws

until_after : (a b : ℕ) (ws : List Write) → a ≤ b → Until a ws → Until b ws
until_after a b [] h t = tt
until_after a b (w ∷ ws) h t = (omega arith, until_after a b ws h t.1)

misses : (at n : ℕ) (us ws : List Write) → From (at + n) us → Until at ws → Misses at n (us ++ ws)
misses at n [] [] f t = tt
misses at n [] (w ∷ ws) f t = (inl t.0, misses at n [] ws f t.1)
misses at n (u ∷ us) ws f t = (inr f.0, misses at n us ws f.1 t)

-- a node begins where the one before it ends
next_place : (h : Head) (q : ℕ) → node_place h (suc q) ≡ node_place h q + node_width h
next_place h q = omega (arith, ap (node_place h) (add-one q), place_add h q 1)

nodes_laid : (h : Head) (len q : ℕ) (ys : List ℕ) (v : ℕ) (ws : List Write)
    → LettersBelow h.n ys → node_place h (q + suc (length ys)) ≤ len
    → Until (node_place h q) ws → Laid len ws → Laid len (new_nodes h q ys v ++ ws)
unfolding new_nodes
nodes_laid h len q [] v ws s r t a =
    let n : length (last_node h v) ≡ node_width h = length_last h v in (
      omega (arith, next_place h q, ap (node_place h) (add-one q)),
      misses (node_place h q)
          (length (last_node h v)) [] ws tt t,
      a,
    )
nodes_laid h len q (y ∷ ys) v ws s r t a =
    let bs : List ℕ = path_node h y (suc q) in
    let n : node_place h q + length bs ≡ node_place h (suc q) =
    omega (arith, length_path h y (suc q) s.0, next_place h q) in
    let e : q + suc (suc (length ys)) ≡ suc q + suc (length ys) = omega arith in
    let later : From (node_place h q + length bs) (new_nodes h (suc q) ys v) =
    rw n (nodes_from h (suc q) ys v) in (
      omega (arith, place_le h (suc q) (q + suc (suc (length ys))) (omega arith)),
      misses (node_place h q) (length bs) (new_nodes h (suc q) ys v) ws later t,
      nodes_laid h len (suc q) ys v ws s.1 (rw (← e) r)
          (until_after (node_place h q) (node_place h (suc q)) ws (omega arith) t) a,
    )

-- ---- a store

store_laid : {l key : List ℕ} (d : Descent) (v : ℕ) → descend (table_in l) 0 key ≡ d
    → Granted l key v → Laid (length l) (store_writes (head_of l) d v)
unfolding store_writes data_write total_write link_write
store_laid {l} {key} (complete q) v e s =
    let h : Head = head_of l in
    let within = complete_within (table_in l) h.g key s.accepted.links.within e in (
      omega (
        arith,
        length_digits h.d v,
        inside_used (data_inside h q) within,
        s.accepted.room,
      ),
      tt,
      tt,
    )
store_laid (stopped q x xs) zero e s = tt
store_laid {l} (stopped q x xs) (suc v) e s =
    let h : Head = head_of l in
    let g : ℕ = h.g in
    let total : ℕ = g + suc (length xs) in
    let a = able s e in
    let four = length_digits total_len total in
    let wide = length_digits h.a (suc g) in
    let least = place_least h (suc g) in
    let far = place_least h q in
    let from = link_from h q x in
    let inside = link_inside h q a.letters.0 in
    let before : link_place h q x + h.a ≤ node_place h (suc g) =
    omega (arith, place_le h (q + 1) (suc g) (omega (arith, a.node))) in
    let room : node_place h (suc total) ≤ length l = omega (arith, used_total h total, a.room) in
    let end : node_place h (suc g + suc (length xs)) ≤ length l =
    omega (arith, room, ap (node_place h) (suc-add g (suc (length xs)))) in
    nodes_laid h (length l) (suc g) xs (suc v) _ a.letters.1 end
    (omega arith, (omega arith, tt)) (
      omega (arith, s.accepted.long_enough),
      (inr (omega arith), tt),
      (omega (arith, place_le h (suc g) (suc total) (omega arith)), tt, tt),
    )

pub read_back_lem : {l key : List ℕ} {value : ℕ} → Granted l key value
    → read_back (stored_image l key value) (noted (writes_in l key value)) ≡ writes_in l key value
unfolding stored_image
read_back_lem {l} {key} {value} s =
    read_laid l (writes_in l key value) (store_laid (descend (table_in l) 0 key) value refl s)
