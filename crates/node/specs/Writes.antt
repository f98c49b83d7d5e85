-- What a store writes, as an ordered list (01, "Walking, storing, listing"). The order is that
-- of 02, Ask 1: "first the new nodes, one write each by rising address, then G, then the old
-- link; for a complete path, the data field alone". The bytes after a store are those after this
-- list is carried out.
use Rattle.std.specs.Prelude.{ℕ, zero, suc, ◌+◌, ◌-◌, ◌*◌, List, [], ◌∷◌, ◌++◌, length, replicate}
use Rattle.std.proofs.lemmas.List.Edits.{sets}
use Rattle.field.specs.Field.{digits}
use Rattle.trie.specs.Table.{Descent, complete, stopped}
use Rattle.head.specs.declared.Head.{Head}
use Rattle.head.specs.Fields.{total_at, total_len, node_place}
use Rattle.node.specs.Image.{link_place, data_place}

-- a place and the bytes that are written from there on
pub record Write : Type 0 where
  pub place : ℕ
  pub bytes : List ℕ

-- the bytes after the writes, done one after the other
unfoldable pub carried_out : List ℕ → List Write → List ℕ
carried_out l [] = l
carried_out l (w ∷ ws) = carried_out (sets l w.place w.bytes) ws

-- the list of writes, as a store with writes leaves it: a place and a length for each write
unfoldable pub noted : List Write → List ℕ
noted [] = []
noted (w ∷ ws) = w.place ∷ length w.bytes ∷ noted ws

-- the bytes of a node with no link and this data
unfoldable pub last_node : Head → ℕ → List ℕ
unfolding digits
last_node h v = replicate (h.n * h.a) 0 ++ digits h.d v

-- the bytes of a node whose link for letter y is c, "all else zero"
unfoldable pub path_node : Head → ℕ → ℕ → List ℕ
unfolding digits
path_node h y c =
    replicate (y * h.a) 0 ++ (digits h.a c ++ replicate ((h.n - suc y) * h.a + h.d) 0)

-- a new node q that links to c
abbrev pub path_write : Head → ℕ → ℕ → ℕ → Write
path_write h q y c = record { place = node_place h q; bytes = path_node h y c }

-- a new node q that holds the value
abbrev pub last_write : Head → ℕ → ℕ → Write
last_write h q v = record { place = node_place h q; bytes = last_node h v }

-- "nodes G+1 to G+k are written in key order, each linking to the next by the key's letter, all
-- else zero; the last holds the value": node q, then one for each letter left
unfoldable pub new_nodes : Head → ℕ → List ℕ → ℕ → List Write
unfolding last_node path_node node_place
new_nodes h q [] v = last_write h q v ∷ []
new_nodes h q (y ∷ ys) v = path_write h q y (suc q) ∷ new_nodes h (suc q) ys v

-- "G becomes G+k"
unfoldable pub total_write : ℕ → Write
unfolding digits
total_write g = record { place = total_at; bytes = digits total_len g }

-- the link for letter x of node q receives c
unfoldable pub link_write : Head → ℕ → ℕ → ℕ → Write
unfolding digits link_place
link_write h q x c = record { place = link_place h q x; bytes = digits h.a c }

-- the data of node q receives v
unfoldable pub data_write : Head → ℕ → ℕ → Write
unfolding digits data_place
data_write h q v = record { place = data_place h q; bytes = digits h.d v }

-- the writes of a store, given how the key's walk ended
unfoldable pub store_writes : Head → Descent → ℕ → List Write
unfolding new_nodes total_write link_write data_write
store_writes h (complete q) v = data_write h q v ∷ []
store_writes h (stopped q x xs) zero = []
store_writes h (stopped q x xs) (suc v) =
    new_nodes h (suc h.g) xs (suc v)
    ++ (total_write (h.g + suc (length xs)) ∷ link_write h q x (suc h.g) ∷ [])
