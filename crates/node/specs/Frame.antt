-- The bytes that a store may change. 01, "Walking, storing, listing": "Store, path complete:
-- only the D data bytes change. Path incomplete and value 0: nothing changes [..] Path
-- incomplete otherwise: the empty link that stopped the walk receives G+1; nodes G+1 to G+k are
-- written [..] G becomes G+k. No other byte changes."
use Rattle.std.specs.Prelude.{ℕ, suc, ◌+◌, ◌*◌, ◌≤◌, ◌<◌, List, length}
use Rattle.trie.specs.Table.{Descent, complete, stopped}
use Rattle.head.specs.declared.Head.{Head}
use Rattle.head.specs.Fields.{total_at, total_len, node_width, used_len}
use Rattle.node.specs.Image.{link_place, data_place}

-- byte p is one of the n bytes from a place on
abbrev pub InBytes : ℕ → ℕ → ℕ → Type 0
InBytes place n p = (place ≤ p) × (p < place + n)

-- the bytes that a store of a value may change, given how the key's walk ended
pub data Touched (h : Head) : Descent → ℕ → ℕ → Type 0 where
  data_of_key : {q v p : ℕ} → InBytes (data_place h q) h.d p → Touched h (complete q) v p
  node_total : {q x : ℕ} {xs : List ℕ} {v p : ℕ} → InBytes total_at total_len p
      → Touched h (stopped q x xs) (suc v) p
  one_link : {q x : ℕ} {xs : List ℕ} {v p : ℕ} → InBytes (link_place h q x) h.a p
      → Touched h (stopped q x xs) (suc v) p
  new_nodes_lem : {q x : ℕ} {xs : List ℕ} {v p : ℕ}
      → InBytes (used_len h) (suc (length xs) * node_width h) p
      → Touched h (stopped q x xs) (suc v) p
