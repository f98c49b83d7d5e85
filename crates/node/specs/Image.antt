-- 01, "The image": "A node takes W = N*A + D bytes: N links, then its data." Here an image
-- becomes a table of nodes.
use Rattle.std.specs.Prelude.{ℕ, ◌+◌, ◌*◌, ◌^◌, ◌≤◌, ◌≡◌, true, ◌&&◌, cond, List, length, leb, ltb}
use Rattle.field.specs.Field.{field_at}
use Rattle.trie.specs.Table.{Table}
use Rattle.head.specs.declared.Head.{Head}
use Rattle.head.specs.Fields.{permitted, node_place, used_len}

-- what a node's place requires: the head is permitted, and the used length is within the image
pub record Open (h : Head) (l : List ℕ) : Type 0 where
  pub head_permitted : permitted h ≡ true
  pub room : used_len h ≤ length l

-- the number with all bits of a link's A bytes set
abbrev pub Masks : Head → ℕ → Type 0
Masks h mask = mask + 1 ≡ 256 ^ h.a

-- the first byte of the link for letter i of node q
unfoldable pub link_place : Head → ℕ → ℕ → ℕ
unfolding node_place
link_place h q i = node_place h q + i * h.a

-- the first byte of the data of node q
unfoldable pub data_place : Head → ℕ → ℕ
unfolding node_place
data_place h q = node_place h q + h.n * h.a

-- the image as a table: the links and data of its nodes 0..G, and 0 for all others
unfoldable pub table_of : Head → List ℕ → Table
unfolding link_place data_place field_at
table_of h l =
    record {
      child = λ q i. cond (leb q h.g && ltb i h.n) (field_at l (link_place h q i) h.a) 0;
      value = λ q. cond (leb q h.g) (field_at l (data_place h q) h.d) 0;
    }
