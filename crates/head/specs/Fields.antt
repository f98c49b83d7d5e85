-- 01, "The image": "The head is seven 32-bit fields, in this order, then F bytes": G, N, A, D,
-- F, min and max, then the alphabet. Here are their limits, the column "Permitted" of 01's
-- table, the node width W, where a node begins, and the used length U.
use Rattle.std.specs.Prelude.{ℕ, ◌+◌, ◌*◌, Bool, ◌&&◌, List, ◌++◌}
use Rattle.field.specs.Field.{field_at, digits, put_field}
use Rattle.field.specs.Range.{between}
use Rattle.head.specs.declared.Head.{Head}

-- "The head's own ceilings are named once, as constants of the head": the greatest N
abbrev pub most_links : ℕ
most_links = 256

-- the greatest A
abbrev pub most_link_bytes : ℕ
most_link_bytes = 4

-- the greatest D; 02, Ask 6: "D may be 1 to 8"
abbrev pub most_data_bytes : ℕ
most_data_bytes = 8

-- the greatest F
abbrev pub most_alphabet : ℕ
most_alphabet = 1024

-- the greatest max
abbrev pub most_letters : ℕ
most_letters = 64

-- the most nodes on a key's path: the root and a node for each letter
abbrev pub most_path : ℕ
most_path = most_letters + 1

-- the most writes of a store: a new node for each letter, G and a link
abbrev pub most_writes : ℕ
most_writes = most_letters + 2

-- the numbers in a list of the most writes: two for each write
abbrev pub most_noted : ℕ
most_noted = 2 * most_writes

-- the bytes of the seven fields
abbrev pub fields_len : ℕ
fields_len = 28

-- the first byte of G
abbrev pub total_at : ℕ
total_at = 0

-- the bytes of G
abbrev pub total_len : ℕ
total_len = 4

-- the limits of 1, "image shorter than 28 or longer than 16,777,216 bytes": the shortest image
abbrev pub shortest_image : ℕ
shortest_image = fields_len

-- and the longest
abbrev pub longest_image : ℕ
longest_image = 16777216

-- the head at the front of an image
unfoldable pub head_of : List ℕ → Head
unfolding field_at
head_of l =
    record {
      g = field_at l total_at total_len;
      n = field_at l 4 4;
      a = field_at l 8 4;
      d = field_at l 12 4;
      f = field_at l 16 4;
      min = field_at l 20 4;
      max = field_at l 24 4;
    }

-- the seven fields as bytes
unfoldable pub head_bytes : Head → List ℕ
unfolding digits
head_bytes h =
    digits 4 h.g
    ++ (digits 4 h.n
    ++ (digits 4 h.a
    ++ (digits 4 h.d
    ++ (digits 4 h.f
    ++ (digits 4 h.min
    ++ digits 4 h.max)))))

-- "the image with G set to" g
abbrev pub put_total : List ℕ → ℕ → List ℕ
put_total l g = put_field l total_at total_len g

-- the column "Permitted"
unfoldable pub permitted : Head → Bool
permitted h =
    between h.n 1 most_links
    && between h.a 1 most_link_bytes
    && between h.d 1 most_data_bytes
    && between h.f 0 most_alphabet
    && between h.min 0 h.max
    && between h.max 0 most_letters

-- "A node takes W = N*A + D bytes"
unfoldable pub node_width : Head → ℕ
node_width h = h.n * h.a + h.d

-- "Node n begins at byte 28 + F + n*W"
unfoldable pub node_place : Head → ℕ → ℕ
unfolding node_width
node_place h q = fields_len + h.f + q * node_width h

-- "The used length is U = 28 + F + (G+1)*W"
unfoldable pub used_len : Head → ℕ
unfolding node_place
used_len h = node_place h (h.g + 1)
