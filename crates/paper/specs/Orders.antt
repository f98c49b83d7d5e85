-- 01, "The first that applies is given, in this order": the order of each call, as a list of
-- rows. An order is joined from named parts and reads as 01 writes it.
use Rattle.std.specs.Prelude.{ℕ, List, [], ◌∷◌, ◌++◌, length}
use Rattle.std.proofs.Math.Option.{Option}
use Rattle.trie.specs.Table.{Table, descend, missing}
use Rattle.trie.specs.Storing.{added}
use Rattle.alphabet.specs.Letters.{or_empty}
use Rattle.head.specs.declared.Head.{Head}
use Rattle.head.specs.Fields.{head_of}
use Rattle.node.specs.Image.{table_of}
use Rattle.paper.specs.Hearing.{Row}
use Rattle.paper.specs.Given.{Given, as_letters, as_text, alphabet_in, meant_by, key_in}
use Rattle.paper.specs.Rows.{row1, row2, row3, row4, row5, row6, row6path, row7, row8, row9}
use Rattle.paper.specs.Rows.{row9next, row10, row10text, row11, row12, row13, row14, row15}
use Rattle.paper.specs.Rows.{row16, row19}

-- 1 to 4, for a head, an alphabet and the image's length; "make: 1, 2, 3, 4"
unfoldable pub opening_rows : Head → List ℕ → ℕ → List Row
opening_rows h alphabet len = row1 len ∷ row2 h ∷ row3 h alphabet ∷ row4 h len ∷ []

-- 1 to 4, for an image with its own head and alphabet
unfoldable pub opening_rows_of : List ℕ → List Row
unfolding opening_rows alphabet_in head_of
opening_rows_of l = opening_rows (head_of l) (alphabet_in (head_of l) l) (length l)

-- 6 to 8, 16 and 19, for a table; 02, Ask 3: 16 stands "right after 8 in check, store, number of
-- keys and next key"; Ask 8: 19 stands "right after 16"
unfoldable pub node_rows : Head → Table → List Row
node_rows h t = row6 h t ∷ row7 h t ∷ row8 h t ∷ row16 h t ∷ row19 h t ∷ []

-- "check and number of keys: 1 to 8", with 16 and 19 after 8
unfoldable pub check_order : List ℕ → List ℕ → List Row
unfolding opening_rows_of node_rows table_of
check_order l work =
    opening_rows_of l ++ (row5 (head_of l) (length work) ∷ node_rows (head_of l)
    (table_of (head_of l) l))

-- 9, 10 for a key by its letter numbers
unfoldable pub letters_rows : Head → List ℕ → List Row
letters_rows h key = row9 h key ∷ row10 h key ∷ []

-- "For text, 10 stands before 9." A text that names no key has no length; then 10 is given.
unfoldable pub text_rows : Head → Option (List ℕ) → List Row
unfolding or_empty
text_rows h named = row10text named ∷ row9 h (or_empty named) ∷ []

-- 9 and 10 for a key by letters or by text, with this head and this alphabet
unfoldable pub key_rows_by : Head → List ℕ → Given → List Row
unfolding letters_rows text_rows meant_by
key_rows_by h alphabet (as_letters key) = letters_rows h key
key_rows_by h alphabet (as_text text) = text_rows h (meant_by alphabet (as_text text))

-- the same in an image, with its own head and alphabet
unfoldable pub key_rows : List ℕ → Given → List Row
unfolding key_rows_by alphabet_in head_of
key_rows l given = key_rows_by (head_of l) (alphabet_in (head_of l) l) given

-- 9, 10 for the key given to next key: "For next key, 9 means only a key longer than max."
unfoldable pub next_rows : Head → List ℕ → List Row
next_rows h key = row9next h key ∷ row10 h key ∷ []

-- "look up: 1 to 4, 9, 10, then 6"
unfoldable pub look_up_order : List ℕ → Given → List Row
unfolding opening_rows_of key_rows key_in table_of
look_up_order l given =
    opening_rows_of l
    ++ (key_rows l given
    ++ (row6path (head_of l) (table_of (head_of l) l) (key_in l given) ∷ []))

-- 11, 12, 13, for k new nodes in an image of this length
unfoldable pub adding_rows : Head → ℕ → ℕ → ℕ → List Row
adding_rows h value k len = row11 h value ∷ row12 h k ∷ row13 h k len ∷ []

-- "Here k is the number of nodes missing on the key's path, but 0 where the value is 0."
unfoldable pub new_of : Head → List ℕ → List ℕ → ℕ → ℕ
unfolding added missing descend table_of
new_of h l key value = added (missing (descend (table_of h l) 0 key)) value

-- "store: 1 to 8, 9, 10, 11, 12, 13", with 16 and 19 after 8
unfoldable pub store_order : List ℕ → List ℕ → Given → ℕ → List Row
unfolding check_order key_rows key_in adding_rows new_of
store_order l work given value =
    check_order l work
    ++ (key_rows l given
    ++ adding_rows (head_of l) value (new_of (head_of l) l (key_in l given) value) (length l))

-- "next key: 1 to 8, 9, 10, 14, 15", with 16 and 19 after 8
unfoldable pub next_key_order : List ℕ → List ℕ → List ℕ → ℕ → Option (List ℕ) → List Row
unfolding check_order next_rows
next_key_order l work key lent found =
    check_order l work ++ (next_rows (head_of l) key ++
    (row14 (head_of l) lent ∷ row15 found ∷ []))
