-- 02, Ask 7: the order of each call that takes counts, joined from parts of 01's orders, 25 and
-- the second 5.
use Rattle.std.specs.Prelude.{ℕ, cond, List, [], ◌∷◌, ◌++◌, eqb, length, take}
use Rattle.std.proofs.Math.Option.{Option, none, some}
use Rattle.trie.specs.Table.{answer}
use Rattle.head.specs.Fields.{head_of}
use Rattle.passing.specs.Passing.{key_at}
use Rattle.paper.specs.Hearing.{Row}
use Rattle.paper.specs.Rows.{row14, row15}
use Rattle.paper.specs.Given.{Given, key_in}
use Rattle.paper.specs.Orders.{check_order, key_rows, adding_rows, new_of}
use Rattle.paper.specs.Calls.{table_in, stored_keys}
use Rattle.position.specs.Counts.{row25, row5again}

-- "5, in its old place, also if the list is shorter than G+1": the check may use no more working
-- numbers than there are counts
unfoldable pub usable : List ℕ → List ℕ → List ℕ
usable work counts = take (length counts) work

-- working out the counts: the check's rows, where 5 is given for either list; never 25
unfoldable pub counts_order : List ℕ → List ℕ → List ℕ → List Row
unfolding check_order usable
counts_order l work counts = check_order l (usable work counts)

-- check with counts: "25, counts differ, .. after all the check's answers"
unfoldable pub check_counts_order : List ℕ → List ℕ → List ℕ → List Row
unfolding counts_order row25
check_counts_order l work counts = counts_order l work counts ++ (row25 l counts ∷ [])

-- store with counts: "25, counts differ, .. before 9 and 10; for a store 5 again, after 13"
unfoldable pub store_counts_order : List ℕ → List ℕ → Given → ℕ → List ℕ → List Row
unfolding check_counts_order key_rows key_in adding_rows new_of row5again
store_counts_order l work given value counts =
    check_counts_order l work counts
    ++ (key_rows l given
    ++ (adding_rows (head_of l) value (new_of (head_of l) l (key_in l given) value) (length l)
    ++ (row5again (head_of l) (new_of (head_of l) l (key_in l given) value) (length counts) ∷ [])))

-- key at a position: "15 for a position past the end .. after 14"
unfoldable pub key_at_order : List ℕ → List ℕ → List ℕ → ℕ → ℕ → List Row
unfolding check_counts_order row14 row15 key_at stored_keys
key_at_order l work counts position lent =
    check_counts_order l work counts
    ++ (row14 (head_of l) lent ∷ row15 (key_at (stored_keys l) position) ∷ [])

-- the key, where it is stored; its length has passed 9: "A stored key is one with length in
-- min..max whose data is not 0."
unfoldable pub if_stored : List ℕ → List ℕ → Option (List ℕ)
unfolding answer table_in
if_stored l key = cond (eqb (answer (table_in l) key) 0) none (some key)

-- position of a key: "15 for .. a key not stored"
unfoldable pub position_order : List ℕ → List ℕ → List ℕ → Given → List Row
unfolding check_counts_order key_rows key_in row15 if_stored
position_order l work counts given =
    check_counts_order l work counts
    ++ (key_rows l given ++ (row15 (if_stored l (key_in l given)) ∷ []))
