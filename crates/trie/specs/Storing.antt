-- What a store does to a table. 01, "Walking, storing, listing": "Store, path complete: only the
-- D data bytes change. Path incomplete and value 0: nothing changes, answer 0. Path incomplete
-- otherwise: the empty link that stopped the walk receives G+1; nodes G+1 to G+k are written in
-- key order, each linking to the next by the key's letter, all else zero; the last holds the
-- value".
use Rattle.std.specs.Prelude.{ℕ, zero, suc, ◌+◌, ◌&&◌, cond, List, [], ◌∷◌, length, eqb, ℤ, pos}
use Rattle.std.specs.Prelude.{negsuc}
use Rattle.trie.specs.Table.{Table, Descent, complete, stopped, descend}

-- the table with v as the data of node q
unfoldable pub put : Table → ℕ → ℕ → Table
put t q v = record { child = t.child; value = λ p. cond (eqb p q) v (t.value p) }

-- the table with node c linked by letter x of node q
unfoldable pub grow : Table → ℕ → ℕ → ℕ → Table
grow t q x c =
    record { child = λ p i. cond (eqb p q && eqb i x) c (t.child p i); value = t.value }

-- the table with a new node linked by letter x of node q, and below it one for each letter that
-- follows; the addresses go up by one from `fresh`
unfoldable pub grow_path : Table → ℕ → ℕ → List ℕ → ℕ → Table
unfolding grow
grow_path t q x [] fresh = grow t q x fresh
grow_path t q x (y ∷ ys) fresh = grow_path (grow t q x fresh) fresh y ys (suc fresh)

-- the table after a store of v, given how the key's walk ended; g is its greatest address before
unfoldable pub stored_by : Descent → Table → ℕ → ℕ → Table
unfolding put grow_path
stored_by (complete q) t g v = put t q v
stored_by (stopped q x xs) t g zero = t
stored_by (stopped q x xs) t g (suc v) =
    put (grow_path t q x xs (suc g)) (g + suc (length xs)) (suc v)

-- the table after a store of v for key k
unfoldable pub stored : Table → ℕ → List ℕ → ℕ → Table
unfolding stored_by descend
stored t g k v = stored_by (descend t 0 k) t g v

-- k of 01's table: "the number of nodes missing on the key's path, but 0 where the value is 0"
unfoldable pub added : ℕ → ℕ → ℕ
added missed zero = 0
added missed (suc v) = missed

-- "the change in the number of stored keys: -1, 0 or 1", from the key's old and new value
unfoldable pub change_of : ℕ → ℕ → ℤ
change_of zero zero = pos 0
change_of zero (suc v) = pos 1
change_of (suc old) zero = negsuc 0
change_of (suc old) (suc v) = pos 0
