-- 01, "Walking, storing, listing": "A stored key is one with length in min..max whose data is
-- not 0". What this means for a node at a depth. The depth is the length of the key that ends
-- there.
use Rattle.std.specs.Prelude.{ℕ, ◌-◌, ◌<◌, ◌≡◌, Bool, true, false, cond, [], ltb}
use Rattle.trie.specs.Table.{Table}
use Rattle.trie.specs.Beyond.{keys_from}
use Rattle.head.specs.declared.Head.{Head}

-- the data of a node at a depth, or 0 where a key of that length is too short to be stored
unfoldable pub own_value : Head → Table → ℕ → ℕ → ℕ
own_value h t q depth = cond (ltb depth h.min) 0 (t.value q)

-- what the answer promises of the keys below a node at a depth: true, that there is none, from
-- any letter on; false, only that a letter may follow
pub record KeysBelow (h : Head) (t : Table) (q depth : ℕ) (no_keys : Bool) : Type 0 where
  pub nothing : no_keys ≡ true
      → (x : ℕ) → keys_from t h.n (h.min - depth) (h.max - depth) q x ≡ []
  pub deep : no_keys ≡ false → depth < h.max
