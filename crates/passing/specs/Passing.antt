-- 02, Ask 7, on tables: "a lent list of counts, one for each node: how many stored keys lie at
-- or under it", and "the key at position i". A key lies at or under a node if its walk from the
-- root passes that node.
use Rattle.std.specs.Prelude.{ℕ, zero, suc, Bool, false, ◌||◌, List, [], ◌∷◌, eqb, length}
use Rattle.std.proofs.Math.Option.{Option, none, some}
use Rattle.trie.specs.Table.{Table, follow}
use Rattle.trie.specs.Keys.{listing, before, filter}

-- whether the walk of a key from node p passes node q; it also passes its first and its last node
unfoldable pub passes : Table → ℕ → ℕ → List ℕ → Bool
unfolding follow
passes t q p [] = eqb p q
passes t q p (x ∷ xs) = eqb p q || follow (t.child p x) false (λ c. passes t q c xs)

-- "how many stored keys lie at or under it", for keys of `least` to `most` letters in a table
-- with n letters
unfoldable pub count_at : Table → ℕ → ℕ → ℕ → ℕ → ℕ
unfolding filter passes
count_at t n least most q = length (filter (passes t q 0) (listing t n least most))

-- "one for each node": what f gives for the k nodes from a on
unfoldable pub one_for_each : (ℕ → ℕ) → ℕ → ℕ → List ℕ
one_for_each f a zero = []
one_for_each f a (suc k) = f a ∷ one_for_each f (suc a) k

-- "the key at position i" of the listing, if there is one; positions count from 0
unfoldable pub key_at : List (List ℕ) → ℕ → Option (List ℕ)
key_at [] i = none
key_at (k ∷ keys) zero = some k
key_at (k ∷ keys) (suc i) = key_at keys i

-- "the position of a stored key": how many keys of the listing come before it
unfoldable pub rank_in : List (List ℕ) → List ℕ → ℕ
unfolding filter before
rank_in keys k = length (filter (λ m. before m k) keys)

-- one key if the data is not 0, otherwise none
unfoldable pub one : ℕ → ℕ
one zero = 0
one (suc v) = 1
