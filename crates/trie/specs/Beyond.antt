-- What of a listing is still to come at a point of a search: the keys below a node from a letter
-- on, and the keys after a path. The searches of `traversal` are stated with these definitions.
-- The listing itself is `Keys.antt: listing`.
use Rattle.std.specs.Prelude.{ℕ, zero, suc, pred, ◌-◌, List, [], ◌∷◌, ◌++◌, map}
use Rattle.std.proofs.Math.Option.{Option, none, some}
use Rattle.trie.specs.Table.{Table, follow}
use Rattle.trie.specs.Keys.{by_letter, keys_under}

-- the first of the keys, if there is one
unfoldable pub first_of : List (List ℕ) → Option (List ℕ)
first_of [] = none
first_of (k ∷ ks) = some k

-- the keys below node q, without its own key, whose first letter is x or later, written from q
-- on; `short` and `left` are as in `keys_under`
unfoldable pub keys_from : Table → ℕ → ℕ → ℕ → ℕ → ℕ → List (List ℕ)
unfolding by_letter follow keys_under
keys_from t n short zero q x = []
keys_from t n short (suc left) q x =
    by_letter (λ i. follow (t.child q i) [] (λ c. keys_under t n (pred short) left c)) x (n - x)

-- The keys under node q that come after the path k from q, where the letters below x are done at
-- the path's end. First come the keys below the path's end from letter x on. Then, from the
-- path's last letter back to its first, come the keys with a later letter at the node where that
-- letter was taken.
unfoldable pub beyond : Table → ℕ → ℕ → ℕ → ℕ → List ℕ → ℕ → List (List ℕ)
unfolding keys_from
beyond t n short left q [] x = keys_from t n short left q x
beyond t n short left q (y ∷ k) x =
    map (λ (m : List ℕ). y ∷ m) (beyond t n (pred short) (pred left) (t.child q y) k x)
    ++ keys_from t n short left q (suc y)
