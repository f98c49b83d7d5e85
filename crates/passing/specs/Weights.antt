-- The counts of 02's Ask 7 ("how many stored keys lie at or under it"), as a walk through the
-- tree adds them up: each node that it meets adds the number of keys at or under it to its own
-- count. The law `weight_count` says that the sums are the counts. `weight_from` is to the sums
-- what `keys_from` is to the keys.
use Rattle.std.specs.Prelude.{ℕ, zero, suc, pred, ◌+◌, ◌-◌, cond, eqb, length}
use Rattle.trie.specs.Table.{Table, follow}
use Rattle.trie.specs.Keys.{keys_under}

-- f x + f (x + 1) + .., m numbers in all
unfoldable pub sum_from : (ℕ → ℕ) → ℕ → ℕ → ℕ
sum_from f x zero = 0
sum_from f x (suc m) = f x + sum_from f (suc x) m

-- what the nodes at or under p add to the count of node q; `short` and `left` are as in
-- `keys_under`
unfoldable pub weight_at : Table → ℕ → ℕ → ℕ → ℕ → ℕ → ℕ
unfolding keys_under follow sum_from
weight_at t n short zero q p = cond (eqb p q) (length (keys_under t n short 0 p)) 0
weight_at t n short (suc left) q p =
    cond (eqb p q) (length (keys_under t n short (suc left) p)) 0
    + sum_from (λ i. follow (t.child p i) 0 (λ c. weight_at t n (pred short) left q c)) 0 n

-- what the nodes under p add whose letter there is x or later
unfoldable pub weight_from : Table → ℕ → ℕ → ℕ → ℕ → ℕ → ℕ → ℕ
unfolding weight_at follow sum_from
weight_from t n short zero q p x = 0
weight_from t n short (suc left) q p x =
    sum_from (λ i. follow (t.child p i) 0 (λ c. weight_at t n (pred short) left q c)) x (n - x)
