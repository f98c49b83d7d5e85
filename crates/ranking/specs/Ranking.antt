-- 02, Ask 7: "From it answer the key at position i [..] and the position of a stored key." What
-- the way by counts answers, and the counts that it goes by at each node.
use Rattle.std.specs.Prelude.{ℕ, suc, ◌+◌, ◌-◌, ◌^◌, ◌<◌, ◌≡◌, cond, ◌≢◌, List, [], ◌∷◌, eqb}
use Rattle.std.specs.Prelude.{length, get_or, take, Option, Some, None}
use Rattle.std.proofs.Math.Option.{some}
use Rattle.trie.specs.Table.{answer, follow}
use Rattle.trie.specs.Keys.{keys_under}
use Rattle.trie.specs.Beyond.{keys_from}
use Rattle.head.specs.declared.Head.{Head}
use Rattle.node.specs.Image.{table_of}
use Rattle.passing.specs.Passing.{key_at, rank_in}
use Rattle.depths.specs.declared.Spot.{Spot}
use Rattle.passing.specs.Weights.{sum_from}
use Rattle.paper.specs.Calls.{table_in, stored_keys}
use Rattle.ranking.specs.declared.Branch.{Branch}

-- the key at a position: its length, its value, and its letters at the front of the path
pub record Spotted (l : List ℕ) (position : ℕ) (r : Spot) (path : List ℕ) : Type 0 where
  pub key : List ℕ
  pub there : key_at (stored_keys l) position ≡ some key
  pub long : r.length ≡ length key
  pub value : r.value ≡ answer (table_in l) key
  pub letters : take (length key) path ≡ key

-- the position of a key, if it is stored
unfoldable pub ranked_of : List ℕ → List ℕ → Option ℕ
unfolding answer table_in rank_in stored_keys
ranked_of l key =
    cond (eqb (answer (table_in l) key) 0) None (Some (rank_in (stored_keys l) key))

-- the keys at or under the child for letter i of node p at a depth; none if the link is empty
abbrev pub under_letter : Head → List ℕ → ℕ → ℕ → ℕ → List (List ℕ)
under_letter h l p depth i =
    follow ((table_of h l).child p i) []
    (λ c. keys_under (table_of h l) h.n (h.min - suc depth) (h.max - suc depth) c)

-- for each child of node p at a depth, the list has the number of keys at or under it
abbrev pub ChildCounts : Head → List ℕ → ℕ → ℕ → List ℕ → Type 0
ChildCounts h l p depth counts =
    (i : ℕ) → (table_of h l).child p i ≢ 0
    → ((table_of h l).child p i < length counts)
    × (get_or counts ((table_of h l).child p i) 0 ≡ length (under_letter h l p depth i))

-- the number of keys at or under the children whose letters are below x
unfoldable pub under_lower : Head → List ℕ → ℕ → ℕ → ℕ → ℕ
unfolding sum_from follow keys_under
under_lower h l p depth x = sum_from (λ i. length (under_letter h l p depth i)) 0 x

-- with the keys passed before, this number fits 32 bits
abbrev pub RankFits : Head → List ℕ → ℕ → ℕ → ℕ → ℕ → Type 0
RankFits h l p depth x before = before + under_lower h l p depth x < 2 ^ 32

-- the keys below node p at a depth, without the node's own key
abbrev pub keys_below : Head → List ℕ → ℕ → ℕ → List (List ℕ)
keys_below h l p depth = keys_from (table_of h l) h.n (h.min - depth) (h.max - depth) p 0

-- the child at or under which the key at a position below node p is
pub record Under (h : Head) (l : List ℕ) (p depth position : ℕ) (r : Branch) : Type 0 where
  pub letter : r.letter < h.n
  pub child : r.child ≡ (table_of h l).child p r.letter
  pub linked : r.child ≢ 0
  pub inside : r.left < length (under_letter h l p depth r.letter)
  pub there : (k : List ℕ) → key_at (under_letter h l p depth r.letter) r.left ≡ some k
      → key_at (keys_below h l p depth) position ≡ some (r.letter ∷ k)
