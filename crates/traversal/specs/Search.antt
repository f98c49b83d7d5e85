-- 01, "Walking, storing, listing": "gives the first stored key that meets it". What a search
-- answers about the key that it looks for, and the path that it leaves: the letters of the key,
-- and the nodes on its path, the root first.
use Rattle.std.specs.Prelude.{ℕ, suc, ◌-◌, ◌≤◌, ◌<◌, ◌≡◌, Bool, List, ◌++◌, map, length, get_or}
use Rattle.std.specs.Prelude.{take, Option as Maybe, Some, None}
use Rattle.std.proofs.Math.Option.{Option, none, some}
use Rattle.trie.specs.Table.{Table, complete, descend, answer, LettersBelow}
use Rattle.trie.specs.Keys.{listing, meets, first_meeting}
use Rattle.trie.specs.Beyond.{keys_from, beyond}
use Rattle.head.specs.declared.Head.{Head}
use Rattle.node.specs.Image.{table_of}
use Rattle.depths.specs.declared.Spot.{Spot}

-- room for the letters of the longest key, and for the nodes on its path
pub record PathRoom (h : Head) (path nodes : List ℕ) : Type 0 where
  pub letters : h.max ≤ length path
  pub ends : h.max < length nodes

-- the first j letters of the path lead from the root to entry j of the nodes, for each j up to
-- `depth`
pub record Along (h : Head) (l : List ℕ) (depth : ℕ) (path nodes : List ℕ) : Type 0 where
  pub letters : LettersBelow h.n (take depth path)
  pub ends : (j : ℕ) → j ≤ depth
      → descend (table_of h l) 0 (take j path) ≡ complete (get_or nodes j 0)

-- the path is that of key k
pub record Reached (h : Head) (l k path nodes : List ℕ) : Type 0 where
  pub short : length k ≤ h.max
  pub letters : take (length k) path ≡ k
  pub along : Along h l (length k) path nodes

-- "the first stored key that meets it"
abbrev pub next_stored : Head → List ℕ → Bool → List ℕ → Option (List ℕ)
next_stored h l after k =
    first_meeting (meets after k) (listing (table_of h l) h.n h.min h.max)

-- the answer of a search for a key, if there is one
unfoldable pub search_of : Table → Option (List ℕ) → Maybe Spot
unfolding answer
search_of t none = None
search_of t (some k) = Some (record { length = length k; value = answer t k })

-- what a search promises: its answer and, if there is a key, the key's path
pub record SearchTells (h : Head) (l : List ℕ) (sought : Option (List ℕ)) (r : Maybe Spot)
    (path nodes : List ℕ) : Type 0 where
  pub answers : r ≡ search_of (table_of h l) sought
  pub reached : (k : List ℕ) → sought ≡ some k → Reached h l k path nodes

-- The definitions by which the inner searches are stated.

-- the stored keys below a node at a depth, from a letter on, with the path's first `depth`
-- letters before them
unfoldable pub ahead : Head → List ℕ → List ℕ → ℕ → ℕ → ℕ → List (List ℕ)
ahead h l path depth q x =
    map (take depth path ++◌) (keys_from (table_of h l) h.n (h.min - depth) (h.max - depth) q x)

-- the stored keys still to come when the path's first `depth` letters were followed and the
-- letters below x are done there
unfoldable pub coming : Head → List ℕ → List ℕ → ℕ → ℕ → List (List ℕ)
coming h l path depth x = beyond (table_of h l) h.n h.min h.max 0 (take depth path) x

-- a search below a depth keeps the path up to that depth
pub record PathKept (depth : ℕ) (path₀ nodes₀ path nodes : List ℕ) : Type 0 where
  pub letters : take depth path ≡ take depth path₀
  pub ends : take (suc depth) nodes ≡ take (suc depth) nodes₀

-- how far a key can be followed: to its end, or to an empty link
pub record Followed (h : Head) (l k path nodes : List ℕ) (depth : ℕ) : Type 0 where
  pub short : depth ≤ length k
  pub letters : take depth path ≡ take depth k
  pub along : Along h l depth path nodes
  pub stops : depth < length k → (table_of h l).child (get_or nodes depth 0) (get_or k depth 0) ≡ 0
