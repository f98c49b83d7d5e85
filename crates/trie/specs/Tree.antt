-- TRIEFF's own words for nodes (source document 002, sections Node and Node address): parents,
-- ancestors, and the nodes that are reached from the root. They speak of a table. Link 0 is
-- empty and refers to no node. At the end, what computes of it: how many links lead from the root
-- to a node.
use Rattle.std.specs.Prelude.{ℕ, zero, suc, ◌+◌, ◌≡◌, ◌≢◌, Bool, false, ◌&&◌, List, eqb, leb}
use Rattle.trie.specs.Table.{Table, complete, descend}
use Rattle.trie.specs.Lowest.{any_below, lowest}

-- node q is a parent of node c: a link of q that is not empty holds the address of c
pub record Parent (t : Table) (q c : ℕ) : Type 0 where
  pub letter : ℕ
  pub link : t.child q letter ≡ c
  pub full : c ≢ 0

-- node q is an ancestor of node c: a parent of c, or a parent of an ancestor of c
pub data Ancestor (t : Table) : ℕ → ℕ → Type 0 where
  parent : {q c : ℕ} → Parent t q c → Ancestor t q c
  above : {q p c : ℕ} → Parent t q p → Ancestor t p c → Ancestor t q c

-- node c is reached from the root: some key's walk ends there
abbrev pub Reachable : Table → ℕ → Type 0
Reachable t c = (k : List ℕ) × (descend t 0 k ≡ complete c)

-- does a link of node q, which has n links, hold the address x?
unfoldable pub holds_address : Table → ℕ → ℕ → ℕ → Bool
unfolding any_below
holds_address t n q x = any_below (λ i. eqb (t.child q i) x) n

-- do k links lead from the root to node x? The nodes are 0 to g, with n links each.
unfoldable pub at_depth : Table → ℕ → ℕ → ℕ → ℕ → Bool
unfolding any_below holds_address
at_depth t n g zero x = eqb x 0
at_depth t n g (suc k) zero = false
at_depth t n g (suc k) (suc x) =
    any_below (λ q. holds_address t n q (suc x) && at_depth t n g k q) (g + 1)

-- the least number of links that lead from the root to node x, or g + 1 if x is not reached: no
-- more than g are needed (`trie/proofs/Depth.antt: reached_depth`)
unfoldable pub depth_of : Table → ℕ → ℕ → ℕ → ℕ
unfolding lowest at_depth
depth_of t n g x = lowest (λ k. at_depth t n g k x) 0 (g + 1)

-- is node x at a depth from `least` to `most`?
unfoldable pub depth_within : Table → ℕ → ℕ → ℕ → ℕ → ℕ → Bool
unfolding any_below at_depth
depth_within t n g least most x = any_below (λ d. leb least d && at_depth t n g d x) (most + 1)
