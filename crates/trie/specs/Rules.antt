-- The rules on the nodes of a table: on links, each by itself and then as one record, and on data.
-- 01: "every link that isn't empty is
-- at most G" and "Every address from 1 to G stands in exactly one link". 02, Ask 3: "every node
-- must be reached from the root", instead of 01's "and greater than the address of the node it
-- stands in". `Framed` says that a table has no link outside its nodes and letters, so no rule
-- repeats these bounds. An empty link is 0, which is at most G.
use Rattle.std.specs.Prelude.{ℕ, ◌≤◌, ◌<◌, ◌≡◌, ◌≢◌, List, length}
use Rattle.trie.specs.Table.{Table, answer}
use Rattle.trie.specs.Tree.{Reachable}

-- outside the nodes 0..g and the letters below n, all links and data are 0
pub record Framed (t : Table) (g n : ℕ) : Type 0 where
  pub no_node : (q i : ℕ) → g < q → t.child q i ≡ 0
  pub no_letter : (q i : ℕ) → n ≤ i → t.child q i ≡ 0
  pub no_data : (q : ℕ) → g < q → t.value q ≡ 0

-- "every link that isn't empty is at most G"
abbrev pub Within : Table → ℕ → Type 0
Within t g = (q i : ℕ) → t.child q i ≤ g

-- "Every address from 1 to G stands in [..] one link": in at least one
abbrev pub Named : Table → ℕ → Type 0
Named t g = (x : ℕ) → 1 ≤ x → x ≤ g → (q : ℕ) × (i : ℕ) × (t.child q i ≡ x)

-- "exactly one": two links that hold the same address are the same link
abbrev pub Once : Table → Type 0
Once t = (q i p j : ℕ) → t.child q i ≢ 0 → t.child q i ≡ t.child p j → (q ≡ p) × (i ≡ j)

-- "every node must be reached from the root"
abbrev pub AllReached : Table → ℕ → Type 0
AllReached t g = (c : ℕ) → c ≤ g → Reachable t c

-- All the rules, for a table with greatest address g. The table of an accepted image meets them.
pub record LinkRules (t : Table) (g : ℕ) : Type 0 where
  pub within : Within t g
  pub named : Named t g
  pub once : Once t
  pub reached : AllReached t g

-- 02, Ask 8: no "data at any depth outside min..max". A key whose data is not 0 has a length in
-- min..max; its length is the depth of its node.
abbrev pub Visible : Table → ℕ → ℕ → Type 0
Visible t least most =
    (k : List ℕ) → answer t k ≢ 0 → (least ≤ length k) × (length k ≤ most)

-- What the laws on a store's answers and links require of a table, and what a store keeps. It
-- leaves out `AllReached`, which few laws use: a store keeps it (`trie/proofs/Rules.antt:
-- stored-rules`), and by it no node is its own ancestor (`trie/proofs/Tree.antt:
-- not-own-ancestor`).
pub record Linked (t : Table) (g n : ℕ) : Type 0 where
  pub framed : Framed t g n
  pub within : Within t g
  pub named : Named t g
  pub once : Once t
