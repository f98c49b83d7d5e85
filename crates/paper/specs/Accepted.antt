-- 01, "The image": an image that meets the rules, stated rule by rule and without the check. 01
-- calls an image accepted if the check, lent enough working numbers, answers 0. That the two
-- agree is demand 2's theorem (`check_exactly`). Beside it stand TRIEFF's own rules on nodes, as
-- 002 words them; an accepted image meets them (`trieff_tree`).
use Rattle.std.specs.Prelude.{ℕ, ◌≤◌, ◌<◌, ◌≡◌, ◌≢◌, true, List, length}
use Rattle.trie.specs.Rules.{LinkRules, Visible}
use Rattle.trie.specs.Tree.{Parent, Ancestor, Reachable}
use Rattle.head.specs.Fields.{shortest_image, longest_image, head_of, permitted, used_len}
use Rattle.alphabet.specs.Letters.{good_alphabet}
use Rattle.paper.specs.Given.{alphabet_in}
use Rattle.paper.specs.Calls.{table_in}

-- an image of these bytes is accepted
pub record Accepted (l : List ℕ) : Type 0 where
  -- at least 28 bytes long
  pub long_enough : shortest_image ≤ length l
  -- at most 16,777,216 bytes long
  pub short_enough : length l ≤ longest_image
  -- each head field is as the column "Permitted" says
  pub head_permitted : permitted (head_of l) ≡ true
  -- where F is not 0, "the F bytes are exactly N well-formed characters, all different"
  pub alphabet_good : 0 < (head_of l).f → good_alphabet (head_of l).n (alphabet_in (head_of l) l)
      ≡ true
  -- U is at most the image's length: "The lent image may be longer"
  pub room : used_len (head_of l) ≤ length l
  -- "every link that isn't empty is at most G", "Every address from 1 to G stands in exactly one
  -- link", and, of 02's Ask 3, "every node must be reached from the root"
  pub links : LinkRules (table_in l) (head_of l).g
  -- 02's Ask 8: no "data at any depth outside min..max"
  pub visible : Visible (table_in l) (head_of l).min (head_of l).max

-- 002, sections Node and Node address: the nodes of an image of these bytes, which are 0 to G,
-- are a tree.
pub record TrieffTree (l : List ℕ) : Type 0 where
  -- "every node except the root node has exactly one parent"
  pub exactly_one : (c : ℕ) → 1 ≤ c → c ≤ (head_of l).g
      → (q : ℕ) × Parent (table_in l) q c × ((p : ℕ) → Parent (table_in l) p c → p ≡ q)
  -- "No two nodes can have the same child"
  pub same_child : (q p c : ℕ) → Parent (table_in l) q c → Parent (table_in l) p c → q ≡ p
  -- "No two adresses in the same document can be equal"
  pub one_address : (q i p j : ℕ) → (table_in l).child q i ≢ 0
      → (table_in l).child q i ≡ (table_in l).child p j
      → (q ≡ p) × (i ≡ j)
  -- "Root node is the first node in the document. It has no parent"
  pub root_parentless : (q : ℕ) → ¬ Parent (table_in l) q 0
  -- a parent and its child are nodes of the document
  pub nodes : (q c : ℕ) → Parent (table_in l) q c → (q ≤ (head_of l).g) × (c ≤ (head_of l).g)
  -- "Node can't be its own ancestor"
  pub not_own_ancestor : (c : ℕ) → ¬ Ancestor (table_in l) c c
  -- "Address can't refer to an ancestor or its own node"
  pub not_back : (q c : ℕ) → Parent (table_in l) q c → (c ≢ q) × (¬ Ancestor (table_in l) c q)
  -- every node is reached from the root
  pub all_reached : (c : ℕ) → c ≤ (head_of l).g → Reachable (table_in l) c
