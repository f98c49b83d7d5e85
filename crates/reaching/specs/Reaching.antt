-- 02, Ask 3: "every node must be reached from the root"; Ask 8: "data at any depth outside
-- min..max". Here is what a search over the working numbers finds, and what holds while it runs.
use Rattle.std.specs.Prelude.{ℕ, zero, suc, ◌+◌, ◌/◌, ◌%◌, ◌≤◌, ◌<◌, min, ◌≡◌, ◌≢◌, ◌⊎◌, cond, eqb}
use Rattle.std.specs.Prelude.{length, get_or, drop}
use mathlib.Core.List.{List, [], ◌∷◌, Memᴰ}
use Rattle.trie.specs.Table.{Table, complete, descend}
use Rattle.trie.specs.Tree.{Reachable}
use Rattle.head.specs.declared.Head.{Head}
use Rattle.node.specs.Image.{table_of}

-- the list of working numbers keeps its length, and from G+1 on what it held
pub record RestKept (g : ℕ) (work work' : List ℕ) : Type 0 where
  pub long : length work' ≡ length work
  pub rest : drop (g + 1) work' ≡ drop (g + 1) work

-- ---- marks

-- the mark of a depth above 64, which no key has
abbrev pub deepest : ℕ
deepest = 66

-- marks are below this
abbrev pub marks : ℕ
marks = 128

-- the mark of a child, from its parent's
abbrev pub deeper_of : ℕ → ℕ
deeper_of mark = min deepest (mark + 1)

-- `mark` is that of node x: a key leads there, and its length and one is the mark, at most 66
pub record Marked (t : Table) (x mark : ℕ) : Type 0 where
  pub key : List ℕ
  pub leads : descend t 0 key ≡ complete x
  pub told : mark ≡ min deepest (length key + 1)

-- the mark in a working number, and the node that it names: the one below on the stack
abbrev pub mark_in : List ℕ → ℕ → ℕ
mark_in work x = get_or work x 0 % marks

abbrev pub below_in : List ℕ → ℕ → ℕ
below_in work x = get_or work x 0 / marks

-- ---- what the search finds

-- node x has been met
abbrev pub Met : List ℕ → ℕ → Type 0
Met work x = get_or work x 0 ≢ 0

-- the nodes that are reached, and how many were met
pub record Searched (h : Head) (l work : List ℕ) (met : ℕ) (work' : List ℕ) : Type 0 where
  -- a node whose number is not 0 is reached from the root, and has its mark; no other node is
  pub marked : (x : ℕ) → x ≤ h.g → Met work' x → Marked (table_of h l) x (mark_in work' x)
  pub unmarked : (x : ℕ) → x ≤ h.g → get_or work' x 0 ≡ 0 → ¬ Reachable (table_of h l) x
  -- where as many nodes are met as there are, each is; else one is not
  pub all : met ≡ h.g + 1 → (x : ℕ) → x ≤ h.g → Met work' x
  pub some : met ≢ h.g + 1 → (x : ℕ) × (1 ≤ x) × (x ≤ h.g) × (get_or work' x 0 ≡ 0)
  pub kept : RestKept h.g work work'

-- ---- while the search runs

-- the stack from its top on: the working number of each node names the next, and that of the last
-- names `end`
abbrev pub Stack : List ℕ → ℕ → ℕ → List ℕ → Type 0
Stack work end top [] = top ≡ end
Stack work end top (x ∷ rest) =
    (top ≡ x) × (1 ≤ x) × (x < end) × Stack work end (below_in work x) rest

-- how many of the first m working numbers are 0
unfoldable pub vacant : List ℕ → ℕ → ℕ
vacant work zero = 0
vacant work (suc m) = vacant work m + cond (eqb (get_or work m 0) 0) 1 0

-- the links of node x have been followed, or the first i of them if x is q: the nodes that they
-- lead to have been met
abbrev pub LinksMet : Table → ℕ → ℕ → ℕ → List ℕ → ℕ → Type 0
LinksMet t n q i work x = (j : ℕ) → j < n → (x ≡ q → j < i) → Met work (t.child x j)

-- The search, once it has followed the first i of the n links of node q. A node that has been met
-- has its mark, and it is on the stack or its links have been followed. Each node is counted once:
-- as followed, as on the stack, or as not met.
pub record Searching (t : Table) (g n q i : ℕ) (followed top : ℕ) (work : List ℕ) : Type 0 where
  pub pending : List ℕ
  pub stack : Stack work (g + 1) top pending
  pub root : Met work 0
  pub here : Met work q
  pub marked : (x : ℕ) → x ≤ g → Met work x → Marked t x (mark_in work x)
  pub closed : (x : ℕ) → x ≤ g → Met work x → Memᴰ x pending ⊎ LinksMet t n q i work x
  pub counted : followed + length pending + vacant work (g + 1) ≡ g + 1

-- the links of node q have been followed
pub record Spread (h : Head) (l : List ℕ) (q top : ℕ) (work : List ℕ) (top' : ℕ) (work' : List ℕ)
    : Type 0 where
  pub on : (followed : ℕ) → Searching (table_of h l) h.g h.n q 0 followed top work
      → Searching (table_of h l) h.g h.n q h.n followed top' work'
  pub kept : RestKept h.g work work'
