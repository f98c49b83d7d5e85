-- The tally of the links over the working numbers: whether no link, one or more hold each address,
-- which node holds the first link above G, and the marks of the nodes where all is plain.
use Rattle.std.specs.Prelude.{ℕ, ◌+◌, ◌-◌, ◌≤◌, ◌<◌, ◌≡◌, ◌≢◌, Bool, true, false, not, ◌&&◌, List}
use Rattle.std.specs.Prelude.{get_or, eqb, ltb, cond, Option, Some, None}
use Rattle.field.specs.Range.{between}
use Rattle.trie.specs.Table.{Table}
use Rattle.trie.specs.Lowest.{lowest}
use Rattle.head.specs.declared.Head.{Head}
use Rattle.node.specs.Image.{table_of}
use Rattle.paper.specs.Rows.{holds_bad, times_in, times}
use Rattle.reaching.specs.Reaching.{RestKept, Met, deepest, deeper_of, mark_in}

-- the working number of an address that stands in two links or more
abbrev pub again : ℕ
again = 67

-- what working number v tells of an address that stands in m links
pub record Tells (m v : ℕ) : Type 0 where
  pub none : m ≡ 0 → v ≡ 0
  pub one : m ≡ 1 → (1 ≤ v) × (v ≤ deepest)
  pub more : 2 ≤ m → v ≡ again

-- the tally of the addresses 1 to g over the first k nodes
abbrev pub Tally : Table → ℕ → ℕ → ℕ → List ℕ → Type 0
Tally t n g k work = (x : ℕ) → 1 ≤ x → x ≤ g → Tells (times t n x k) (get_or work x 0)

-- has node x data that is not 0, and this mark, which is that of a depth outside min..max?
unfoldable pub hidden_at : Head → Table → ℕ → ℕ → Bool
hidden_at h t x mark = ltb 0 (t.value x) && not (between mark (h.min + 1) (h.max + 1))

-- one of the first k nodes is the parent of node x, comes before it and gave it its mark, and x
-- has no hidden data
pub record MarkedBy (h : Head) (t : Table) (k : ℕ) (work : List ℕ) (x : ℕ) : Type 0 where
  pub node : ℕ
  pub letter : ℕ
  pub done : node < k
  pub before : node < x
  pub link : t.child node letter ≡ x
  pub mark : get_or work x 0 ≡ deeper_of (get_or work node 0)
  pub shown : hidden_at h t x (get_or work x 0) ≡ false

-- if number 0 is still 1, the root has no hidden data, and each of the nodes 1 to G that stands in
-- a link of the first k nodes was marked by its parent
pub record Plain (h : Head) (t : Table) (k : ℕ) (work : List ℕ) : Type 0 where
  pub root : get_or work 0 0 ≡ 1 → hidden_at h t 0 1 ≡ false
  pub marked : get_or work 0 0 ≡ 1 → (x : ℕ) → 1 ≤ x → x ≤ h.g → get_or work x 0 ≢ 0
      → MarkedBy h t k work x

-- the lowest of the k numbers from a on that passes, none if none does
abbrev pub lowest_in : (ℕ → Bool) → ℕ → ℕ → Option ℕ
lowest_in p a k = cond (ltb (lowest p a k) (a + k)) (Some (lowest p a k)) None

-- the lowest node that holds a bad link, and the tally where there is none
pub record BadFrom (h : Head) (l work : List ℕ) (bad : Option ℕ) (work' : List ℕ) : Type 0 where
  pub lowest_bad : bad ≡ lowest_in (λ q. holds_bad h.g (table_of h l) q h.n) 0 (h.g + 1)
  pub tally : bad ≡ None → Tally (table_of h l) h.n h.g (h.g + 1) work'
  pub plain : bad ≡ None → Plain h (table_of h l) (h.g + 1) work'
  pub kept : RestKept h.g work work'

-- the first i links of node q are counted: none is bad, the tally of each address has grown by
-- the links that hold it, and what was plain with the nodes below q is so with q
pub record LinksCounted (h : Head) (t : Table) (q i : ℕ) (work work' : List ℕ) : Type 0 where
  pub good : holds_bad h.g t q i ≡ false
  pub met : (x m : ℕ) → 1 ≤ x → x ≤ h.g → Tells m (get_or work x 0)
      → Tells (m + times_in t x q i) (get_or work' x 0)
  pub plain : Plain h t q work → Plain h t (q + 1) work'

-- the links of a node are all counted, or one is bad
pub record Tallied (h : Head) (l : List ℕ) (q : ℕ) (work : List ℕ) (r : Bool) (work' : List ℕ)
    : Type 0 where
  pub counted : r ≡ true → LinksCounted h (table_of h l) q h.n work work'
  pub bad : r ≡ false → holds_bad h.g (table_of h l) q h.n ≡ true
  pub kept : RestKept h.g work work'

-- no working number from number 1 on, below `nodes`, is 0
abbrev pub AllMet : List ℕ → ℕ → Type 0
AllMet work nodes = (x : ℕ) → 1 ≤ x → x < nodes → Met work x

-- the lowest address from 1 on, below `nodes`, whose working number is v, if there is one
abbrev pub FoundFrom : List ℕ → ℕ → ℕ → Option ℕ → Type 0
FoundFrom work nodes v r = r ≡ lowest_in (λ x. eqb (get_or work x 0) v) 1 (nodes - 1)

-- the lowest node that has hidden data, by the marks in the working numbers, if there is one
abbrev pub HiddenFrom : Head → List ℕ → List ℕ → Option ℕ → Type 0
HiddenFrom h l work r =
    r ≡ lowest_in (λ x. hidden_at h (table_of h l) x (mark_in work x)) 0 (h.g + 1)
