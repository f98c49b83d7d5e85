-- The invariant of the loop over the stack: the links of some node have been followed last, and
-- the stack holds what is left. Each turn follows one node more, so there are at most G+1 turns.
use Prim.Native.Nat.{ℕ, ◌+◌, ◌*◌, ◌≤◌, ◌<◌}
use mathlib.Core.Path.{◌≡◌}
use mathlib.Core.List.{List, ◌++◌}
use native.Mathlib.Nat.{mul-le-mul}
use native.Mathlib.Omega.{arith}
use lib.ListN.{length, set, drop, replicate, length-set}
use Rattle.trie.specs.Rules.{Within}
use Rattle.head.specs.declared.Head.{Head}
use Rattle.head.specs.Fields.{longest_image, node_width}
use Rattle.head.proofs.Permitted.{bounds}
use Rattle.head.proofs.Places.{width_least, used}
use Rattle.node.specs.Image.{Open, table_of}
use Rattle.reaching.specs.Reaching.{RestKept, marks, below_in, Searched, Searching, Spread}
use Rattle.reaching.proofs.Kept.{kept_none, kept_more, kept_set}
use Rattle.reaching.proofs.OnStack.{searching_start, searching_pop, searching_below}
use Rattle.reaching.proofs.OnStack.{searching_room, searched}

-- an image has fewer nodes than bytes, so G+1 and a mark fit a working number
pub nodes_fit : {h : Head} {l : List ℕ} → Open h l → length l ≤ longest_image
    → h.g + 1 ≤ longest_image
nodes_fit {h} {l} o short =
    let wide : 1 ≤ node_width h = omega (arith, width_least (bounds h o.head_permitted)) in
    let same : h.g + 1 ≤ h.g + 1 = omega arith in
    omega (arith, mul-le-mul same wide, used h, o.room)

-- the search after a node
pub record Reaching (h : Head) (l work work' : List ℕ) (followed top : ℕ) : Type 0 where
  pub node : ℕ
  pub room : h.g + 1 ≤ length work'
  pub searching : Searching (table_of h l) h.g h.n node h.n followed top work'
  pub kept : RestKept h.g work work'

-- after the root
pub reaching_start : {h : Head} {l work work' : List ℕ} {top : ℕ} → h.g + 1 ≤ length work
    → work ≡ replicate (h.g + 1) 0 ++ drop (h.g + 1) work
    → Spread h l 0 (h.g + 1) (set work 0 ((h.g + 1) * marks + 1)) top work'
    → Reaching h l work' work' 1 top
reaching_start {h} {l} {work} {work'} room e s =
    record {
      node = 0;
      room = omega (arith, length-set work 0 ((h.g + 1) * marks + 1), s.kept.long);
      searching = s.on 1 (searching_start (table_of h l) h.g h.n work room e);
      kept = kept_none h.g work';
    }

module _ {h : Head} {l work work' : List ℕ} {followed top : ℕ}
    (p : Reaching h l work work' followed top) where
  pub reaching_room : top < h.g + 1 → followed < h.g + 1
  reaching_room below = searching_room p.searching below

  pub reaching_below : top < h.g + 1 → below_in work' top ≤ h.g + 1
  reaching_below below = searching_below p.searching below

  -- after the node at the top of the stack
  pub reaching_more : {top' : ℕ} {work'' : List ℕ} → top < h.g + 1
      → Spread h l top (below_in work' top) work' top' work''
      → Reaching h l work work'' (followed + 1) top'
  reaching_more below s =
      record {
        node = top;
        room = omega (arith, p.room, s.kept.long);
        searching = s.on (followed + 1) (searching_pop p.searching below);
        kept = kept_more p.kept s.kept;
      }

  -- the stack is empty
  pub reaching_all : {before : List ℕ} {top₀ : ℕ} → Within (table_of h l) h.g → h.g + 1 ≤ top
      → Spread h l 0 (h.g + 1) (set before 0 ((h.g + 1) * marks + 1)) top₀ work
      → Searched h l before followed work'
  reaching_all {before} within high s =
      searched p.searching within high
      (kept_more
      (kept_more (kept_set before ((h.g + 1) * marks + 1) (omega arith)) s.kept)
      p.kept)
