-- What a walk needs of an image: it is open, no link is above G, and the number of its stored
-- keys fits 32 bits. An accepted image has all of this.
use mathlib.Core.Path.{◌≡◌, sym, subst}
use Prim.Native.Nat.{ℕ, ◌≤◌, ◌<◌, ◌^◌}
use native.Mathlib.Omega.{arith}
use mathlib.Core.List.{List}
use lib.ListN.{length}
use Rattle.trie.specs.Rules.{Within}
use Rattle.trie.specs.Keys.{listing}
use Rattle.head.specs.declared.Head.{Head}
use Rattle.head.specs.Fields.{most_letters, head_of}
use Rattle.head.proofs.Permitted.{bounds}
use Rattle.node.specs.Image.{Open, table_of}
use Rattle.paper.specs.Calls.{table_in, stored_keys}
use Rattle.paper.specs.Accepted.{Accepted}
use Rattle.paper.proofs.CheckCall.{accepted_open, accepted_linked}
use Rattle.paper.proofs.NextKeyCall.{counted_fits}

-- what a walk needs of an image with head h
pub record Walkable (h : Head) (l : List ℕ) : Type 0 where
  pub opened : Open h l
  pub within : Within (table_of h l) h.g
  pub few : length (listing (table_of h l) h.n h.min h.max) < 2 ^ 32

pub walkable : {h : Head} {l : List ℕ} → Accepted l → h ≡ head_of l → Walkable h l
unfolding table_in stored_keys
walkable {h} {l} a e =
    subst (λ (k : Head). Walkable k l) (sym e)
    (record {
      opened = accepted_open a;
      within = (accepted_linked a).within;
      few = counted_fits a;
    })

pub short : {h : Head} {l : List ℕ} → Walkable h l → h.max ≤ most_letters
short {h} w = omega (arith, bounds h w.opened.head_permitted)
