-- The nodes of an accepted image are a tree in TRIEFF's own words. Each rule is a law on tables
-- (`trie/proofs/Tree.antt`), since 01's rules on links are part of `Accepted`.
use mathlib.Core.List.{List}
use Prim.Native.Nat.{ℕ}
use Rattle.trie.specs.Tree.{parent, above}
use Rattle.trie.proofs.Tree.{has_parent, one_parent, root_parentless, parent_within, child_within}
use Rattle.trie.proofs.Tree.{not_own_ancestor}
use Rattle.paper.specs.Accepted.{Accepted, TrieffTree}
use Rattle.paper.proofs.CheckCall.{accepted_linked}

pub trieff_tree : {l : List ℕ} → Accepted l → TrieffTree l
trieff_tree {l} a =
    let r = a.links in
    record {
      exactly_one = λ c low high.
          let (q, b) = has_parent r.named low high in
          (q, b, λ p d. (one_parent r.once d b).0);
      same_child = λ q p c b d. (one_parent r.once b d).0;
      one_address = r.once;
      root_parentless = λ q b. root_parentless b;
      nodes = λ q c b. (
        parent_within (accepted_linked a).framed b,
        child_within r.within b,
      );
      not_own_ancestor = λ c b. not_own_ancestor r b;
      not_back = λ q c b. (
        λ e. not_own_ancestor r (rw e at (parent b)),
        λ d. not_own_ancestor r (above b d),
      );
      all_reached = r.reached;
    }
