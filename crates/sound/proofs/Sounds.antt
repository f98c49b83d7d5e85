-- The check passes an accepted image that is lent a working number for each node, and an image
-- that it passes is accepted. So the nodes of a `Sound` are those of an accepted image, and what
-- holds of each such image holds of them.
use Prim.Native.Nat.{◌+◌, ◌≤◌}
use mathlib.Core.Path.{◌≡◌, ap}
use native.Mathlib.Omega.{arith}
use lib.ListN.{length, replicate, length-replicate}
use mathlib.Core.List.{List}
use Prim.Native.Nat.{ℕ}
use Rattle.trie.specs.Rules.{Within}
use Rattle.head.specs.declared.Head.{Head}
use Rattle.head.specs.Fields.{head_of}
use Rattle.node.specs.Read.{node_table}
use Rattle.paper.specs.Accepted.{Accepted}
use Rattle.paper.specs.Calls.{table_in}
use Rattle.paper.proofs.CheckCall.{accepted_checks, check_accepts}
use Rattle.sound.specs.CheckPassed.{Passed}
use Rattle.sound.specs.declared.Sound.{Sound}

pub accepted_passes : {l : List ℕ} {h : Head} → Accepted l → h ≡ head_of l → Passed h l
accepted_passes {l} {h} a own =
    let long : (head_of l).g + 1 ≡ length (replicate {A = ℕ} (h.g + 1) 0) =
    omega (arith, length-replicate {A = ℕ} (h.g + 1) 0, ap (λ (i : Head). i.g) own) in
    accepted_checks l (replicate (h.g + 1) 0) a (omega (arith, long))

-- the image is accepted
pub sound_accepted : (s : Sound) → Accepted s.nodes.image.now
sound_accepted s = check_accepts _ _ s.passed

-- no link is above G
sound_within : (s : Sound) → Within (node_table s.nodes) s.nodes.head.g
unfolding table_in
sound_within s =
    let w = (sound_accepted s).links.within in
    rw s.own w

-- so a link leads to a node
pub sound_link : (s : Sound) (q i : ℕ) {c : ℕ} → c ≡ (node_table s.nodes).child q i
    → c ≤ s.nodes.head.g
sound_link s q i e = omega (arith, e, sound_within s q i)
