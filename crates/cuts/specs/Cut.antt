-- 02, Ask 1: what a cut can leave. The writes before the cut have landed whole. "A write of G, a
-- link or a data field lands whole or not at all; one to spare bytes may land in part": any of
-- its bytes may have landed. No later write was begun.
use Rattle.std.specs.Prelude.{ℕ, zero, suc, Bool, cond, List, [], ◌∷◌, set, leb}
use Rattle.std.proofs.lemmas.List.Edits.{sets}
use Rattle.head.specs.Fields.{head_of, used_len}
use Rattle.node.specs.Writes.{Write}

-- bytes written from a place on, of which only those land whose place `lands` names
unfoldable pub torn : (ℕ → Bool) → List ℕ → ℕ → List ℕ → List ℕ
torn lands l at [] = l
torn lands l at (b ∷ bs) = torn lands (cond (lands at) (set l at b) l) (suc at) bs

-- the write that the cut hits: one to spare bytes, which begins at U or later, may land in part;
-- any other does not land
unfoldable pub hit : (ℕ → Bool) → List ℕ → Write → List ℕ
unfolding torn head_of used_len
hit lands l w = cond (leb (used_len (head_of l)) w.place) (torn lands l w.place w.bytes) l

-- A cut after the first k writes of a list hits the next write. If that write landed whole, the
-- cut is one after k+1 writes, where nothing of the write after it landed.
unfoldable pub cut_after : ℕ → (ℕ → Bool) → List ℕ → List Write → List ℕ
unfolding hit
cut_after k lands l [] = l
cut_after zero lands l (w ∷ ws) = hit lands l w
cut_after (suc k) lands l (w ∷ ws) = cut_after k lands (sets l w.place w.bytes) ws
