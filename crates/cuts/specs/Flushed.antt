-- 02, Ask 1, on a device with a cache: a write is issued, and has landed for certain only after a
-- flush. `Cut` flushes after every write. The new nodes lie in spare bytes until G has landed, so
-- they need no order among themselves: here they share one flush. A flush comes before G, before
-- the link and after it; a data field has one flush, after it. The list of writes and its order
-- stay as they are. At a start the firmware writes back all that it read from the device, before
-- it mends: this may be cut in turn, any number of times.
use Rattle.std.specs.Prelude.{ℕ, zero, suc, Bool, cond, List, [], ◌∷◌, ◌++◌, leb}
use Rattle.std.proofs.lemmas.List.Edits.{sets}
use Rattle.head.specs.Fields.{head_of, used_len}
use Rattle.node.specs.Writes.{Write, carried_out}
use Rattle.paper.specs.Calls.{writes_in}
use Rattle.cuts.specs.Cut.{torn}

-- ---- which writes share a flush

-- the writes issued since the last flush, flushed; where there are none, no flush is made
unfoldable pub closed : List Write → List (List Write) → List (List Write)
closed [] groups = groups
closed (w ∷ ws) groups = (w ∷ ws) ∷ groups

-- A list of writes in groups, with a flush after each group. `since` are the writes issued since
-- the last flush. A flush comes before and after each write that does not go to spare bytes, which
-- is one that begins below u, and after the last write.
unfoldable pub flushed : ℕ → List Write → List Write → List (List Write)
unfolding closed
flushed u since [] = closed since []
flushed u since (w ∷ ws) =
    cond (leb u w.place) (flushed u (since ++ (w ∷ [])) ws)
    (closed since ((w ∷ []) ∷ flushed u [] ws))

-- the writes of a store in groups, with a flush after each
abbrev pub groups_in : List ℕ → List ℕ → ℕ → List (List Write)
groups_in l key value = flushed (used_len (head_of l)) [] (writes_in l key value)

-- ---- what a cut can leave

-- A write since the last flush, when the cut comes. "A write of G, a link or a data field lands
-- whole or not at all; one to spare bytes may land in part": any of its bytes may have landed.
unfoldable pub landing : ℕ → (ℕ → Bool) → List ℕ → Write → List ℕ
unfolding torn
landing u lands l w =
    cond (leb u w.place) (torn lands l w.place w.bytes)
    (cond (lands w.place) (sets l w.place w.bytes) l)

-- All writes since the last flush. Of write i those bytes landed whose place `lands i` names. The
-- device may have taken them in any order, since no two writes of a store go to one byte.
unfoldable pub landed : ℕ → (ℕ → ℕ → Bool) → List ℕ → List Write → List ℕ
unfolding landing
landed u lands l [] = l
landed u lands l (w ∷ ws) = landed u (λ i. lands (suc i)) (landing u (lands 0) l w) ws

-- The same writes in rounds: in the store, and at each start after it that wrote back what it had
-- read and was cut in turn. What was read of these writes may have been in a cache alone; every
-- other byte is written back as it is. For each round, what landed in it.
unfoldable pub in_rounds : ℕ → List (ℕ → ℕ → Bool) → List ℕ → List Write → List ℕ
unfolding landed
in_rounds u [] l ws = l
in_rounds u (lands ∷ rounds) l ws = in_rounds u rounds (landed u lands l ws) ws

-- A cut after the first k flushes. What was flushed has landed whole, of the next group anything
-- may have landed in each round, and no write of a later group was issued.
unfoldable pub cut_since : ℕ → List (ℕ → ℕ → Bool) → List ℕ → List (List Write) → List ℕ
unfolding in_rounds carried_out used_len head_of
cut_since k rounds l [] = l
cut_since zero rounds l (ws ∷ groups) = in_rounds (used_len (head_of l)) rounds l ws
cut_since (suc k) rounds l (ws ∷ groups) = cut_since k rounds (carried_out l ws) groups
