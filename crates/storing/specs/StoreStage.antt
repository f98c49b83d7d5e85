-- 01, "store: 1 to 8, 9, 10, 11, 12, 13": the part after 10. If an image has been checked and a
-- key has passed 9 and 10, this part answers and leaves in the image what the whole call does,
-- whatever working numbers were lent.
use Rattle.std.specs.Prelude.{ℕ, suc, ◌+◌, ◌^◌, ◌≤◌, ◌<◌, ◌≡◌, List, [], ◌∷◌, ◌++◌, length, drop}
use Rattle.std.specs.Prelude.{ℤ, Result}
use Rattle.std.proofs.Math.Option.{none}
use Rattle.trie.specs.Table.{Descent, complete, stopped, descend, value_at, missing}
use Rattle.trie.specs.Storing.{added, change_of}
use Rattle.head.specs.declared.Head.{Head}
use Rattle.head.specs.Fields.{head_of, node_place}
use Rattle.node.specs.Image.{table_of}
use Rattle.node.specs.Writes.{carried_out, new_nodes, total_write, link_write, store_writes}
use Rattle.paper.specs.declared.Refusal.{Refusal}
use Rattle.paper.specs.Hearing.{Outcome, outcome, done_numbers, first, heard}
use Rattle.paper.specs.Answers.{stored_of}
use Rattle.paper.specs.Orders.{adding_rows}
use Rattle.paper.specs.Calls.{table_in}
use Rattle.key.specs.declared.Key.{Key}
use Rattle.walk.specs.declared.Position.{Position}
use Rattle.walk.specs.declared.Walked.{Walked}

-- the outcome of 11, 12, 13 and of the writes, given how the key's walk ended
unfoldable pub store_at : Head → List ℕ → Descent → ℕ → Outcome
unfolding heard first adding_rows added missing done_numbers change_of value_at table_of
    carried_out
    store_writes
store_at h l d value =
    heard (first (adding_rows h value (added (missing d) value) (length l))) (l ∷ [])
    (outcome (done_numbers 0 (change_of (value_at (table_of h l) d) value) 0)
    (carried_out l (store_writes h d value) ∷ []))

-- the outcome for a key, by its descent from the root
abbrev pub StoresIn : List ℕ → List ℕ → ℕ → Result ℤ Refusal → List ℕ → Type 0
StoresIn l key value r l' =
    outcome (stored_of r) (l' ∷ []) ≡ store_at (head_of l) l (descend (table_in l) 0 key) value

-- ---- the parts of it

-- a walk that stopped: at a node of the image, before the end of the key
pub record Stop (h : Head) (key : Key) (at : Position) : Type 0 where
  pub node : at.node ≤ h.g
  pub depth : at.depth < key.len

-- a walk that stopped at node q with these letters left, as a descent; at least one letter is
-- left
unfoldable pub stopped_at : ℕ → List ℕ → Descent
stopped_at q [] = complete q
stopped_at q (x ∷ xs) = stopped q x xs

-- how a key's walk ended, as a descent
unfoldable pub end_of : List ℕ → Walked → Descent
unfolding stopped_at
end_of k (Walked.Complete q) = complete q
end_of k (Walked.Stopped p) = stopped_at p.node (drop p.depth k)

-- how a walk may end: at a node of the image
abbrev pub Ends : Head → Key → Walked → Type 0
Ends h key (Walked.Complete q) = q ≤ h.g
Ends h key (Walked.Stopped p) = Stop h key p

-- none of 11, 12 and 13 is given in an image of this length, given how the key's walk ended
abbrev pub Unrefused : Head → ℕ → Descent → ℕ → Type 0
Unrefused h len d value = first (adding_rows h value (added (missing d) value) len) ≡ none

-- all addresses up to `total` fit A bytes, and their nodes fit the image
pub record Space (h : Head) (l : List ℕ) (total : ℕ) : Type 0 where
  pub addresses : total < 256 ^ h.a
  pub room : node_place h (total + 1) ≤ length l

-- the writes of a new path below node q, for the letters of the key that are left
abbrev pub Builds : Head → List ℕ → ℕ → List ℕ → ℕ → ℕ → List ℕ → Type 0
Builds h l q left total value l' =
    (x : ℕ) (xs : List ℕ) → left ≡ x ∷ xs
    → l'
    ≡ carried_out l
    (new_nodes h (suc h.g) xs value ++ (total_write total ∷ link_write h q x (suc h.g) ∷ []))
