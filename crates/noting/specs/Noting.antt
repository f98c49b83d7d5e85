-- 02, Ask 1: "Give storing as an ordered list of writes". The part of a store with writes after
-- 10. It answers and leaves in the image what the store does, and answers how many writes there
-- are. The lent list then begins with a place and a length for each write, in order.
use Rattle.std.specs.Prelude.{ℕ, ◌≡◌, List, [], ◌∷◌, length, Result}
use Rattle.std.proofs.lemmas.List.Edits.{sets}
use Rattle.trie.specs.Table.{Descent, descend}
use Rattle.head.specs.declared.Head.{Head}
use Rattle.head.specs.Fields.{head_of}
use Rattle.node.specs.Writes.{noted, store_writes}
use Rattle.paper.specs.declared.Noted.{Noted}
use Rattle.paper.specs.declared.Refusal.{Refusal}
use Rattle.paper.specs.Hearing.{outcome}
use Rattle.paper.specs.Answers.{noted_of}
use Rattle.paper.specs.Calls.{table_in, writes_in, with_writes}
use Rattle.storing.specs.StoreStage.{store_at}

-- the outcome for a key, by its descent from the root, as in `StoresIn` of `storing`; the list
-- comes after the image
abbrev pub NotesIn : List ℕ → List ℕ → ℕ → List ℕ → Result Noted Refusal → List ℕ → List ℕ
    → Type 0
NotesIn l key value list r l' list' =
    outcome (noted_of r) (l' ∷ list' ∷ [])
    ≡ with_writes (writes_in l key value) list
    (store_at (head_of l) l (descend (table_in l) 0 key) value)

-- the writes of a store, given how the key's walk ended: how many they are, and the list with
-- their entries at its front
pub record Notes (h : Head) (d : Descent) (value : ℕ) (list : List ℕ) (r : ℕ) (list' : List ℕ)
    : Type 0 where
  pub count : r ≡ length (store_writes h d value)
  pub entries : list' ≡ sets list 0 (noted (store_writes h d value))
