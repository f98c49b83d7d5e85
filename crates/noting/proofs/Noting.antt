-- The outcome of a store with writes, given how the key's walk ended: the outcome of the store,
-- with the list after it. A store that is done has room for its new nodes, so every place that
-- is noted fits 32 bits.
use Prim.Native.Nat.{ℕ, zero, suc, ◌+◌, ◌-◌, ◌*◌, ◌^◌, ◌≤◌, ◌<◌}
use mathlib.Core.Path.{◌≡◌, refl, ap}
use mathlib.Core.Bool.{Bool, true, false, ◌&&◌}
use mathlib.Core.List.{List, [], ◌∷◌}
use native.Mathlib.Omega.{arith}
use lib.IntN.{ℤ}
use lib.Dec.{ltb}
use lib.ListN.{length}
use lib.Seq.{sets}
use Rattle.std.specs.Prelude.{Ok, Err}
use Rattle.trie.specs.Table.{Descent, descend, missing}
use Rattle.trie.specs.Storing.{added}
use Rattle.head.specs.declared.Head.{Head}
use Rattle.head.specs.Fields.{longest_image, head_of, node_width, used_len}
use Rattle.node.specs.Image.{table_of}
use Rattle.node.specs.Writes.{Write, noted}
use Rattle.paper.specs.declared.Refusal.{Refusal}
use Rattle.paper.specs.Hearing.{Outcome, outcome, done_numbers, refused_numbers, first, row_when}
use Rattle.paper.specs.Hearing.{heard}
use Rattle.paper.specs.Answers.{refusal_numbers, stored_of, noted_of}
use Rattle.paper.specs.Rows.{row11, row12, row13}
use Rattle.paper.specs.Orders.{adding_rows}
use Rattle.paper.specs.Calls.{table_in, writes_in, with_writes}
use Rattle.paper.specs.Accepted.{Accepted}
use Rattle.paper.proofs.Hearing.{not_given}
use Rattle.paper.proofs.StoreCall.{none_13}
use Rattle.paper.proofs.Unique.{refusal_said}
use Rattle.walk.specs.declared.Walked.{Walked}
use Rattle.walk.specs.Descent.{at_root, walked_from}
use Rattle.storing.specs.StoreStage.{store_at, end_of}
use Rattle.storing.proofs.Adding.{Leaves}
use Rattle.storing.proofs.StoreStage.{in_hand_lem, stores}
use Rattle.noting.specs.Noting.{NotesIn, Notes}

-- ---- the list after the store's outcome

module _ (ws : List Write) (list : List ℕ) {o : Outcome} {l' : List ℕ} where
  refused_notes : (why : Refusal) → outcome (stored_of (Err why)) (l' ∷ []) ≡ o
      → outcome (noted_of (Err why)) (l' ∷ list ∷ []) ≡ with_writes ws list o
  unfolding with_writes stored_of noted_of refusal_numbers refused_numbers
  refused_notes why e = rw (← e, refusal_said why)

  done_notes : (c : ℤ) {n : ℕ} {list' : List ℕ} → n ≡ length ws → list' ≡ sets list 0 (noted ws)
      → outcome (stored_of (Ok c)) (l' ∷ []) ≡ o
      → outcome (noted_of (Ok (record { change = c; writes = n }))) (l' ∷ list' ∷ [])
      ≡ with_writes ws list o
  unfolding with_writes stored_of noted_of done_numbers
  done_notes c n w e = rw (← e, n, w)

-- an answer with number 0 is none of 11, 12 and 13
none_given : (x y z : Bool) (kept : List (List ℕ)) (done : Outcome)
    → 0 ≡ (heard (first (row_when 11 0 x ∷ row_when 12 0 y ∷ row_when 13 0 z ∷ [])) kept
    done).numbers.number → z ≡ false
unfolding first row_when heard refused_numbers
none_given true y z kept done e = absurd (omega arith)
none_given false true z kept done e = absurd (omega arith)
none_given false false true kept done e = absurd (omega arith)
none_given false false false kept done e = refl

-- a store that is done has room for its new nodes
room : (h : Head) (l : List ℕ) (d : Descent) (value : ℕ) (c : ℤ) {l' : List ℕ}
    → Leaves h l d value (Ok c) l'
    → 0 < added (missing d) value → used_len h + added (missing d) value * node_width h ≤ length l
unfolding store_at adding_rows row11 row12 row13 stored_of done_numbers
room h l d value c e =
    let k : ℕ = added (missing d) value in
    (none_13 h k (length l)).0
    (not_given 13 0
    (none_given (ltb (256 ^ h.d - 1) value) (ltb 0 k && ltb (256 ^ h.a - 1) (h.g + k))
    (ltb 0 k && ltb (length l) (used_len h + k * node_width h)) _ _
    (ap (λ (o : Outcome). o.numbers.number) e)))

-- ---- the whole part

module _ {l : List ℕ} {h : Head} (a : Accepted l) (same : h ≡ head_of l) (k : List ℕ) {o : Walked}
    (walked : Ok o ≡ walked_from h.g (table_of h l) at_root k) (value : ℕ) {l' : List ℕ} where
  pub notes_refused : (list : List ℕ) (why : Refusal) → Leaves h l (end_of k o) value (Err why) l'
      → NotesIn l k value list (Err why) l' list
  notes_refused list why e = refused_notes (writes_in l k value) list why
      (stores a same k walked value (Err why) e)

  module _ (c : ℤ) (e : Leaves h l (end_of k o) value (Ok c) l') where
    -- the new nodes fit the image, which is no longer than the longest image
    pub notes_room : used_len h + added (missing (end_of k o)) value * node_width h ≤ longest_image
    notes_room = go (added (missing (end_of k o)) value) (room h l (end_of k o) value c e)
      where
        go : (n : ℕ) → (0 < n → used_len h + n * node_width h ≤ length l)
            → used_len h + n * node_width h ≤ longest_image
        go zero far =
            let used : used_len h ≤ length l = rw same a.room in omega (arith, a.short_enough)
        go (suc n) far = omega (arith, a.short_enough, far (omega arith))

    pub notes_done : (list : List ℕ) {n : ℕ} {list' : List ℕ}
        → Notes h (end_of k o) value list n list'
        → NotesIn l k value list (Ok (record { change = c; writes = n })) l' list'
    notes_done list {n} {list'} w =
        let own : Notes (head_of l) (descend (table_in l) 0 k) value list n list' =
        rw (in_hand_lem a same k walked, same) at w in
        done_notes (writes_in l k value) list c own.count own.entries
        (stores a same k walked value (Ok c) e)
