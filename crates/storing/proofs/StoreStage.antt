-- The outcome of the whole part after 10. What is written depends on how the key's walk ended.
-- An accepted image has no bad link, so this end is the key's descent. The head in hand is the
-- image's own.
use Prim.Native.Nat.{ℕ, zero, suc, ◌-◌, ◌≤◌, ◌<◌}
use mathlib.Core.Path.{◌≡◌, refl, sym, ◌∙◌, ap}
use mathlib.Core.Logic.{◌≢◌}
use mathlib.Core.Option.{none, some}
use mathlib.Core.List.{List, [], ◌∷◌}
use native.Mathlib.Omega.{arith}
use lib.IntN.{ℤ}
use lib.ListN.{length, drop, length-drop}
use Rattle.std.specs.Prelude.{Result, Ok, Err}
use Rattle.trie.specs.Table.{Table, descend, missing, value_at}
use Rattle.trie.specs.Storing.{added, change_of}
use Rattle.trie.proofs.Storing.{none_added}
use Rattle.head.specs.declared.Head.{Head}
use Rattle.head.specs.Fields.{most_letters, head_of}
use Rattle.node.specs.Image.{table_of}
use Rattle.node.specs.Writes.{carried_out, data_write, store_writes}
use Rattle.paper.specs.declared.Refusal.{Refusal}
use Rattle.paper.specs.Calls.{table_in}
use Rattle.paper.specs.Accepted.{Accepted}
use Rattle.paper.proofs.StoreCall.{unfaulted}
use Rattle.key.specs.declared.Key.{Key}
use Rattle.key.specs.Hand.{letters_of}
use Rattle.key.proofs.Hand.{letters_count}
use Rattle.walk.specs.declared.Position.{Position}
use Rattle.walk.specs.declared.Walked.{Walked}
use Rattle.walk.specs.Descent.{at_root, walked_from}
use Rattle.walk.proofs.Descents.{Halted, walked_complete, walked_stopped, walked_bad}
use Rattle.storing.specs.StoreStage.{StoresIn, end_of, stopped_at, Ends, Unrefused}
use Rattle.storing.proofs.Adding.{Leaves}

-- ---- by how the walk ended

all_added : (missed value : ℕ) → value ≢ 0 → added missed value ≡ missed
unfolding added
all_added missed zero z = absurd (z refl)
all_added missed (suc v) z = refl

-- how many nodes are new
pub count_none : (missed value : ℕ) → value ≡ 0 → 0 ≡ added missed value
unfolding added
count_none missed value z = rw z refl

module _ (k : List ℕ) (value : ℕ) {o : Walked} where
  pub count_over : {q : ℕ} → o ≡ Walked.Complete q → 0 ≡ added (missing (end_of k o)) value
  unfolding end_of missing
  count_over e = rw e (sym (none_added value))

  pub count_path : value ≢ 0 → {p : Position} → o ≡ Walked.Stopped p → (x : ℕ) (xs : List ℕ)
      → drop p.depth k ≡ x ∷ xs
      → length k - p.depth ≡ added (missing (end_of k o)) value
  unfolding end_of stopped_at missing
  count_path z {p} e x xs left =
      sym (length-drop p.depth k) ∙ ap length left ∙ rw (e, left)
      (sym (all_added (suc (length xs)) value z))

module _ (h : Head) (l k : List ℕ) (value : ℕ) {o : Walked} where
  -- what is written
  pub writes_over : {q : ℕ} → o ≡ Walked.Complete q → {c : ℤ} {l' : List ℕ}
      → l' ≡ carried_out l (data_write h q value ∷ [])
      → c ≡ change_of ((table_of h l).value q) value
      → (l' ≡ carried_out l (store_writes h (end_of k o) value))
      × (c ≡ change_of (value_at (table_of h l) (end_of k o)) value)
  unfolding end_of store_writes value_at
  writes_over e w c = rw e (w, c)

  pub writes_path : {p : Position} → o ≡ Walked.Stopped p → (x : ℕ) (xs : List ℕ)
      → drop p.depth k ≡ x ∷ xs → {c : ℤ} {l' : List ℕ}
      → l' ≡ carried_out l (store_writes h (stopped_at p.node (drop p.depth k)) value)
      → c ≡ change_of 0 value
      → (l' ≡ carried_out l (store_writes h (end_of k o) value))
      × (c ≡ change_of (value_at (table_of h l) (end_of k o)) value)
  unfolding end_of stopped_at value_at
  writes_path e x xs left w c = rw (e, left) (rw left at w, c)

-- what 11, 12 and 13 allow, if the walk stopped
pub allowed_path : (h : Head) (len : ℕ) (k : List ℕ) (value : ℕ) {o : Walked} {p : Position}
    → o ≡ Walked.Stopped p
    → Unrefused h len (end_of k o) value
    → Unrefused h len (stopped_at p.node (drop p.depth k)) value
unfolding end_of
allowed_path h len k value e a = rw e at a

-- ---- the walk's end is the key's descent

-- a walk stops before the key's end
stops_before : (key : Key) → length key.letters ≡ most_letters → key.len ≤ most_letters
    → {g : ℕ} {t : Table} {p : Position} → Halted g t (letters_of key) p
    → p.depth < key.len
stops_before key whole short {p = p} s =
    omega (
      arith,
      length-drop p.depth (letters_of key),
      ap length s.left,
      letters_count key whole short,
    )

module _ {l : List ℕ} {h : Head} (a : Accepted l) (same : h ≡ head_of l) where
  pub never_bad : (k : List ℕ) {why : Refusal}
      → Err why ≡ walked_from h.g (table_of h l) at_root k → ⊥
  unfolding table_in
  never_bad k walked =
      let w = walked_bad _ _ k walked in
      let f : none ≡ some w.node = sym (unfaulted a 0 k) ∙ (rw same at w).faulty in
      let z : ◌≡◌ {A = ℕ} 0 1 = cc in
      omega arith

  pub ends : (key : Key) → length key.letters ≡ most_letters → key.len ≤ most_letters
      → (o : Walked) → Ok o ≡ walked_from h.g (table_of h l) at_root (letters_of key)
      → Ends h key o
  ends key whole short (Walked.Complete q) walked =
      (walked_complete _ _ (letters_of key) walked refl).within
  ends key whole short (Walked.Stopped p) walked =
      let s = walked_stopped _ _ (letters_of key) walked refl in
      record { node = s.within; depth = stops_before key whole short s }

  end_descends : (k : List ℕ) (o : Walked) → Ok o ≡ walked_from h.g (table_of h l) at_root k
      → end_of k o ≡ descend (table_of h l) 0 k
  unfolding end_of stopped_at
  end_descends k (Walked.Complete q) walked = sym (walked_complete _ _ k walked refl).descent
  end_descends k (Walked.Stopped p) walked =
      let s = walked_stopped _ _ k walked refl in rw s.left (sym s.descent)

  module _ (k : List ℕ) {o : Walked} (walked : Ok o ≡ walked_from h.g (table_of h l) at_root k)
    where
      pub in_hand_lem : end_of k o ≡ descend (table_in l) 0 k
      unfolding table_in
      in_hand_lem = rw same at (end_descends k o walked)

      pub stores : (value : ℕ) (r : Result ℤ Refusal) {l' : List ℕ}
          → Leaves h l (end_of k o) value r l' → StoresIn l k value r l'
      stores value r e = rw (in_hand_lem, same) at e
