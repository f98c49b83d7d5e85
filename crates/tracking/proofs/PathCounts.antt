-- The counts after a store. The count of a node on the key's path changes as the number of
-- stored keys does, and any other count stays. A new node had no keys before. So the old counts
-- with zeros for the new nodes, changed along the path, are the counts worked out afresh.
use Prim.Native.Nat.{ℕ, zero, suc, ◌+◌, ◌^◌, ◌≤◌, ◌<◌}
use mathlib.Core.Path.{◌≡◌, refl, sym, ◌∙◌, ap, ap₂}
use mathlib.Core.Logic.{◌≢◌, ◌⊎◌, inl, inr}
use mathlib.Core.Bool.{Bool, true, false, cond, true≢false}
use mathlib.Core.List.{List}
use native.Mathlib.Decide.{dec_le}
use native.Mathlib.Omega.{arith}
use lib.IntN.{ℤ, pos, negsuc}
use lib.ListN.{length, get_or}
use lib.Seq.{ext_get_or}
use Rattle.field.proofs.Range.{between_true}
use Rattle.trie.specs.Table.{Table, Descent, complete, stopped, descend, answer}
use Rattle.trie.specs.Storing.{change_of, stored}
use Rattle.trie.proofs.Walk.{answer_stopped}
use Rattle.trie.proofs.Put.{put_descend}
use Rattle.trie.proofs.Storing.{Store, over, unchanged, longer, store, stored_answer}
use Rattle.head.specs.declared.Head.{Head}
use Rattle.head.specs.Fields.{head_of}
use Rattle.passing.specs.Passing.{passes, one, count_at}
use Rattle.passing.proofs.Passing.{passes_within}
use Rattle.passing.proofs.Reached.{count_few, count_outside}
use Rattle.passing.proofs.Shifted.{stored_counts}
use Rattle.paper.specs.Orders.{new_of}
use Rattle.paper.specs.Calls.{table_in, stored_keys, stored_image}
use Rattle.paper.specs.Accepted.{Accepted}
use Rattle.paper.specs.Granted.{Granted}
use Rattle.paper.proofs.CheckCall.{accepted_linked}
use Rattle.paper.proofs.NextKeyCall.{counted_fits}
use Rattle.paper.proofs.StoreCall.{stored_head, stored_table, accepted_again}
use Rattle.position.specs.Counts.{count_in, RightCounts}
use Rattle.position.specs.Calls.{worked}
use Rattle.position.proofs.Right.{worked_length, worked_rest, worked_at}
use Rattle.tracking.specs.Tracking.{Whole, gain_of, loss_of, CountsFit, Shifted, RangeCleared}

-- ---- the change

-- with 1 for a stored key: the key before and the gain equal the key after and the loss
one_change : (old v : ℕ) → one old + gain_of (change_of old v) ≡ one v + loss_of (change_of old v)
unfolding one gain_of loss_of change_of
one_change zero zero = refl
one_change zero (suc v) = refl
one_change (suc old) zero = refl
one_change (suc old) (suc v) = refl

-- nothing is both added and taken
one_way : (c : ℤ) → (gain_of c ≡ 0) ⊎ ((gain_of c ≡ 1) × (loss_of c ≡ 0))
unfolding gain_of loss_of
one_way (pos zero) = inl refl
one_way (pos (suc zero)) = inr (refl, refl)
one_way (pos (suc (suc n))) = inl refl
one_way (negsuc n) = inl refl

gain_none : (c : ℤ) → c ≢ pos 1 → gain_of c ≡ 0
unfolding gain_of
gain_none (pos zero) a = refl
gain_none (pos (suc zero)) a = absurd (a refl)
gain_none (pos (suc (suc n))) a = refl
gain_none (negsuc n) a = refl

loss_none : (c : ℤ) → c ≢ negsuc 0 → loss_of c ≡ 0
unfolding loss_of
loss_none (pos n) a = refl
loss_none (negsuc zero) a = absurd (a refl)
loss_none (negsuc (suc n)) a = refl

pub shifted_none : (t : Table) (k : List ℕ) (c : ℤ) (list : List ℕ) → c ≢ pos 1 → c ≢ negsuc 0
    → Shifted t k (gain_of c) (loss_of c) list list
shifted_none t k c list a b =
    record { long = refl; each = λ q. rw (gain_none c a, loss_none c b) refl }

-- a key whose answer is not 0 has a node
answering : (t : Table) (k : List ℕ) → answer t k ≢ 0 → Whole t k
answering t k full = go (descend t 0 k) refl
  where
    go : (d : Descent) → descend t 0 k ≡ d → Whole t k
    go (complete r) e = (r, e)
    go (stopped q x xs) e = absurd (full (answer_stopped t k e))

-- after a store that changes the number of keys, the key has a node
whole_after : {t : Table} {g v : ℕ} {k : List ℕ} {s : Table} {h : ℕ} → Store t g k v s h
    → answer s k ≡ v
    → change_of (answer t k) v ≢ pos 0 → Whole s k
unfolding change_of
whole_after {t} {k = k} (over {q} {v} e) a c = (q, put_descend t q v 0 k ∙ e)
whole_after {t} {k = k} (unchanged e) a c = absurd (c (rw (answer_stopped t k e) refl))
whole_after {k = k} {s = s} (longer e) a c = answering s k (λ z. omega arith)

-- ---- the counts

module _ {l k : List ℕ} {value : ℕ} (s : Granted l k value) where
  abbrev after : List ℕ
  after = stored_image l k value

  abbrev change : ℤ
  change = change_of (answer (table_in l) k) value

  abbrev on : ℕ → Bool
  on q = passes (table_in after) q 0 k

  pub whole : change ≢ pos 0 → Whole (table_in after) k
  whole c =
      rw (stored_table s)
      (whole_after (store (table_in l) (head_of l).g k value)
      (stored_answer (accepted_linked s.accepted) k s.fit.below value) c)

  -- the table after the store
  abbrev grown : Table
  grown = stored (table_in l) (head_of l).g k value

  count_after : (q : ℕ) → count_in after q ≡ count_at grown (head_of l).n (head_of l).min
      (head_of l).max q
  unfolding count_in
  count_after q = ap₂ (λ (h : Head) (t : Table). count_at t h.n h.min h.max q)
      (stored_head s) (stored_table s)

  on_after : (q : ℕ) → on q ≡ passes grown q 0 k
  on_after q = ap (λ (t : Table). passes t q 0 k) (stored_table s)

  moved : (q : ℕ) → count_in after q + cond (on q) (one (answer (table_in l) k)) 0 ≡ count_in l q
      + cond (on q) (one value) 0
  unfolding count_in
  moved q =
      let h : Head = head_of l in
      let b = between_true (length k) h.min h.max s.fit.allowed in
      ap₂ (λ (n : ℕ) (b : Bool). n + cond b (one (answer (table_in l) k)) 0) (count_after q)
      (on_after q)
      ∙ stored_counts (accepted_linked s.accepted) k s.fit.below value h.min h.max
      b.0 b.1 q
      ∙ ap (λ (b : Bool). count_in l q + cond b (one value) 0) (sym (on_after q))

  -- by the gain and the loss
  shifts : (q : ℕ) → count_in after q + cond (on q) (loss_of change) 0 ≡ count_in l q + cond (on q)
      (gain_of change) 0
  shifts q = go (on q) (moved q)
    where
      go : (b : Bool) → count_in after q + cond b (one (answer (table_in l) k)) 0 ≡ count_in l q
          + cond b (one value) 0
          → count_in after q + cond b (loss_of change) 0 ≡ count_in l q + cond b (gain_of change) 0
      go true e = omega (arith, one_change (answer (table_in l) k) value)
      go false e = e

  few : {m : List ℕ} → Accepted m → (q : ℕ) → count_in m q < 2 ^ 32
  unfolding count_in stored_keys
  few {m} a q =
      omega (
        arith,
        count_few (table_in m) (head_of m).n (head_of m).min (head_of m).max q,
        counted_fits a,
      )

  -- G after the store
  abbrev last : ℕ
  last = (head_of l).g + new_of (head_of l) l k value

  last_same : (head_of after).g ≡ last
  last_same = ap (λ (h : Head). h.g) (stored_head s)

  -- the key passes no address above it
  off : (q : ℕ) → last < q → on q ≡ false
  off q b =
      passes_within (table_in after) (head_of after).g q 0 k
      (accepted_linked (accepted_again s)).within (omega arith)
      (omega (arith, last_same))

  passed_within : (q : ℕ) → on q ≡ true → q ≤ last
  passed_within q met = go (dec_le q last)
    where
      go : Dec (q ≤ last) → q ≤ last
      go (yes b) = b
      go (no b) = absurd (true≢false (sym met ∙ off q (omega arith)))

  -- `start` is the list with zeros for the new nodes
  module _ {counts start : List ℕ} (r : RightCounts l counts)
      (z : RangeCleared ((head_of l).g + 1) (last + 1) counts start) where
    started : (q : ℕ) → q ≤ last → get_or start q 0 ≡ count_in l q
    unfolding count_in
    started q b = go (dec_le q (head_of l).g)
      where
        go : Dec (q ≤ (head_of l).g) → get_or start q 0 ≡ count_in l q
        go (yes low) = z.before q (omega arith) ∙ r.each q low
        go (no high) =
            let h : Head = head_of l in
            z.within q (omega arith) (omega arith)
            ∙ sym (count_outside (table_in l) h.g h.n h.min h.max q
            (accepted_linked s.accepted).within (omega arith))

    pub room : CountsFit (table_in after) k (gain_of change) (loss_of change) start
    room =
        record {
          over = λ q met. wide q met (one_way change);
          under = λ q met. let e = rw met at (shifts q) in
              omega (arith, started q (passed_within q met));
        }
      where
        wide : (q : ℕ) → on q ≡ true → (gain_of change ≡ 0)
            ⊎ ((gain_of change ≡ 1) × (loss_of change ≡ 0))
            → get_or start q 0 + gain_of change < 2 ^ 32
        wide q met (inl none) = omega (arith, started q (passed_within q met), few s.accepted q)
        wide q met (inr (one, none)) =
            let e = rw met at (shifts q) in
            omega (arith, started q (passed_within q met), few (accepted_again s) q)

    pub kept : {list : List ℕ} → last + 1 ≤ length counts → Shifted (table_in after) k
        (gain_of change) (loss_of change) start list
        → list ≡ worked after counts
    kept {list} long w =
        ext_get_or 0 list (worked after counts)
        (w.long ∙ z.long ∙ sym (worked_length after counts)) (λ q _. go q (dec_le q last))
      where
        go : (q : ℕ) → Dec (q ≤ last) → get_or list q 0 ≡ get_or (worked after counts) q 0
        go q (yes b) =
            omega (
              arith,
              w.each q,
              shifts q,
              started q b,
              worked_at after counts (omega (arith, last_same)) q (omega (arith, last_same)),
            )
        go q (no b) =
            let e = rw (off q (omega arith)) at (w.each q) in
            omega (
              arith,
              z.after q (omega arith),
              worked_rest after counts q
                  (omega (arith, last_same)),
            )
