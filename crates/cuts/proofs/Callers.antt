-- What a caller gets from a store with writes: all that the store leaves, and its writes in the
-- list. They fit its 132 numbers, since they are at most 66. Read back with the image after the
-- call, they are the writes of the store.
use Prim.Native.Nat.{ℕ, zero, suc, ◌+◌, ◌*◌, ◌≤◌}
use mathlib.Core.Path.{◌≡◌, refl, sym, ap, ◌∙◌}
use mathlib.Core.List.{List, [], ◌∷◌}
use native.Mathlib.Omega.{arith}
use lib.ListN.{length, take, drop, length-append}
use lib.Seq.{sets, sets-eq, take-append_seam}
use Rattle.field.proofs.Range.{between_true}
use Rattle.trie.specs.Table.{Descent, complete, stopped, descend, answer}
use Rattle.trie.specs.Storing.{change_of}
use Rattle.trie.proofs.Walk.{where_stopped}
use Rattle.head.specs.declared.Head.{Head}
use Rattle.head.specs.Fields.{most_writes, most_noted, head_of}
use Rattle.head.proofs.Permitted.{bounds}
use Rattle.node.specs.Writes.{Write, noted, total_write, link_write, store_writes}
use Rattle.node.proofs.WholeNodes.{nodes_count}
use Rattle.paper.specs.Hearing.{outcome, done_numbers}
use Rattle.paper.specs.Given.{Given, key_in}
use Rattle.paper.specs.Calls.{table_in, work_after, writes_in, stored_image, store_of, with_writes}
use Rattle.paper.specs.Calls.{store_writes_of}
use Rattle.paper.specs.Granted.{Granted}
use Rattle.paper.proofs.StoreCall.{store_granted, store_leaves}
use Rattle.paper.proofs.StoreCall.{writes_number}
use Rattle.calls.proofs.AnswerBuffers.{length_noted}
use Rattle.cuts.specs.Mended.{read_back}
use Rattle.cuts.proofs.Noted.{read_back_lem}

-- ---- how many they are

-- at most one node for each letter of the key, G and the link
long_writes : (h : Head) (key : List ℕ) (d : Descent) (v : ℕ)
    → ((q x : ℕ) (xs : List ℕ) → d ≡ stopped q x xs → suc (length xs) ≤ length key)
    → length (store_writes h d v) ≤ length key + 2
unfolding store_writes
long_writes h key (complete q) v few = omega arith
long_writes h key (stopped q x xs) zero few = omega arith
long_writes h key (stopped q x xs) (suc v) few =
    let two : List Write =
    total_write (h.g + suc (length xs)) ∷ link_write h q x (suc h.g) ∷ [] in
    omega (arith, few q x xs refl, nodes_count h (suc h.g) xs (suc v) two)

pub few_writes : {l key : List ℕ} {value : ℕ} → Granted l key value
    → length (writes_in l key value)
    ≤ most_writes
few_writes {l} {key} {value} s =
    let short = (between_true (length key) (head_of l).min (head_of l).max s.fit.allowed).1 in
    let most = (bounds (head_of l) s.accepted.head_permitted).max_most in
    omega (arith, long_writes (head_of l) key (descend (table_in l) 0 key) value left)
  where
    left : (q x : ℕ) (xs : List ℕ) → descend (table_in l) 0 key ≡ stopped q x xs → suc (length xs)
        ≤ length key
    left q x xs e =
        let w = where_stopped (table_in l) 0 key e in
        omega (arith, ap length w.key, length-append w.path (x ∷ xs))

-- ---- the list of writes, read by its caller

front : (list vs : List ℕ) → length vs ≤ length list → take (length vs) (sets list 0 vs) ≡ vs
front list vs b = ap (take (length vs)) (sets-eq vs list 0 (omega arith)) ∙ take-append_seam vs
    (drop (0 + length vs) list)

-- what a caller reads back from the first entries of the list and from the image after the call
-- are the writes of the store
pub had_writes : {l key : List ℕ} {value : ℕ} → Granted l key value → (list : List ℕ)
    → most_noted ≤ length list
    → read_back (stored_image l key value)
    (take (2 * length (writes_in l key value)) (sets list 0 (noted (writes_in l key value))))
    ≡ writes_in l key value
had_writes {l} {key} {value} s list b =
    let ws : List Write = writes_in l key value in
    let e : length (noted ws) ≡ 2 * length ws = length_noted ws in
    ap (λ (n : ℕ). read_back (stored_image l key value) (take n (sets list 0 (noted ws)))) (sym e)
    ∙ ap (read_back (stored_image l key value))
    (front list (noted ws) (omega (arith, few_writes s)))
    ∙ read_back_lem s

-- ---- the calls

module _ (l work : List ℕ) (given : Given) (value : ℕ) (list : List ℕ) where
  abbrev key : List ℕ
  key = key_in l given

  -- the number of the answer is the store's
  pub store_writes_number : (store_writes_of l work given value list).numbers.number
      ≡ (store_of l work given value).numbers.number
  unfolding store_writes_of
  store_writes_number = writes_number (writes_in l key value) list (store_of l work given value)

  -- what a store with writes answers and leaves where the store is done
  pub store_writes_leaves : (store_of l work given value).numbers.number ≡ 0
      → store_writes_of l work given value list
      ≡ outcome (done_numbers (length (writes_in l key value))
      (change_of (answer (table_in l) key) value) 0)
      (stored_image l key value ∷ work_after l work ∷ sets list 0 (noted (writes_in l key value))
      ∷ [])
  unfolding store_writes_of with_writes done_numbers
  store_writes_leaves z =
      ap (with_writes (writes_in l key value) list) (store_leaves l work given value z)

  pub store_writes_told : (store_of l work given value).numbers.number ≡ 0
      → most_noted ≤ length list
      → read_back (stored_image l key value)
      (take (2 * length (writes_in l key value)) (sets list 0 (noted (writes_in l key value))))
      ≡ writes_in l key value
  store_writes_told z b = had_writes (store_granted l work given value z) list b
