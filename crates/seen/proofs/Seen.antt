-- Images that look the same answer alike, since every outcome is a function of what is seen.
-- Bytes from U on are not seen. Of the first four bytes only G, the number in them, is seen.
use Prim.Native.Nat.{ℕ, ◌+◌, ◌≤◌, ◌<◌}
use mathlib.Core.Path.{◌≡◌, sym, ap, ap₂, subst, ◌∙◌}
use mathlib.Core.Bool.{Bool, true, not, cond}
use mathlib.Core.Option.{Option, none, some}
use mathlib.Core.List.{List, [], ◌∷◌, ◌++◌}
use native.Mathlib.Omega.{arith}
use lib.Dec.{eqb}
use lib.ListN.{length, get_or, take, drop, replicate}
use lib.Seq.{sets}
use lib.IntN.{pos}
use Rattle.trie.specs.Table.{answer, descend, missing}
use Rattle.trie.specs.Storing.{added, change_of}
use Rattle.trie.specs.Keys.{listing, meets, first_meeting}
use Rattle.trie.specs.Rules.{LinkRules, Visible}
use Rattle.passing.specs.Passing.{count_at, one_for_each, key_at, rank_in}
use Rattle.head.specs.declared.Head.{Head}
use Rattle.head.specs.Fields.{shortest_image, longest_image, fields_len, total_at, total_len}
use Rattle.head.specs.Fields.{head_of}
use Rattle.head.specs.Fields.{permitted, used_len}
use Rattle.head.proofs.Places.{used_le, place_least}
use Rattle.alphabet.specs.Letters.{good_alphabet, or_empty}
use Rattle.node.specs.Image.{table_of}
use Rattle.node.specs.Writes.{Write, store_writes}
use Rattle.node.proofs.Tables.{table_bytes}
use Rattle.paper.specs.Hearing.{Row, Numbers, Outcome, outcome, done_numbers, first, heard}
use Rattle.paper.specs.Given.{Given, alphabet_in, meant_by, meant_in, key_in}
use Rattle.paper.specs.Rows.{row5, row_when_lowest, row6path, row14, row15}
use Rattle.paper.specs.Orders.{opening_rows, opening_rows_of, node_rows, check_order, key_rows_by}
use Rattle.paper.specs.Orders.{key_rows, next_rows, look_up_order, adding_rows, new_of}
use Rattle.paper.specs.Orders.{store_order}
use Rattle.paper.specs.Orders.{next_key_order}
use Rattle.paper.specs.Calls.{table_in, cleared_by, work_after, check_of, stored_keys, count_of}
use Rattle.paper.specs.Calls.{telling}
use Rattle.paper.specs.Calls.{look_up_of, writes_in, stored_image, store_of, is_accepted, next_in}
use Rattle.paper.specs.Calls.{found_in, next_key_of}
use Rattle.paper.specs.Accepted.{Accepted}
use Rattle.paper.proofs.Opening.{alphabet_same}
use Rattle.position.specs.Counts.{count_in, counts_in, row25, row5again}
use Rattle.position.specs.Orders.{usable, counts_order, check_counts_order, key_at_order}
use Rattle.position.specs.Orders.{if_stored}
use Rattle.position.specs.Orders.{store_counts_order, position_order}
use Rattle.position.specs.Calls.{work_left, worked, counts_of, check_counts_of, placed_key}
use Rattle.position.specs.Calls.{key_at_of}
use Rattle.position.specs.Calls.{store_counts_of, position_of}
use Rattle.seen.specs.Seen.{Seen, seen_in}

seen_eq : (s t : Seen) → s.head ≡ t.head → s.table ≡ t.table → s.alphabet ≡ t.alphabet
    → s.len ≡ t.len → s ≡ t
seen_eq s t h u a n i = record { head = h i; table = u i; alphabet = a i; len = n i }

-- ---- what looks the same

-- the F bytes after the fields are used bytes
pub before_used : (h : Head) → fields_len + h.f ≤ used_len h
before_used h = omega (arith, place_least h 0, used_le h 0 (omega arith))

-- two images have the same bytes from the end of G up to a place
abbrev pub SameUpTo : ℕ → List ℕ → List ℕ → Type 0
SameUpTo to a b = (p : ℕ) → total_at + total_len ≤ p → p < to → get_or a p 0 ≡ get_or b p 0

pub same_alphabet : (h : Head) (a b : List ℕ) → length a ≡ length b
    → SameUpTo (fields_len + h.f) a b → alphabet_in h a ≡ alphabet_in h b
same_alphabet h a b n e =
    alphabet_same h a b n (λ i c. e (fields_len + i) (omega arith) (omega arith))

-- 1 to 4 do not depend on the bytes of the nodes
pub opens_same : (a b : List ℕ) → head_of a ≡ head_of b → length a ≡ length b
    → SameUpTo (fields_len + (head_of b).f) a b → opening_rows_of a ≡ opening_rows_of b
unfolding opening_rows_of
opens_same a b heads n e =
    ap (λ (k : Head). opening_rows k (alphabet_in k a) (length a)) heads
    ∙ ap₂ (opening_rows (head_of b)) (same_alphabet (head_of b) a b n e) n

-- images with equal heads, and with equal bytes from the end of G up to U, look the same
pub seen_same : (a b : List ℕ) → head_of a ≡ head_of b → length a ≡ length b
    → SameUpTo (used_len (head_of b)) a b → seen_in a ≡ seen_in b
unfolding table_in
seen_same a b heads n e =
    let h : Head = head_of b in
    seen_eq (seen_in a) (seen_in b) heads
    (ap (λ (k : Head). table_of k a) heads ∙ table_bytes h a b (λ p c d. e p (omega arith) d))
    (ap (λ (k : Head). alphabet_in k a) heads ∙ same_alphabet h a b n
    (λ p c d. e p c (omega (arith, before_used h))))
    n

-- ---- what looks the same answers alike

-- orders and outcomes as functions of what is seen
abbrev opens : Seen → List Row
opens s = opening_rows s.head s.alphabet s.len

abbrev checks : Seen → List ℕ → List Row
checks s work = opens s ++ (row5 s.head (length work) ∷ node_rows s.head s.table)

abbrev pub clears : Seen → List ℕ → List ℕ
clears s work =
    cleared_by (first (opens s ++ (row5 s.head (length work) ∷ []))) (s.head.g + 1) work

abbrev lists : Seen → List (List ℕ)
lists s = listing s.table s.head.n s.head.min s.head.max

abbrev means : Seen → Given → List ℕ
means s given = or_empty (meant_by s.alphabet given)

abbrev looks : Seen → Given → Outcome
looks s given =
    heard (first (opens s ++
    (key_rows_by s.head s.alphabet given
    ++ (row6path s.head s.table (means s given) ∷ [])))) []
    (telling (answer s.table (means s given)))

abbrev nexts : Seen → List ℕ → List ℕ → List ℕ → Option (List ℕ) → Outcome
nexts s work key buffer found =
    heard (first (checks s work
    ++ (next_rows s.head key ++ (row14 s.head (length buffer) ∷ row15 found ∷ []))))
    (clears s work ∷ buffer ∷ [])
    (outcome (done_numbers (length (or_empty found)) (pos 0) (answer s.table (or_empty found)))
    (clears s work ∷ sets buffer 0 (or_empty found) ∷ []))

-- the same for the calls with counts
abbrev count : Seen → ℕ → ℕ
count s q = count_at s.table s.head.n s.head.min s.head.max q

abbrev weighs : Seen → List ℕ
weighs s = one_for_each (count s) 0 (s.head.g + 1)

abbrev lets : List ℕ → List ℕ → List ℕ
lets work counts = take (length counts) work

abbrev leaves : Seen → List ℕ → List ℕ → List ℕ
leaves s work counts = clears s (lets work counts) ++ drop (length counts) work

abbrev compares : Seen → List ℕ → List ℕ → List Row
compares s work counts =
    checks s (lets work counts)
    ++ (row_when_lowest 25 (λ q. not (eqb (get_or counts q 0) (count s q))) 0 (s.head.g + 1) ∷ [])

abbrev works : Seen → List ℕ → List ℕ → Outcome
works s work counts =
    heard (first (checks s (lets work counts))) (leaves s work counts ∷ counts ∷ [])
    (outcome (done_numbers 0 (pos 0) 0) (leaves s work counts ∷ sets counts 0 (weighs s) ∷ []))

abbrev holds : Seen → List ℕ → List ℕ → Outcome
holds s work counts =
    heard (first (compares s work counts)) (leaves s work counts ∷ [])
    (outcome (done_numbers 0 (pos 0) 0) (leaves s work counts ∷ []))

abbrev places : Seen → List ℕ → List ℕ → List ℕ → Option (List ℕ) → Outcome
places s work counts buffer found =
    heard (first (compares s work counts ++ (row14 s.head (length buffer) ∷ row15 found ∷ [])))
    (leaves s work counts ∷ buffer ∷ [])
    (outcome (done_numbers (length (or_empty found)) (pos 0) (answer s.table (or_empty found)))
    (leaves s work counts ∷ sets buffer 0 (or_empty found) ∷ []))

abbrev has : Seen → List ℕ → Option (List ℕ)
has s key = cond (eqb (answer s.table key) 0) none (some key)

abbrev ranks : Seen → List ℕ → List ℕ → Given → Outcome
ranks s work counts given =
    heard (first (compares s work counts
    ++ (key_rows_by s.head s.alphabet given ++ (row15 (has s (means s given)) ∷ []))))
    (leaves s work counts ∷ [])
    (outcome (done_numbers 0 (pos 0) (rank_in (lists s) (means s given)))
    (leaves s work counts ∷ []))

-- the same for the stores and for mending: `l` is the image as it was, `done` the image after a
-- store that is done
abbrev adds : Seen → List ℕ → ℕ → ℕ
adds s key value = added (missing (descend s.table 0 key)) value

abbrev last : Seen → List ℕ → ℕ → List Row
last s key value = adding_rows s.head value (adds s key value) s.len

abbrev pub store_rows : Seen → List ℕ → Given → ℕ → List Row
store_rows s work given value =
    checks s work
    ++ (key_rows_by s.head s.alphabet given ++ last s (means s given) value)

abbrev pub changes : Seen → Given → ℕ → Numbers
changes s given value = done_numbers 0 (change_of (answer s.table (means s given)) value) 0

abbrev pub stores : Seen → List ℕ → Given → ℕ → List ℕ → List ℕ → Outcome
stores s work given value l done =
    heard (first (store_rows s work given value)) (l ∷ clears s work ∷ [])
    (outcome (changes s given value) (done ∷ clears s work ∷ []))

abbrev writes : Seen → Given → ℕ → List Write
writes s given value =
    store_writes s.head (descend s.table 0 (means s given)) value

abbrev pub store_counts_rows : Seen → List ℕ → Given → ℕ → List ℕ → List Row
store_counts_rows s work given value counts =
    compares s work counts
    ++ (key_rows_by s.head s.alphabet given
    ++ (last s (means s given) value
    ++ (row5again s.head (adds s (means s given) value) (length counts) ∷ [])))

abbrev pub stores_counts : Seen → List ℕ → Given → ℕ → List ℕ → List ℕ → List ℕ → List ℕ → Outcome
stores_counts s work given value counts l done fresh =
    heard (first (store_counts_rows s work given value counts))
    (l ∷ leaves s work counts ∷ counts ∷ [])
    (outcome (changes s given value)
    (done ∷ leaves s work counts ∷ sets counts 0 fresh ∷ []))

abbrev accepts : Seen → Bool
accepts s =
    eqb (heard (first (checks s (replicate (s.head.g + 1) 0)))
    (clears s (replicate (s.head.g + 1) 0) ∷ [])
    (outcome (done_numbers 0 (pos 0) 0)
    (clears s (replicate (s.head.g + 1) 0) ∷ []))).numbers.number 0

module _ (a b : List ℕ) (e : seen_in a ≡ seen_in b) where
  -- ---- the calls that do not write the image

  pub check_seen : (work : List ℕ) → check_of a work ≡ check_of b work
  unfolding check_of check_order opening_rows_of work_after table_in
  check_seen work = ap (λ (s : Seen). heard (first (checks s work)) (clears s work ∷ [])
      (outcome (done_numbers 0 (pos 0) 0) (clears s work ∷ []))) e

  pub work_seen : (work : List ℕ) → work_after a work ≡ work_after b work
  unfolding work_after opening_rows_of
  work_seen work = ap (λ (s : Seen). clears s work) e

  pub count_seen : (work : List ℕ) → count_of a work ≡ count_of b work
  unfolding count_of check_order opening_rows_of work_after table_in stored_keys
  count_seen work = ap (λ (s : Seen). heard (first (checks s work)) (clears s work ∷ [])
      (outcome (done_numbers 0 (pos 0) (length (lists s))) (clears s work ∷ []))) e

  pub look_seen : (given : Given) → look_up_of a given ≡ look_up_of b given
  unfolding look_up_of look_up_order opening_rows_of key_rows key_in meant_in table_in
  look_seen given = ap (λ (s : Seen). looks s given) e

  pub next_seen : (work key : List ℕ) (after : Bool) (buffer : List ℕ)
      → next_key_of a work key after buffer ≡ next_key_of b work key after buffer
  unfolding next_key_of next_key_order check_order opening_rows_of work_after table_in stored_keys
      next_in
      found_in
  next_seen work key after buffer = ap
      (λ (s : Seen). nexts s work key buffer (first_meeting (meets after key) (lists s))) e

  pub keys_seen : stored_keys a ≡ stored_keys b
  unfolding stored_keys table_in
  keys_seen = ap lists e

  pub counts_seen : (work counts : List ℕ) → counts_of a work counts ≡ counts_of b work counts
  unfolding counts_of counts_order usable check_order opening_rows_of work_left work_after worked
      counts_in
      count_in table_in
  counts_seen work counts = ap (λ (s : Seen). works s work counts) e

  pub check_counts_seen : (work counts : List ℕ) → check_counts_of a work counts
      ≡ check_counts_of b work counts
  unfolding check_counts_of check_counts_order counts_order usable check_order opening_rows_of
      work_left
      work_after row25 count_in table_in
  check_counts_seen work counts = ap (λ (s : Seen). holds s work counts) e

  pub key_at_seen : (work counts : List ℕ) (position : ℕ) (buffer : List ℕ)
      → key_at_of a work counts position buffer ≡ key_at_of b work counts position buffer
  unfolding key_at_of key_at_order placed_key check_counts_order counts_order usable check_order
      opening_rows_of work_left work_after row25 count_in table_in stored_keys
  key_at_seen work counts position buffer = ap
      (λ (s : Seen). places s work counts buffer (key_at (lists s) position)) e

  pub position_seen : (work counts : List ℕ) (given : Given) → position_of a work counts given
      ≡ position_of b work counts given
  unfolding position_of position_order if_stored check_counts_order counts_order usable check_order
      opening_rows_of work_left work_after row25 count_in table_in stored_keys key_rows key_in
      meant_in
  position_seen work counts given = ap (λ (s : Seen). ranks s work counts given) e

  pub weights_seen : counts_in a ≡ counts_in b
  unfolding counts_in count_in table_in
  weights_seen = ap weighs e

  -- ---- what the calls that write the image see

  pub key_seen : (given : Given) → key_in a given ≡ key_in b given
  unfolding key_in meant_in
  key_seen given = ap (λ (s : Seen). means s given) e

  pub new_seen : (key : List ℕ) (value : ℕ) → new_of (head_of a) a key value
      ≡ new_of (head_of b) b key value
  unfolding new_of table_in
  new_seen key value = ap (λ (s : Seen). adds s key value) e

  pub writes_seen : (key : List ℕ) (value : ℕ) → writes_in a key value ≡ writes_in b key value
  unfolding table_in
  writes_seen key value =
      ap (λ (s : Seen). store_writes s.head (descend s.table 0 key) value) e

  pub store_order_seen : (work : List ℕ) (given : Given) (value : ℕ)
      → store_order a work given value ≡ store_order b work given value
  unfolding store_order check_order opening_rows_of key_rows key_in meant_in new_of table_in
  store_order_seen work given value = ap (λ (s : Seen). store_rows s work given value) e

  pub store_seen : (work : List ℕ) (given : Given) (value : ℕ) → store_of a work given value
      ≡ stores (seen_in b) work given value a (stored_image a (key_in a given) value)
  unfolding store_of store_order check_order opening_rows_of work_after key_rows key_in meant_in
      new_of
      table_in
  store_seen work given value =
      ap (λ (s : Seen). stores s work given value a (stored_image a (key_in a given) value)) e

  pub store_counts_seen : (work : List ℕ) (given : Given) (value : ℕ) (counts : List ℕ)
      → store_counts_of a work given value counts
      ≡ stores_counts (seen_in b) work given value counts a (stored_image a (key_in a given) value)
      (counts_in (stored_image a (key_in a given) value))
  unfolding store_counts_of store_counts_order check_counts_order counts_order usable check_order
      opening_rows_of work_left work_after row25 count_in worked key_rows key_in meant_in new_of
      table_in
  store_counts_seen work given value counts =
      ap (λ (s : Seen). stores_counts s work given value counts a
      (stored_image a (key_in a given) value) (counts_in (stored_image a (key_in a given) value)))
      e

  pub is_accepted_seen : is_accepted a ≡ is_accepted b
  unfolding is_accepted check_of check_order opening_rows_of work_after table_in
  is_accepted_seen = ap accepts e

-- one image is accepted where the other is
module _ {a b : List ℕ} (e : seen_in a ≡ seen_in b) where
  pub same_accepted : Accepted b → Accepted a
  same_accepted x =
      let back : seen_in b ≡ seen_in a = sym e in
      record {
        long_enough = subst (λ (s : Seen). shortest_image ≤ s.len) back x.long_enough;
        short_enough = subst (λ (s : Seen). s.len ≤ longest_image) back x.short_enough;
        head_permitted = subst (λ (s : Seen). permitted s.head ≡ true) back x.head_permitted;
        alphabet_good =
            subst (λ (s : Seen). 0 < s.head.f → good_alphabet s.head.n s.alphabet ≡ true)
            back x.alphabet_good;
        room = subst (λ (s : Seen). used_len s.head ≤ s.len) back x.room;
        links = subst (λ (s : Seen). LinkRules s.table s.head.g) back x.links;
        visible =
            subst (λ (s : Seen). Visible s.table s.head.min s.head.max) back
            x.visible;
      }
