-- Demand 3: what a store that is not refused does to an image, to its answers and to its stored
-- keys, and for which reasons a store is refused. The table of the stored image is the stored
-- table (`stored_table`), so the laws on tables are laws on images.
use Prim.Native.Nat.{ℕ, zero, suc, ◌+◌, ◌-◌, ◌*◌, ◌^◌, ◌≤◌, ◌<◌}
use mathlib.Core.Path.{◌≡◌, refl, sym, ap, ap₂, subst, ◌∙◌}
use mathlib.Core.Bool.{Bool, true, false, ◌&&◌, and-false, cond}
use mathlib.Core.Logic.{◌↔◌, ◌≢◌}
use mathlib.Core.Option.{Option, none, some}
use mathlib.Core.List.{List, [], ◌∷◌, ◌++◌}
use native.Mathlib.Nat.{add-zero, one-le-pow}
use native.Mathlib.Decide.{ℕ_discrete, dec_le, dec_lt}
use native.Mathlib.Omega.{arith}
use lib.Dec.{ltb, eqb}
use lib.ListN.{length, get_or}
use lib.IntN.{pos, ◌+ℤ◌}
use lib.Seq.{sets}
use borrow.Author.Tests.{ltb-false, lt-ltb, le-ltb, eqb-true}
use Rattle.field.specs.Field.{digits}
use Rattle.field.proofs.Range.{between_true}
use Rattle.trie.specs.Table.{Table, Descent, complete, stopped, descend, answer, missing, fault}
use Rattle.trie.specs.Keys.{listing}
use Rattle.trie.specs.Rules.{LinkRules, Visible}
use Rattle.trie.specs.Storing.{stored, stored_by, added, change_of}
use Rattle.trie.proofs.Walk.{complete_within}
use Rattle.trie.proofs.Faults.{fault_nil, fault_empty, fault_on}
use Rattle.trie.proofs.Grow.{room}
use Rattle.trie.proofs.Storing.{none_added, stored_answer, stored_answer_other}
use Rattle.trie.proofs.Rules.{stored_rules, stored_visible}
use Rattle.trie.proofs.Count.{stored_count}
use Rattle.head.specs.declared.Head.{Head}
use Rattle.head.specs.Fields.{fields_len, head_of, permitted, node_width, used_len}
use Rattle.head.proofs.Fields.{head_outside}
use Rattle.head.proofs.Permitted.{bounds, addresses_fit}
use Rattle.head.proofs.Places.{place_least}
use Rattle.alphabet.specs.Letters.{among, or_empty}
use Rattle.node.specs.Image.{data_place, table_of}
use Rattle.node.specs.Writes.{Write, carried_out, noted, data_write, store_writes}
use Rattle.node.specs.Frame.{Touched}
use Rattle.node.proofs.FieldPlaces.{data_from}
use Rattle.node.proofs.Heads.{with_total, used_more}
use Rattle.node.proofs.Tables.{framed}
use Rattle.node.proofs.StoreOnTable.{length_carried, Storable, store_new, store_over, store_head}
use Rattle.node.proofs.Frame.{EndsIn, frame, none_before, spare}
use Rattle.paper.specs.Hearing.{Row, Outcome, first, heard, outcome, done_numbers}
use Rattle.paper.specs.Rows.{row5, bad_link, row9, row10, row11, row12, row13, row6_at}
use Rattle.paper.specs.Rows.{row6path}
use Rattle.paper.specs.Given.{Given, as_letters, as_text, alphabet_in, meant_by, meant_in, key_in}
use Rattle.paper.specs.Orders.{opening_rows_of, check_order, letters_rows, text_rows, key_rows_by}
use Rattle.paper.specs.Orders.{key_rows, look_up_order, adding_rows, new_of, store_order}
use Rattle.paper.specs.Calls.{table_in, work_after, stored_keys, telling, look_up_of, stored_image}
use Rattle.paper.specs.Calls.{store_of, with_writes}
use Rattle.paper.specs.Accepted.{Accepted}
use Rattle.paper.specs.Granted.{Granted}
use Rattle.paper.proofs.Hearing.{not_given, was_false, first_nil, first_none, yes_row}
use Rattle.paper.proofs.Hearing.{no_row, first_part, second_part, passed_row, passed_parts}
use Rattle.paper.proofs.Hearing.{silent_end, heard_done, heard_alike, kept_lent}
use Rattle.paper.proofs.Numbers.{AllSay, end, ◌then◌, given_says, parts_say, first_says}
use Rattle.paper.proofs.Numbers.{none_heard}
use Rattle.paper.proofs.Opening.{alphabet_same}
use Rattle.paper.proofs.Keying.{key_numbers, given_meant, fit_given, given_says_key}
use Rattle.paper.proofs.CheckCall.{accepted_opens, check_accepts, accepted_checks}
use Rattle.paper.proofs.CheckCall.{check_numbers, checking_says, checked}
use Rattle.paper.proofs.CheckCall.{accepted_linked}
use Rattle.paper.proofs.Linking.{not_bad}
use Rattle.paper.proofs.LookUpCall.{given_fit}

-- ---- the head and the table after a store

-- where nodes are missing, a granted store has what the writes of the new nodes need
pub able : {l key : List ℕ} {v q x : ℕ} {xs : List ℕ} → Granted l key (suc v)
    → descend (table_in l) 0 key ≡ stopped q x xs
    → Storable (head_of l) l q x xs (suc v)
unfolding table_in new_of missing added
able {l} {key} {v} {xs = xs} s e =
    let h : Head = head_of l in
    let r = room key (accepted_linked s.accepted) s.fit.below e in
    let k : new_of h l key (suc v) ≡ suc (length xs) = rw e in
    let lies : used_len h + suc (length xs) * node_width h ≤ length l =
    rw k at (s.room (omega arith)) in
    record {
      node = r.node;
      letters = r.letters;
      addresses = omega (arith, s.addresses (omega arith));
      value = s.value_fits;
      room = rw (used_more h (suc (length xs))) lies;
    }

-- the head and the table after the writes of a store, given how the key's walk ended; g is the
-- new G
record Written (l : List ℕ) (d : Descent) (v g : ℕ) : Type 0 where
  head : head_of (carried_out l (store_writes (head_of l) d v)) ≡ with_total (head_of l) g
  table : table_of (with_total (head_of l) g) (carried_out l (store_writes (head_of l) d v))
      ≡ stored_by d (table_of (head_of l) l) (head_of l).g v

module _ {l key : List ℕ} {value : ℕ} (s : Granted l key value) where
  -- where the key's walk ends
  ends : EndsIn (head_of l) (descend (table_in l) 0 key)
  ends = go (descend (table_in l) 0 key) refl
    where
      go : (d : Descent) → descend (table_in l) 0 key ≡ d → EndsIn (head_of l) d
      go (complete q) e =
          complete_within (table_in l) (head_of l).g key s.accepted.links.within e
      go (stopped q x xs) e = let r = room key (accepted_linked s.accepted) s.fit.below e in
          (r.node, r.letters)

  written : (d : Descent) (v : ℕ) → descend (table_in l) 0 key ≡ d → value ≡ v
      → EndsIn (head_of l) d
      → Written l d v ((head_of l).g + added (missing d) v)
  unfolding table_in new_of store_writes stored_by carried_out missing added data_write
  written (complete q) v e f i =
      let h : Head = head_of l in
      let same : h.g + added 0 v ≡ h.g = ap (h.g +◌) (none_added v) ∙ add-zero h.g in
      rw same
      (record {
        head = head_outside l (digits h.d v) (data_place h q)
            (omega (arith, data_from h q, place_least h q));
        table = store_over h l q v s.accepted.room i (rw (← f) s.value_fits);
      })
  written (stopped q x xs) zero e f i =
      rw (add-zero (head_of l).g) (record { head = refl; table = refl })
  written (stopped q x xs) (suc v) e f i =
      let a = able (subst (Granted l key) f s) e in
      let narrow = addresses_fit (bounds (head_of l) s.accepted.head_permitted) in
      record {
        head = store_head (head_of l) l q x xs v (omega (arith, s.accepted.long_enough))
            (omega (arith, a.addresses));
        table = store_new (head_of l) l q x xs v a;
      }

  pub stored_head : head_of (stored_image l key value) ≡ with_total (head_of l)
      ((head_of l).g + new_of (head_of l) l key value)
  unfolding stored_image new_of table_in
  stored_head = (written (descend (table_in l) 0 key) value refl refl ends).head

  pub stored_table : table_in (stored_image l key value)
      ≡ stored (table_in l) (head_of l).g key value
  unfolding stored_image new_of table_in stored
  stored_table =
      let w = written (descend (table_in l) 0 key) value refl refl ends in
      ap (λ (k : Head). table_of k (stored_image l key value)) w.head ∙ w.table

-- a store keeps the image's length, whether it is granted or not
pub stored_length : (l key : List ℕ) (value : ℕ) → length (stored_image l key value) ≡ length l
unfolding stored_image
stored_length l key value =
    length_carried l (store_writes (head_of l) (descend (table_in l) 0 key) value)

-- ---- the bytes

module _ {l key : List ℕ} {value : ℕ} (s : Granted l key value) where
  -- "No other byte changes."
  pub stored_frame : (p : ℕ) → ¬ Touched (head_of l) (descend (table_in l) 0 key) value p
      → get_or (stored_image l key value) p 0 ≡ get_or l p 0
  unfolding stored_image
  stored_frame p miss = frame (head_of l) l (descend (table_in l) 0 key) value p (ends s) miss

  -- "bytes from U on are spare": those from the new U on keep what they held
  pub stored_spare : (p : ℕ) → used_len (head_of (stored_image l key value)) ≤ p
      → get_or (stored_image l key value) p 0 ≡ get_or l p 0
  unfolding stored_image new_of table_in
  stored_spare p b = spare (head_of l) l (descend (table_in l) 0 key) value p (ends s)
      (subst (λ (h : Head). used_len h ≤ p) (stored_head s) b)

  pub stored_alphabet : alphabet_in (head_of (stored_image l key value)) (stored_image l key value)
      ≡ alphabet_in (head_of l) l
  unfolding alphabet_in
  stored_alphabet =
      rw (stored_head s)
      (alphabet_same (head_of l) (stored_image l key value) l (stored_length l key value)
      (λ i b. stored_frame (fields_len + i) (none_before (omega arith) (omega arith))))

  -- ---- the rules

  stored_room : used_len (head_of (stored_image l key value)) ≤ length (stored_image l key value)
  stored_room =
      rw (stored_head s, stored_length l key value, used_more (head_of l) k) (go (ℕ_discrete k 0))
    where
      k : ℕ
      k = new_of (head_of l) l key value

      go : Dec (k ≡ 0) → used_len (head_of l) + k * node_width (head_of l) ≤ length l
      go (yes z) = rw z (omega (arith, s.accepted.room))
      go (no z) = s.room (omega arith)

  stored_links : LinkRules (stored (table_in l) (head_of l).g key value)
      ((head_of l).g + new_of (head_of l) l key value)
  unfolding new_of table_in
  stored_links = stored_rules (framed (head_of l) l) s.accepted.links key s.fit.below value

  stored_data : Visible (stored (table_in l) (head_of l).g key value) (head_of l).min
      (head_of l).max
  stored_data =
      let (low, high) =
      between_true (length key) (head_of l).min (head_of l).max s.fit.allowed in
      stored_visible (accepted_linked s.accepted) (head_of l).min (head_of l).max
      s.accepted.visible key s.fit.below low high value

  stored_permitted : permitted (head_of (stored_image l key value)) ≡ true
  unfolding permitted
  stored_permitted = ap permitted (stored_head s) ∙ s.accepted.head_permitted

  -- "Otherwise the image is again accepted"
  pub accepted_again : Accepted (stored_image l key value)
  accepted_again =
      let a = s.accepted in
      record {
        long_enough = rw (stored_length l key value) a.long_enough;
        short_enough = rw (stored_length l key value) a.short_enough;
        head_permitted = stored_permitted;
        alphabet_good = rw (stored_alphabet, stored_head s) a.alphabet_good;
        room = stored_room;
        links = rw (stored_table s, stored_head s) stored_links;
        visible = rw (stored_table s, stored_head s) stored_data;
      }

-- ---- a lookup in an image that was opened, on a path with no bad link

quiet : {at : Option ℕ} → at ≡ none → row6_at at ≡ none
unfolding row6_at
quiet e = ap row6_at e

module _ (l : List ℕ) (given : Given) (opened : first (opening_rows_of l) ≡ none)
    (fair : fault (bad_link (head_of l).g) (table_in l) 0 (key_in l given) ≡ none) where
  -- neither 1 to 4 nor 6 is given, so 9 and 10 decide
  key_decides : first (look_up_order l given) ≡ first (key_rows l given)
  unfolding look_up_order row6path table_in
  key_decides = second_part (opening_rows_of l) _ opened ∙ silent_end (key_rows l given) _
      (first_none _ [] (quiet fair) ∙ first_nil)

  pub looks_up_open : look_up_of l given ≡ heard (first (key_rows l given)) []
      (telling (answer (table_in l) (key_in l given)))
  unfolding look_up_of
  looks_up_open =
      ap (λ (r : Row). heard r [] (telling (answer (table_in l) (key_in l given)))) key_decides

-- ---- and in an accepted image

module _ {l : List ℕ} (a : Accepted l) where
  -- no key's path has a bad link
  pub unfaulted : (q : ℕ) (k : List ℕ) → fault (bad_link (head_of l).g) (table_in l) q k ≡ none
  unfaulted q [] = fault_nil (bad_link (head_of l).g) (table_in l) q
  unfaulted q (x ∷ xs) = go (ℕ_discrete c 0) (unfaulted c xs)
    where
      c : ℕ
      c = (table_in l).child q x

      bad : ℕ → Bool
      bad = bad_link (head_of l).g

      go : Dec (c ≡ 0) → fault bad (table_in l) c xs ≡ none → fault bad (table_in l) q (x ∷ xs)
          ≡ none
      go (yes e) rest = fault_empty bad (table_in l) q x xs e
      go (no e) rest =
          fault_on bad (table_in l) q x xs refl e
          ((not_bad (head_of l).g c).1 (a.links.within q x)) ∙ rest

  pub looks_up_accepted : (given : Given) → look_up_of l given
      ≡ heard (first (key_rows l given)) []
      (telling (answer (table_in l) (key_in l given)))
  looks_up_accepted given = looks_up_open l given (accepted_opens a) (unfaulted 0 (key_in l given))

-- ---- 9 and 10, where G changed and the other fields and the alphabet did not

pub keying_total : (h : Head) (g : ℕ) (alphabet : List ℕ) (given : Given)
    → key_rows_by (with_total h g) alphabet given ≡ key_rows_by h alphabet given
unfolding key_rows_by letters_rows text_rows row9 row10
keying_total h g alphabet (as_letters key) = refl
keying_total h g alphabet (as_text text) = refl

module _ (a b : List ℕ) {g : ℕ} (heads : head_of a ≡ with_total (head_of b) g)
    (alphabets : alphabet_in (head_of a) a ≡ alphabet_in (head_of b) b)
    (given : Given) where
  pub same_keying : key_rows a given ≡ key_rows b given
  unfolding key_rows
  same_keying =
      ap₂ (λ (h : Head) (alphabet : List ℕ). key_rows_by h alphabet given) heads alphabets
      ∙ keying_total (head_of b) g (alphabet_in (head_of b) b) given

  pub same_meant : meant_in a given ≡ meant_in b given
  unfolding meant_in
  same_meant = ap (λ (alphabet : List ℕ). meant_by alphabet given) alphabets

  pub same_key_lem : key_in a given ≡ key_in b given
  unfolding key_in
  same_key_lem = ap or_empty same_meant

-- ---- what keys answer after a store

module _ {l key : List ℕ} {value : ℕ} (s : Granted l key value) (given : Given) where
  abbrev after : List ℕ
  after = stored_image l key value

  -- 9 and 10 are as before the store, and the same key is meant
  looks_after : look_up_of after given ≡ heard (first (key_rows l given)) []
      (telling (answer (table_in after) (key_in l given)))
  looks_after =
      looks_up_accepted (accepted_again s) given
      ∙ ap₂ (λ (rows : List Row) (k : List ℕ). heard (first rows) []
      (telling (answer (table_in after) k)))
      (same_keying after l (stored_head s) (stored_alphabet s) given)
      (same_key_lem after l (stored_head s) (stored_alphabet s) given)

  -- "the key answers the new value", by letters and by every text that means it
  pub stored_answers : meant_in l given ≡ some key → look_up_of after given ≡ telling value
  unfolding key_rows key_in meant_in or_empty
  stored_answers e =
      looks_after
      ∙ heard_done _ [] _ (fit_given (head_of l) (alphabet_in (head_of l) l) given e s.fit)
      ∙ ap (λ (k : List ℕ). telling (answer (table_in after) k)) (ap or_empty e)
      ∙ ap (λ (t : Table). telling (answer t key)) (stored_table s)
      ∙ ap telling (stored_answer (accepted_linked s.accepted) key s.fit.below value)

  -- "every other key answers as before", or is refused as before
  pub others_answer : meant_in l given ≢ some key → look_up_of after given ≡ look_up_of l given
  unfolding key_rows key_in meant_in
  others_answer other =
      let k : List ℕ = key_in l given in
      let same : first (key_rows l given) ≡ none → answer (table_in after) k
      ≡ answer (table_in l) k =
      λ e.
      let meant = given_meant (head_of l) (alphabet_in (head_of l) l) given e in
      ap (λ (t : Table). answer t k) (stored_table s)
      ∙ stored_answer_other (accepted_linked s.accepted) key s.fit.below value k
      (λ f. other (meant ∙ ap (λ (x : List ℕ). some x) f)) in
      looks_after
      ∙ heard_alike (first (key_rows l given)) [] (λ e. ap telling (same e))
      ∙ sym (looks_up_accepted s.accepted given)

module _ {l key : List ℕ} {value : ℕ} (s : Granted l key value) where
  -- ---- how many keys are stored

  -- "the change in the number of stored keys: -1, 0 or 1"
  pub stored_change : pos (length (stored_keys (stored_image l key value)))
      ≡ pos (length (stored_keys l)) +ℤ change_of (answer (table_in l) key) value
  unfolding stored_keys
  stored_change =
      let b = between_true (length key) (head_of l).min (head_of l).max s.fit.allowed in
      ap₂ (λ (h : Head) (t : Table). pos (length (listing t h.n h.min h.max)))
      (stored_head s) (stored_table s)
      ∙ stored_count (accepted_linked s.accepted) key s.fit.below value (head_of l).min
      (head_of l).max b.0 b.1

-- ---- 11, 12 and 13 pass exactly where the value, the new addresses and the new nodes fit

-- a test "with k above 0"
with_new : (k most x : ℕ) → ((ltb 0 k && ltb most x) ≡ false) ↔ (0 < k → x ≤ most)
with_new k most x = (λ e b. ltb-false most x (rw (lt-ltb 0 k b) at e), λ f. go (dec_lt 0 k) f)
  where
    go : Dec (0 < k) → (0 < k → x ≤ most) → (ltb 0 k && ltb most x) ≡ false
    go (yes b) f = rw (le-ltb most x (f b)) (and-false (ltb 0 k))
    go (no b) f = rw (le-ltb 0 k (omega arith))

module _ (h : Head) where
  pub none_11 : (value : ℕ) → (row11 h value ≡ none) ↔ (value < 256 ^ h.d)
  unfolding row11
  none_11 value = (
    λ e. omega (
      arith,
      ltb-false (256 ^ h.d - 1) value (was_false 11 0 _ e),
      one-le-pow h.d 256
          (omega arith),
    ),
    λ b. not_given 11 0 (le-ltb (256 ^ h.d - 1) value (omega arith)),
  )

  -- 02, Ask 6: "values are 64 bits wide in every call" and "11 is never given for D = 8"
  pub eleven_never : (value : ℕ) → h.d ≡ 8 → value < 2 ^ 64 → row11 h value ≡ none
  eleven_never value e b = (none_11 value).1 (rw e b)

  pub none_12 : (k : ℕ) → (row12 h k ≡ none) ↔ (0 < k → h.g + k < 256 ^ h.a)
  unfolding row12
  none_12 k =
      let w = with_new k (256 ^ h.a - 1) (h.g + k) in (
        λ e b. omega (arith, w.0 (was_false 12 0 _ e) b, one-le-pow h.a 256 (omega arith)),
        λ f. not_given 12 0 (w.1 (λ b. omega (arith, f b))),
      )

  pub none_13 : (k len : ℕ) → (row13 h k len ≡ none)
      ↔ (0 < k → used_len h + k * node_width h ≤ len)
  unfolding row13
  none_13 k len =
      let w = with_new k len (used_len h + k * node_width h) in
      (λ e. w.0 (was_false 13 0 _ e), λ f. not_given 13 0 (w.1 f))

-- ---- a store

-- the numbers of its refusals
abbrev pub store_numbers : List ℕ
store_numbers = check_numbers ++ (9 ∷ 10 ∷ 11 ∷ 12 ∷ 13 ∷ [])

-- 11, 12 and 13 for a key and a value
abbrev pub valued : List ℕ → List ℕ → ℕ → List Row
valued l key value = adding_rows (head_of l) value (new_of (head_of l) l key value) (length l)

pub valued_says : (l key : List ℕ) (value : ℕ) → AllSay (11 ∷ 12 ∷ 13 ∷ []) (valued l key value)
unfolding adding_rows row11 row12 row13 among
valued_says l key value =
    let h : Head = head_of l in
    let k : ℕ = new_of h l key value in
    given_says 11 0 (ltb (256 ^ h.d - 1) value) refl
    then given_says 12 0 (ltb 0 k && ltb (256 ^ h.a - 1) (h.g + k)) refl
    then given_says 13 0 (ltb 0 k && ltb (length l) (used_len h + k * node_width h)) refl
    then end

module _ (l work : List ℕ) (given : Given) (value : ℕ) where
  abbrev key : List ℕ
  key = key_in l given

  -- where the order passes, each of its parts passes
  pub order_passed : first (store_order l work given value) ≡ none
      → (first (check_order l work) ≡ none) × (first (key_rows l given) ≡ none)
      × (first (valued l key value) ≡ none)
  unfolding store_order
  order_passed e =
      let after8 = passed_parts (check_order l work) (key_rows l given ++ valued l key value) e in
      let after10 = passed_parts (key_rows l given) (valued l key value) after8.1 in
      (after8.0, after10.0, after10.1)

  -- a store that passes every row is granted
  pub granted : first (store_order l work given value) ≡ none → Granted l key value
  unfolding adding_rows
  granted e =
      let h : Head = head_of l in
      let k : ℕ = new_of h l key value in
      let (checks, keys, values) = order_passed e in
      let after11 = passed_row (row11 h value) (row12 h k ∷ row13 h k (length l) ∷ []) values in
      let after12 = passed_row (row12 h k) (row13 h k (length l) ∷ []) after11.1 in
      let after13 = passed_row (row13 h k (length l)) [] after12.1 in
      let accepted = check_accepts l work checks in
      record {
        accepted = accepted;
        fit = given_fit l given (accepted_opens accepted) keys;
        value_fits = (none_11 h value).0 after11.0;
        addresses = (none_12 h k).0 after12.0;
        room = (none_13 h k (length l)).0 after13.0;
      }

  -- a granted store passes every row, where its key does and the working numbers are enough
  pub grants : Granted l key value → (head_of l).g + 1 ≤ length work → first (key_rows l given)
      ≡ none
      → first (store_order l work given value) ≡ none
  unfolding store_order adding_rows
  grants s lent passes =
      let h : Head = head_of l in
      let k : ℕ = new_of h l key value in
      second_part (check_order l work) (key_rows l given ++ valued l key value)
      (accepted_checks l work s.accepted lent)
      ∙ second_part (key_rows l given) (valued l key value) passes
      ∙ first_none (row11 h value) _ ((none_11 h value).1 s.value_fits)
      ∙ first_none (row12 h k) _ ((none_12 h k).1 s.addresses)
      ∙ first_none (row13 h k (length l)) _ ((none_13 h k (length l)).1 s.room)
      ∙ first_nil

  -- in an accepted image the order is 5, then 9 and 10, then 11 to 13
  pub accepted_order : Accepted l
      → first (store_order l work given value)
      ≡ first (row5 (head_of l) (length work) ∷ (key_rows l given ++ valued l key value))
  unfolding store_order check_order row5
  accepted_order a = go (dec_le ((head_of l).g + 1) (length work))
    where
      rest : List Row
      rest = key_rows l given ++ valued l key value

      go : Dec ((head_of l).g + 1 ≤ length work) → first (store_order l work given value)
          ≡ first (row5 (head_of l) (length work) ∷ rest)
      go (yes b) =
          second_part (check_order l work) rest (accepted_checks l work a b)
          ∙ sym (no_row 5 0 rest (le-ltb (length work) ((head_of l).g + 1) b))
      go (no b) =
          let few : ltb (length work) ((head_of l).g + 1) ≡ true =
          lt-ltb (length work) ((head_of l).g + 1) (omega arith) in
          first_part (check_order l work) rest
          (second_part (opening_rows_of l) _ (accepted_opens a)
          ∙ yes_row 5 0 _ few)
          ∙ sym (yes_row 5 0 rest few)

  says : AllSay key_numbers (key_rows l given)
  unfolding key_rows
  says = given_says_key (head_of l) (alphabet_in (head_of l) l) given

  pub storing_says : AllSay store_numbers (store_order l work given value)
  unfolding store_order
  storing_says = parts_say (checking_says l work) (parts_say says (valued_says l key value))

  -- no row has the number 0
  pub store_passed : (store_of l work given value).numbers.number ≡ 0
      → first (store_order l work given value) ≡ none
  unfolding store_of among
  store_passed z = none_heard _ _ (first_says storing_says) refl z

  pub store_granted : (store_of l work given value).numbers.number ≡ 0 → Granted l key value
  store_granted z = granted (store_passed z)

  -- a store that is done means a key
  pub store_means : (store_of l work given value).numbers.number ≡ 0 → meant_in l given ≡ some key
  unfolding key_rows key_in meant_in
  store_means z =
      given_meant (head_of l) (alphabet_in (head_of l) l) given (order_passed (store_passed z)).1

  -- what a store that is done answers and leaves
  pub store_leaves : (store_of l work given value).numbers.number ≡ 0
      → store_of l work given value
      ≡ outcome (done_numbers 0 (change_of (answer (table_in l) key) value) 0)
      (stored_image l key value ∷ work_after l work ∷ [])
  unfolding store_of
  store_leaves z = heard_done (first (store_order l work given value)) _ _ (store_passed z)

  -- a store is done exactly where enough working numbers are lent, a key is meant, and the store
  -- is granted for that key
  pub store_done_exactly : ((store_of l work given value).numbers.number ≡ 0)
      ↔ (((head_of l).g + 1 ≤ length work) × (k : List ℕ) × (meant_in l given ≡ some k)
      × Granted l k value)
  unfolding store_of done_numbers key_rows key_in meant_in or_empty
  store_done_exactly = (
    λ z. (
      (checked l work (order_passed (store_passed z)).0).lent,
      key,
      store_means z,
      store_granted z,
    ),
    λ s.
        let (lent, k, e, g) = s in
        let same : key ≡ k = ap or_empty e in
        let passes = fit_given (head_of l) (alphabet_in (head_of l) l) given e g.fit in
        ap (λ (o : Outcome). o.numbers.number)
        (heard_done _ _ _ (grants (subst (λ (j : List ℕ). Granted l j value) (sym same) g) lent
        passes)),
  )

  -- "A refused call changes nothing in the image or in any other lent buffer but the working
  -- numbers"
  pub refused_keeps : (store_of l work given value).numbers.number ≢ 0
      → (store_of l work given value).lent ≡ l ∷ work_after l work ∷ []
  unfolding store_of done_numbers
  refused_keeps z =
      kept_lent (first (store_order l work given value)) (l ∷ work_after l work ∷ []) _ refl z

-- ---- a store with writes

-- its number is the store's
pub writes_number : (ws : List Write) (list : List ℕ) (o : Outcome)
    → (with_writes ws list o).numbers.number ≡ o.numbers.number
unfolding with_writes done_numbers
writes_number ws list o = go (eqb o.numbers.number 0) refl
  where
    go : (b : Bool) → eqb o.numbers.number 0 ≡ b
        → (cond b (outcome (done_numbers (length ws) o.numbers.change 0)
        (o.lent ++ (sets list 0 (noted ws) ∷ [])))
        (outcome o.numbers (o.lent ++ (list ∷ [])))).numbers.number
        ≡ o.numbers.number
    go true e = sym (eqb-true o.numbers.number 0 e)
    go false e = refl
