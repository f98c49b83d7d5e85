-- Demand 2 on next key, for the outcomes that its promise cites: it gives the first stored key
-- that meets the request, 15 is given exactly where there is none, and repeated calls list the
-- stored keys, each once and in order. Every key on the way is stored, so it passes 9 and 10;
-- the rest are laws on keys in order.
use Prim.Native.Nat.{ℕ, zero, suc, ◌+◌, ◌^◌, ◌≤◌, ◌<◌}
use mathlib.Core.Path.{◌≡◌, refl, sym, ◌∙◌, ap}
use mathlib.Core.Logic.{◌↔◌, ◌≢◌}
use mathlib.Core.Bool.{Bool, true, false}
use mathlib.Core.Option.{Option, none, some}
use mathlib.Core.List.{List, [], ◌∷◌, ◌++◌, Memᴰ}
use native.Mathlib.Nat.{mul-le-mul_right}
use native.Mathlib.Omega.{arith}
use lib.Dec.{ltb}
use lib.ListN.{length, take, drop, replicate, length-append, length-replicate, length-drop}
use lib.ListN.{drop_of_length-le}
use lib.Seq.{sets, length-sets, sets-eq, take_at}
use borrow.Author.Tests.{le-ltb, ltb-false}
use Rattle.trie.specs.Table.{LettersBelow, answer}
use Rattle.trie.specs.Keys.{meets, filter, with_key, Ascending}
use Rattle.trie.specs.Beyond.{first_of}
use Rattle.trie.proofs.Listing.{First, first_some, first_none, under_listed, listing_holds}
use Rattle.trie.proofs.Listing.{keys_under_ascending}
use Rattle.trie.proofs.Filter.{first_filter, first_listed, filter_length, filter_all, filter_next}
use Rattle.trie.proofs.Few.{listing_few}
use Rattle.head.specs.Fields.{head_of}
use Rattle.head.proofs.Permitted.{bounds}
use Rattle.head.proofs.Places.{used, width_least}
use Rattle.alphabet.specs.Letters.{among, or_empty}
use Rattle.node.proofs.Tables.{framed}
use Rattle.paper.specs.Hearing.{Row, Outcome, first, outcome, refused_numbers, done_numbers}
use Rattle.paper.specs.Answers.{number_at}
use Rattle.paper.specs.Rows.{is_none, row5, row14, row15}
use Rattle.paper.specs.Orders.{opening_rows_of, check_order, next_rows, next_key_order}
use Rattle.paper.specs.Calls.{table_in, cleared_by, work_after, stored_keys, next_in, found_in}
use Rattle.paper.specs.Calls.{next_key_of}
use Rattle.paper.specs.Repeated.{first_left, key_left, key_heard, heard_then, asked_from}
use Rattle.paper.specs.Repeated.{asked_after, asked_for_all}
use Rattle.paper.specs.Accepted.{Accepted}
use Rattle.paper.proofs.Hearing.{was_false, first_nil, yes_row, no_row, second_part}
use Rattle.paper.proofs.Hearing.{passed_row, passed_parts, heard_refused, heard_done}
use Rattle.paper.proofs.Numbers.{AllSay, end, ◌then◌, given_says, parts_say, first_says}
use Rattle.paper.proofs.Numbers.{none_heard}
use Rattle.paper.proofs.Keying.{some_found, Askable, askable_passes, next_says}
use Rattle.paper.proofs.CheckCall.{check_numbers, checking_says, accepted_checks}
use Rattle.paper.proofs.CheckCall.{accepted_linked}

-- ---- the stored keys

-- "A stored key is one with length in min..max whose data is not 0"
pub stored_exactly : (l k : List ℕ)
    → Memᴰ k (stored_keys l)
    ↔ (((head_of l).min ≤ length k) × (length k ≤ (head_of l).max) × (answer (table_in l) k ≢ 0))
unfolding stored_keys table_in
stored_exactly l k = listing_holds (framed (head_of l) l) (head_of l).min (head_of l).max k

pub stored_ascending : (l : List ℕ) → Ascending (stored_keys l)
unfolding stored_keys
stored_ascending l =
    keys_under_ascending (table_in l) (head_of l).n (head_of l).min (head_of l).max 0

-- next key refuses no stored key with 9 or 10
pub stored_askable : (l k : List ℕ) → Memᴰ k (stored_keys l) → Askable (head_of l) k
unfolding stored_keys
stored_askable l k a =
    let f = under_listed (table_in l) (head_of l).n (head_of l).min (head_of l).max 0 k a in
    record { short = f.deep; below = f.letters }

-- there are at most as many stored keys as nodes, and the nodes are inside the image
pub counted_few : {l : List ℕ} → Accepted l → length (stored_keys l) ≤ suc (head_of l).g
unfolding stored_keys
counted_few {l} a = listing_few (accepted_linked a) (head_of l).min (head_of l).max

pub counted_fits : {l : List ℕ} → Accepted l → length (stored_keys l) < 2 ^ 32
counted_fits {l} a =
    let wide = width_least (bounds (head_of l) a.head_permitted) in
    omega (
      arith,
      counted_few a,
      used (head_of l),
      a.room,
      a.short_enough,
      mul-le-mul_right
          ((head_of l).g + 1) wide,
    )

-- ---- one call

-- the numbers of its refusals
abbrev pub next_numbers : List ℕ
next_numbers = check_numbers ++ (9 ∷ 10 ∷ 14 ∷ 15 ∷ [])

-- a key that is written at the front of a buffer with room for it can be read there
pub front : (buffer k : List ℕ) → length k ≤ length buffer → take (length k) (sets buffer 0 k) ≡ k
front buffer k b = ap (take (length k)) (sets-eq k buffer 0 (omega arith))
    ∙ take_at k (drop (0 + length k) buffer) (length k) refl

module _ (l work key : List ℕ) (after : Bool) (buffer : List ℕ) where
  -- what next key answers and leaves where it gives k
  pub record Gives (k : List ℕ) : Type 0 where
    pub heard_key : key_heard (next_key_of l work key after buffer) ≡ some k
    pub first_key : First (meets after key) (stored_keys l) k
    pub length_told : (next_key_of l work key after buffer).numbers.length ≡ length k
    pub value_told : (next_key_of l work key after buffer).numbers.value ≡ answer (table_in l) k
    pub lent_left : (next_key_of l work key after buffer).lent
        ≡ work_after l work ∷ sets buffer 0 k
        ∷ []

  nexting_says : (found : Option (List ℕ))
      → AllSay next_numbers (next_key_order l work key (length buffer) found)
  unfolding next_key_order row14 row15 among
  nexting_says found =
      parts_say (checking_says l work)
      (parts_say (next_says (head_of l) key)
      (given_says 14 0 (ltb (length buffer) (head_of l).max) refl then given_says 15 0
      (is_none found) refl then end))

  -- where the check, 9, 10 and 14 pass, 15 decides
  module _ (checked : first (check_order l work) ≡ none)
      (keyed : first (next_rows (head_of l) key) ≡ none)
      (room : (head_of l).max ≤ length buffer) where
    left_15 : (found : Option (List ℕ)) → first (next_key_order l work key (length buffer) found)
        ≡ first (row15 found ∷ [])
    unfolding next_key_order row14
    left_15 found =
        second_part (check_order l work) _ checked
        ∙ second_part (next_rows (head_of l) key) _ keyed
        ∙ no_row 14 0 _ (le-ltb (length buffer) (head_of l).max room)

    pub leaves_none : next_in l key after ≡ none
        → next_key_of l work key after buffer ≡ outcome (refused_numbers (number_at 15 0))
        (work_after l work ∷ buffer ∷ [])
    unfolding next_key_of row15 is_none
    leaves_none e = rw e (heard_refused _ _ _ (left_15 none ∙ yes_row 15 0 [] refl))

    pub leaves_some : {k : List ℕ} → next_in l key after ≡ some k
        → next_key_of l work key after buffer ≡ found_in l work buffer k
    unfolding next_key_of row15 is_none or_empty
    leaves_some {k} e =
        rw e (heard_done _ _ _ (left_15 (some k) ∙ no_row 15 0 [] refl ∙ first_nil))

    gives : {k : List ℕ} → next_in l key after ≡ some k → Gives k
    unfolding next_in found_in key_heard key_left done_numbers
    gives {k} e =
        let o = leaves_some e in
        let f = first_some (meets after key) (stored_keys l) k (stored_ascending l) e in
        let fits : length k ≤ length buffer =
        omega (arith, (stored_askable l k f.listed).short) in
        record {
          heard_key = ap key_heard o ∙ ap (λ (j : List ℕ). some j) (front buffer k fits);
          first_key = f;
          length_told = ap (λ (r : Outcome). r.numbers.length) o;
          value_told = ap (λ (r : Outcome). r.numbers.value) o;
          lent_left = ap (λ (r : Outcome). r.lent) o;
        }

    -- the key that next key gives is the first that meets the request
    pub hears : key_heard (next_key_of l work key after buffer) ≡ next_in l key after
    unfolding key_heard refused_numbers
    hears = go (next_in l key after) refl
      where
        go : (found : Option (List ℕ)) → next_in l key after ≡ found
            → key_heard (next_key_of l work key after buffer) ≡ next_in l key after
        go none e = ap key_heard (leaves_none e) ∙ sym e
        go (some k) e = (gives e).heard_key ∙ sym e

    -- 15: "no stored key meets the request"
    pub next_none : ((next_key_of l work key after buffer).numbers.number ≡ 15)
        ↔ ((k : List ℕ) → Memᴰ k (stored_keys l) → meets after key k ≡ false)
    unfolding next_in found_in refused_numbers done_numbers
    next_none = (
      λ z. missed.0 (go (next_in l key after) refl z),
      λ h. ap (λ (r : Outcome). r.numbers.number) (leaves_none (missed.1 h)),
    )
      where
        missed : (next_in l key after ≡ none)
            ↔ ((k : List ℕ) → Memᴰ k (stored_keys l) → meets after key k ≡ false)
        missed = first_none (meets after key) (stored_keys l)

        go : (found : Option (List ℕ)) → next_in l key after ≡ found
            → (next_key_of l work key after buffer).numbers.number ≡ 15
            → next_in l key after ≡ none
        go none e z = e
        go (some k) e z =
            absurd (omega (arith, z, ap (λ (r : Outcome). r.numbers.number) (leaves_some e)))

  -- "gives the first stored key that meets it"
  pub next_is_first : (next_key_of l work key after buffer).numbers.number ≡ 0 → (k : List ℕ)
      × Gives k
  unfolding next_key_of next_key_order row14 row15 among
  next_is_first z =
      let found : Option (List ℕ) = next_in l key after in
      let last : List Row = row14 (head_of l) (length buffer) ∷ row15 found ∷ [] in
      let passes = none_heard _ _ (first_says (nexting_says found)) refl z in
      let after8 = passed_parts (check_order l work) (next_rows (head_of l) key ++ last) passes in
      let after10 = passed_parts (next_rows (head_of l) key) last after8.1 in
      let after14 =
      passed_row (row14 (head_of l) (length buffer)) (row15 found ∷ []) after10.1 in
      let after15 = passed_row (row15 found) [] after14.1 in
      let room = ltb-false (length buffer) (head_of l).max (was_false 14 0 _ after14.0) in (
        or_empty found,
        gives after8.0 after10.0 room
            (some_found found (was_false 15 0 _ after15.0)),
      )

-- ---- calls one after the other

-- a call keeps how many working numbers there are
pub work_length : (l work : List ℕ) → length (work_after l work) ≡ length work
unfolding work_after cleared_by row5
work_length l work =
    let rows : List Row = opening_rows_of l ++ (row5 (head_of l) (length work) ∷ []) in
    go (first rows) refl
  where
    go : (r : Row) → first (opening_rows_of l ++ (row5 (head_of l) (length work) ∷ [])) ≡ r
        → length (cleared_by r ((head_of l).g + 1) work) ≡ length work
    go none e =
        let parts = passed_parts (opening_rows_of l) (row5 (head_of l) (length work) ∷ []) e in
        let row = passed_row (row5 (head_of l) (length work)) [] parts.1 in
        let lent = ltb-false (length work) ((head_of l).g + 1) (was_false 5 0 _ row.0) in
        let zeros : List ℕ = replicate ((head_of l).g + 1) 0 in
        omega (
          arith,
          length-append zeros (drop ((head_of l).g + 1) work),
          length-replicate {A = ℕ} ((head_of l).g + 1) 0,
          length-drop ((head_of l).g + 1) work,
        )
    go (some s) e = refl

module _ (l : List ℕ) (a : Accepted l) where
  -- a call that is lent enough, with a key that passes 9 and 10
  record Asking (work key buffer : List ℕ) : Type 0 where
    lent : (head_of l).g + 1 ≤ length work
    room : (head_of l).max ≤ length buffer
    askable : Askable (head_of l) key

  -- a call and those that follow it, if these list the stored keys after the key that it gives
  asked_on : (times : ℕ) (work key : List ℕ) (after : Bool) (buffer : List ℕ)
      → Asking work key buffer
      → ((w k b : List ℕ) → Asking w k b
      → length (filter (meets true k) (stored_keys l)) ≤ times
      → asked_from l times w k true b ≡ filter (meets true k) (stored_keys l))
      → (found : List (List ℕ)) → filter (meets after key) (stored_keys l) ≡ found
      → length found ≤ suc times
      → asked_from l (suc times) work key after buffer ≡ found
  unfolding asked_from heard_then with_key key_heard key_left first_left next_in first_of
      refused_numbers
      found_in done_numbers
  asked_on times work key after buffer s rest [] e few =
      ap (λ (o : Outcome). heard_then o (λ w k b. asked_from l times w k true b))
      (leaves_none l work key after buffer (accepted_checks l work a s.lent)
      (askable_passes (head_of l) key s.askable) s.room
      (first_filter (meets after key) (stored_keys l) ∙ ap first_of e))
  asked_on times work key after buffer s rest (m ∷ ms) e few =
      let found : next_in l key after ≡ some m =
      first_filter (meets after key) (stored_keys l) ∙ ap first_of e in
      let others : filter (meets true m) (stored_keys l) ≡ ms =
      filter_next (stored_keys l) after key (stored_ascending l) e in
      let on = stored_askable l m (first_listed (meets after key) (stored_keys l) found).0 in
      let next : Asking (work_after l work) m (sets buffer 0 m) =
      record {
        lent = omega (arith, s.lent, work_length l work);
        room = omega (arith, s.room, length-sets buffer 0 m);
        askable = on;
      } in
      ap (λ (o : Outcome). heard_then o (λ w k b. asked_from l times w k true b))
      (leaves_some l work key after buffer (accepted_checks l work a s.lent)
      (askable_passes (head_of l) key s.askable) s.room found)
      ∙ ap (λ (k : List ℕ). k ∷ asked_from l times (work_after l work) k true (sets buffer 0 m))
      (front buffer m (omega (arith, on.short, s.room)))
      ∙ ap (m ∷◌) (rest _ m _ next (rw others (omega arith)) ∙ others)

  -- repeated calls, the first of them for any choice, give the stored keys that meet it
  listed_from : (times : ℕ) (work key : List ℕ) (after : Bool) (buffer : List ℕ)
      → Asking work key buffer
      → length (filter (meets after key) (stored_keys l)) ≤ times
      → asked_from l times work key after buffer ≡ filter (meets after key) (stored_keys l)
  unfolding asked_from
  listed_from zero work key after buffer s few =
      sym (drop_of_length-le (filter (meets after key) (stored_keys l)) few)
  listed_from (suc times) work key after buffer s few =
      asked_on times work key after buffer s (λ w k b. listed_from times w k true b)
      (filter (meets after key) (stored_keys l)) refl few

module _ (l work buffer : List ℕ) (a : Accepted l) (lent : (head_of l).g + 1 ≤ length work)
    (room : (head_of l).max ≤ length buffer) where
  -- repeated calls from k on give the stored keys after k
  pub listed_after : (k : List ℕ) → LettersBelow (head_of l).n k → length k ≤ (head_of l).max
      → (times : ℕ) → length (stored_keys l) ≤ times
      → asked_after l work buffer times k ≡ filter (meets true k) (stored_keys l)
  listed_after k below short times enough =
      listed_from l a times work k true buffer
      (record { lent = lent; room = room; askable = record { short = short; below = below } })
      (omega (arith, filter_length (meets true k) (stored_keys l)))

  -- demand 2: "the listing of an accepted image names each stored key once, in order"
  pub listed_all : (times : ℕ) → length (stored_keys l) ≤ times → asked_for_all l work buffer times
      ≡ stored_keys l
  listed_all times enough =
      listed_from l a times work [] false buffer
      (record { lent = lent; room = room; askable = record { short = omega arith; below = tt } })
      (omega (arith, filter_length (meets false []) (stored_keys l)))
      ∙ filter_all (stored_keys l)
