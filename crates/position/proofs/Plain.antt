-- A call with counts beside the call without them. Its check may use as many working numbers as
-- the shorter list has, so it passes where the plain check passes and the counts are long
-- enough. Then it clears the same working numbers, and the rows that follow are the same.
use Prim.Native.Nat.{ℕ, ◌+◌, ◌≤◌, ◌<◌, min}
use mathlib.Core.Path.{◌≡◌, refl, sym, ◌∙◌, ap}
use mathlib.Core.Logic.{◌↔◌, ◌≢◌, ◌⊎◌, ⊎_elim}
use mathlib.Core.Bool.{not, ◌||◌}
use mathlib.Core.Option.{none, some}
use mathlib.Core.List.{List, [], ◌∷◌, ◌++◌, append_assoc}
use native.Mathlib.Decide.{dec_lt}
use native.Mathlib.Omega.{arith}
use lib.Dec.{ltb, eqb}
use lib.IntN.{pos}
use lib.ListN.{length, get_or, take, drop, replicate, length-take, take-append-drop}
use lib.Seq.{drop-append-le}
use borrow.Author.Tests.{lt-ltb, le-ltb}
use Rattle.trie.specs.Storing.{change_of}
use Rattle.trie.specs.Table.{answer}
use Rattle.head.specs.declared.Head.{Head}
use Rattle.head.specs.Fields.{head_of}
use Rattle.alphabet.specs.Letters.{among}
use Rattle.paper.specs.Hearing.{Row, Numbers, Outcome, row_when, first, heard, outcome}
use Rattle.paper.specs.Hearing.{refused_numbers, done_numbers}
use Rattle.paper.specs.Rows.{row5}
use Rattle.paper.specs.Given.{Given, alphabet_in, key_in}
use Rattle.paper.specs.Orders.{opening_rows_of, check_order, key_rows, new_of, store_order}
use Rattle.paper.specs.Calls.{table_in, work_after, stored_image, store_of}
use Rattle.paper.specs.Accepted.{Accepted}
use Rattle.paper.proofs.Hearing.{second_part, passed_row, passed_parts}
use Rattle.paper.proofs.Hearing.{heard_done, kept_lent}
use Rattle.paper.proofs.Numbers.{AllSay, end, ◌then◌, given_says, lowest_says, parts_say}
use Rattle.paper.proofs.Numbers.{first_says, none_heard}
use Rattle.paper.proofs.CheckCall.{accepted_opens, checked, check_accepts, accepted_checks}
use Rattle.paper.proofs.CheckCall.{work_cleared, work_kept}
use Rattle.paper.proofs.CheckCall.{checking_says, check_numbers}
use Rattle.paper.proofs.Keying.{given_says_key}
use Rattle.paper.proofs.StoreCall.{valued, valued_says}
use Rattle.position.specs.Counts.{count_in, row25, row5again}
use Rattle.position.specs.Orders.{usable, counts_order, check_counts_order, store_counts_order}
use Rattle.position.specs.Calls.{work_left, worked, store_counts_of}

-- ---- the working numbers that the check may use

usable_length : (work counts : List ℕ) → length (usable work counts) ≡ min (length counts)
    (length work)
unfolding usable
usable_length work counts = length-take (length counts) work

pub both_lent : (l work counts : List ℕ)
    → ((head_of l).g + 1 ≤ length (usable work counts))
    ↔ (((head_of l).g + 1 ≤ length work) × ((head_of l).g + 1 ≤ length counts))
both_lent l work counts =
    let e = usable_length work counts in
    (λ b. (omega arith, omega arith), λ b. omega arith)

-- "5, in its old place, also if the list is shorter than G+1"
pub five_either : (h : Head) (work counts : List ℕ)
    → row5 h (length (usable work counts)) ≡ row_when 5 0
    (ltb (length work) (h.g + 1) || ltb (length counts) (h.g + 1))
unfolding row5
five_either h work counts =
    ap (row_when 5 0) (go (dec_lt (length work) (h.g + 1)) (dec_lt (length counts) (h.g + 1)))
  where
    lent : ℕ
    lent = length (usable work counts)

    e : lent ≡ min (length counts) (length work)
    e = usable_length work counts

    go : Dec (length work < h.g + 1) → Dec (length counts < h.g + 1)
        → ltb lent (h.g + 1) ≡ (ltb (length work) (h.g + 1) || ltb (length counts) (h.g + 1))
    go (yes a) b =
        lt-ltb lent (h.g + 1) (omega (arith, e)) ∙ sym (rw (lt-ltb (length work) (h.g + 1) a))
    go (no a) (yes b) =
        lt-ltb lent (h.g + 1) (omega (arith, e))
        ∙ sym (rw (
          le-ltb (length work) (h.g + 1) (omega arith),
          lt-ltb (length counts)
              (h.g + 1) b,
        ))
    go (no a) (no b) =
        le-ltb lent (h.g + 1) (omega (arith, e))
        ∙ sym (rw (
          le-ltb (length work) (h.g + 1) (omega arith),
          le-ltb (length counts) (h.g + 1)
              (omega arith),
        ))

-- ---- the working numbers after the call

-- the rest of a front part, and then what follows that part, are the rest of the whole
rest_joined : (n m : ℕ) (l : List ℕ) → n ≤ length (take m l) → drop n (take m l) ++ drop m l
    ≡ drop n l
rest_joined n m l b =
    sym (drop-append-le n (take m l) (drop m l) b) ∙ ap (drop n) (take-append-drop m l)

-- 01's rule, where 5 asks for both lists
module _ (l work counts : List ℕ) where
  abbrev nodes : ℕ
  nodes = (head_of l).g + 1

  pub counts_cleared : first (opening_rows_of l) ≡ none → nodes ≤ length work
      → nodes ≤ length counts
      → work_left l work counts ≡ replicate nodes 0 ++ drop nodes work
  unfolding work_left usable
  counts_cleared o b c =
      let zeros : List ℕ = replicate nodes 0 in
      let lent : nodes ≤ length (usable work counts) = (both_lent l work counts).1 (b, c) in
      ap (λ (w : List ℕ). w ++ drop (length counts) work)
      (work_cleared l (usable work counts) o lent)
      ∙ append_assoc zeros (drop nodes (usable work counts)) (drop (length counts) work)
      ∙ ap (λ (w : List ℕ). zeros ++ w) (rest_joined nodes (length counts) work lent)

  pub counts_kept : (first (opening_rows_of l) ≡ none
      → (length work < nodes) ⊎ (length counts < nodes))
      → work_left l work counts ≡ work
  unfolding work_left usable
  counts_kept few =
      let e = usable_length work counts in
      ap (λ (w : List ℕ). w ++ drop (length counts) work)
      (work_kept l (usable work counts)
      (λ o. ⊎_elim (λ b. omega arith) (λ b. omega arith) (few o)))
      ∙ take-append-drop (length counts) work

pub work_left_lem : (l work counts : List ℕ) → first (check_order l (usable work counts)) ≡ none
    → (work_left l work counts ≡ work_after l work)
    × (work_left l work counts ≡ replicate ((head_of l).g + 1) 0 ++ drop ((head_of l).g + 1) work)
work_left_lem l work counts e =
    let opens = accepted_opens (check_accepts l (usable work counts) e) in
    let (lent, long) = (both_lent l work counts).0 (checked l (usable work counts) e).lent in
    let left = counts_cleared l work counts opens lent long in
    (left ∙ sym (work_cleared l work opens lent), left)

-- ---- the rows of a store with counts

pub says_only_25 : (l counts : List ℕ) → AllSay (25 ∷ []) (row25 l counts ∷ [])
unfolding row25 among
says_only_25 l counts = lowest_says 25 (λ q. not (eqb (get_or counts q 0) (count_in l q))) 0
    ((head_of l).g + 1) refl then end

-- the check's numbers, and 25
pub counts_say : (l work counts : List ℕ) → AllSay (check_numbers ++ (25 ∷ []))
    (check_counts_order l work counts)
unfolding check_counts_order counts_order
counts_say l work counts = parts_say (checking_says l (usable work counts)) (says_only_25 l counts)

-- what is known where a check with counts passes
pub record CountsChecked (l work counts : List ℕ) : Type 0 where
  pub passes : first (check_order l (usable work counts)) ≡ none
  pub accepted : Accepted l
  pub lent : (head_of l).g + 1 ≤ length work
  pub listed : (head_of l).g + 1 ≤ length counts
  pub same : row25 l counts ≡ none

pub counts_checked : (l work counts : List ℕ) → first (check_counts_order l work counts) ≡ none
    → CountsChecked l work counts
unfolding check_counts_order counts_order
counts_checked l work counts e =
    let (passes, rest) =
    passed_parts (check_order l (usable work counts)) (row25 l counts ∷ []) e in
    let both = (both_lent l work counts).0 (checked l (usable work counts) passes).lent in
    record {
      passes = passes;
      accepted = check_accepts l (usable work counts) passes;
      lent = both.0;
      listed = both.1;
      same = (passed_row (row25 l counts) [] rest).0;
    }

-- the numbers of the refusals of a store with counts
abbrev pub store_counts_numbers : List ℕ
store_counts_numbers = check_numbers ++ (25 ∷ 9 ∷ 10 ∷ 11 ∷ 12 ∷ 13 ∷ 5 ∷ [])

module _ (l work : List ℕ) (given : Given) (value : ℕ) (counts : List ℕ) where
  abbrev key : List ℕ
  key = key_in l given

  abbrev new : ℕ
  new = new_of (head_of l) l key value

  -- the numbers of the answer where the store is done
  abbrev told : Numbers
  told = done_numbers 0 (change_of (answer (table_in l) key) value) 0

  -- what is known where the order of a store with counts passes
  pub record StorePassed : Type 0 where
    pub counts_passed : CountsChecked l work counts
    pub keys : first (key_rows l given) ≡ none
    pub values : first (valued l key value) ≡ none
    pub again : row5again (head_of l) new (length counts) ≡ none

  pub store_order_lem : first (store_counts_order l work given value counts) ≡ none → StorePassed
  unfolding store_counts_order
  store_order_lem e =
      let last : List Row = row5again (head_of l) new (length counts) ∷ [] in
      let after25 = passed_parts (check_counts_order l work counts)
      (key_rows l given ++ (valued l key value ++ last)) e in
      let after10 = passed_parts (key_rows l given) (valued l key value ++ last) after25.1 in
      let after13 = passed_parts (valued l key value) last after10.1 in
      record {
        counts_passed = counts_checked l work counts after25.0;
        keys = after10.0;
        values = after13.0;
        again = (passed_row (row5again (head_of l) new (length counts)) [] after13.1).0;
      }

  pub storing_counts_say : AllSay store_counts_numbers
      (store_counts_order l work given value counts)
  unfolding store_counts_order key_rows row5again among
  storing_counts_say =
      parts_say (counts_say l work counts)
      (parts_say (given_says_key (head_of l) (alphabet_in (head_of l) l) given)
      (parts_say (valued_says l key value)
      (given_says 5 0 (ltb (length counts) ((head_of l).g + new + 1)) refl then end)))

  pub store_counts_passed : (store_counts_of l work given value counts).numbers.number ≡ 0
      → first (store_counts_order l work given value counts) ≡ none
  unfolding store_counts_of among
  store_counts_passed z = none_heard _ _ (first_says storing_counts_say) refl z

  -- then the plain order passes too
  pub plain_passes : StorePassed → first (store_order l work given value) ≡ none
  unfolding store_order
  plain_passes p =
      let c = p.counts_passed in
      second_part (check_order l work) (key_rows l given ++ valued l key value)
      (accepted_checks l work c.accepted c.lent)
      ∙ second_part (key_rows l given) (valued l key value) p.keys
      ∙ p.values

  -- ---- beside the plain store

  -- where a store with counts is done, so is the plain store, with the same answer, image and
  -- working numbers
  pub store_counts_plain : (store_counts_of l work given value counts).numbers.number ≡ 0
      → ((store_of l work given value).numbers.number ≡ 0)
      × (store_counts_of l work given value counts
      ≡ outcome (store_of l work given value).numbers
      (stored_image l key value ∷ work_after l work ∷ worked (stored_image l key value) counts ∷
      []))
  unfolding store_counts_of store_of done_numbers
  store_counts_plain z =
      let e = store_counts_passed z in
      let p = store_order_lem e in
      let image : List ℕ = stored_image l key value in
      let plain : store_of l work given value ≡ outcome told (image ∷ work_after l work ∷ []) =
      heard_done _ _ _ (plain_passes p) in (
        ap (λ (o : Outcome). o.numbers.number) plain,
        heard_done _ _ _ e
            ∙ ap (λ (w : List ℕ). outcome told (image ∷ w ∷ worked image counts ∷ []))
            (work_left_lem l work counts p.counts_passed.passes).0
            ∙ ap (λ (o : Outcome). outcome o.numbers
            (image ∷ work_after l work ∷ worked image counts ∷ [])) (sym plain),
      )

  -- "A refused call changes nothing in the image or in any other lent buffer but the working
  -- numbers"
  pub store_counts_kept : (store_counts_of l work given value counts).numbers.number ≢ 0
      → ((store_counts_of l work given value counts).lent
      ≡ l ∷ work_left l work counts ∷ counts ∷ [])
      × ((store_counts_of l work given value counts).numbers.change ≡ pos 0)
  unfolding store_counts_of done_numbers heard refused_numbers
  store_counts_kept z = (kept_lent r kept done refl z, no_change r z)
    where
      r : Row
      r = first (store_counts_order l work given value counts)

      kept : List (List ℕ)
      kept = l ∷ work_left l work counts ∷ counts ∷ []

      done : Outcome
      done =
          outcome told (stored_image l key value ∷ work_left l work counts
          ∷ worked (stored_image l key value) counts ∷ [])

      no_change : (r : Row) → (heard r kept done).numbers.number ≢ 0
          → (heard r kept done).numbers.change ≡ pos 0
      no_change none f = absurd (f refl)
      no_change (some s) f = refl
