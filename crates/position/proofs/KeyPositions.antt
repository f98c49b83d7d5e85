-- 02, Ask 7, on positions: the key at position i is the first stored key moved on by i steps of
-- next key, the position of a stored key is the one at which it is found, and 15 is given exactly
-- past the end and for a key that is not stored. With right counts the rows before 15 pass; and
-- in a list in order the key at a position and the rank of a key undo each other (`Ranks`).
use Prim.Native.Nat.{ℕ, zero, suc, ◌+◌, ◌≤◌, ◌<◌}
use mathlib.Core.Path.{◌≡◌, refl, sym, ◌∙◌, ap}
use mathlib.Core.Logic.{◌↔◌, ◌≢◌}
use mathlib.Core.Bool.{Bool, true, false, true≢false}
use mathlib.Core.Option.{Option, none, some, some-ne-none}
use mathlib.Core.List.{List, [], ◌∷◌, ◌++◌, Memᴰ}
use native.Mathlib.Decide.{ℕ_discrete, dec_lt}
use native.Mathlib.Omega.{arith}
use lib.IntN.{pos}
use lib.ListN.{length}
use lib.Seq.{sets}
use borrow.Author.Tests.{le-ltb, eq-eqb, ne_eqb}
use Rattle.field.proofs.Range.{between_true, true_between}
use Rattle.trie.specs.Table.{answer}
use Rattle.head.specs.Fields.{head_of}
use Rattle.alphabet.specs.Letters.{among, or_empty}
use Rattle.passing.specs.Passing.{key_at, rank_in}
use Rattle.passing.proofs.Ranks.{at_some, at_none, at_held, at_first, at_next, at_rank, rank_at}
use Rattle.paper.specs.Hearing.{Row, Outcome, first, outcome, refused_numbers, done_numbers}
use Rattle.paper.specs.Answers.{number_at}
use Rattle.paper.specs.Rows.{is_none, row14, row15}
use Rattle.paper.specs.Given.{Given, alphabet_in, meant_in, key_in}
use Rattle.paper.specs.Orders.{check_order, key_rows, next_rows}
use Rattle.paper.specs.Calls.{table_in, work_after, stored_keys, next_in, found_in, next_key_of}
use Rattle.paper.specs.Repeated.{key_left, key_heard}
use Rattle.paper.specs.Accepted.{Accepted}
use Rattle.paper.specs.Granted.{Fit}
use Rattle.paper.proofs.Hearing.{was_false, first_nil, yes_row, no_row, second_part, passed_row}
use Rattle.paper.proofs.Hearing.{passed_parts, heard_refused, heard_done}
use Rattle.paper.proofs.Numbers.{AllSay, end, ◌then◌, given_says, parts_say, first_says}
use Rattle.paper.proofs.Numbers.{none_heard}
use Rattle.paper.proofs.Keying.{Askable, askable_passes, fit_given, given_says_key}
use Rattle.paper.proofs.CheckCall.{accepted_opens, accepted_checks}
use Rattle.paper.proofs.LookUpCall.{given_fit}
use Rattle.paper.proofs.NextKeyCall.{stored_exactly, stored_ascending, stored_askable, front}
use Rattle.paper.proofs.NextKeyCall.{leaves_none, leaves_some}
use Rattle.position.specs.Counts.{RightCounts}
use Rattle.position.specs.Orders.{counts_order, check_counts_order, key_at_order, if_stored}
use Rattle.position.specs.Orders.{position_order}
use Rattle.position.specs.Calls.{work_left, placed_key, key_at_of, position_of}
use Rattle.position.specs.Steps.{step_on, steps_on}
use Rattle.position.proofs.Plain.{work_left_lem, counts_say}
use Rattle.position.proofs.Right.{works_out, checks_counts}

-- a stored key is fit
stored_fit : (l k : List ℕ) → Memᴰ k (stored_keys l) → Fit (head_of l) k
stored_fit l k m =
    let (low, high, _) = (stored_exactly l k).0 m in
    record {
      allowed = true_between (length k) (head_of l).min (head_of l).max low high;
      below = (stored_askable l k m).below;
    }

module _ (l work counts : List ℕ) (a : Accepted l) (lent : (head_of l).g + 1 ≤ length work)
    (right : RightCounts l counts) where
  -- the working numbers are left as by the calls without counts
  pub left_cleared : work_left l work counts ≡ work_after l work
  unfolding counts_order
  left_cleared = (work_left_lem l work counts (works_out l work counts a lent right.long)).0

  -- ---- the key at a position

  module _ (buffer : List ℕ) (room : (head_of l).max ≤ length buffer) where
    -- where the check, 25 and 14 pass, 15 decides
    at_15 : (i : ℕ) → first (key_at_order l work counts i (length buffer))
        ≡ first (row15 (key_at (stored_keys l) i) ∷ [])
    unfolding key_at_order row14
    at_15 i =
        second_part (check_counts_order l work counts)
        (row14 (head_of l) (length buffer) ∷ row15 (key_at (stored_keys l) i) ∷ [])
        (checks_counts l work counts a lent right)
        ∙ no_row 14 0 _ (le-ltb (length buffer) (head_of l).max room)

    no_key_at : (i : ℕ) → key_at (stored_keys l) i ≡ none
        → key_at_of l work counts i buffer ≡ outcome (refused_numbers (number_at 15 0))
        (work_after l work ∷ buffer ∷ [])
    unfolding key_at_of row15 is_none
    no_key_at i e =
        heard_refused _ _ _ (at_15 i ∙ ap (λ (o : Option (List ℕ)). first (row15 o ∷ [])) e
        ∙ yes_row 15 0 [] refl)
        ∙ ap (λ (w : List ℕ). outcome (refused_numbers (number_at 15 0)) (w ∷ buffer ∷ []))
        left_cleared

    one_key_at : (i : ℕ) {k : List ℕ} → key_at (stored_keys l) i ≡ some k
        → key_at_of l work counts i buffer ≡ found_in l work buffer k
    unfolding key_at_of row15 is_none placed_key found_in or_empty
    one_key_at i {k} e =
        heard_done _ _ _ (at_15 i ∙ ap (λ (o : Option (List ℕ)). first (row15 o ∷ [])) e
        ∙ no_row 15 0 [] refl ∙ first_nil)
        ∙ ap (λ (o : Option (List ℕ)). placed_key l work counts buffer (or_empty o)) e
        ∙ ap (λ (w : List ℕ). outcome (done_numbers (length k) (pos 0) (answer (table_in l) k))
        (w ∷ sets buffer 0 k ∷ [])) left_cleared

    -- the key that the call gives is the one at the position
    pub heard_at : (i : ℕ) → key_heard (key_at_of l work counts i buffer)
        ≡ key_at (stored_keys l) i
    unfolding key_heard key_left refused_numbers done_numbers found_in
    heard_at i = go (key_at (stored_keys l) i) refl
      where
        go : (found : Option (List ℕ)) → key_at (stored_keys l) i ≡ found
            → key_heard (key_at_of l work counts i buffer) ≡ key_at (stored_keys l) i
        go none e = ap key_heard (no_key_at i e) ∙ sym e
        go (some k) e =
            let fits : length k ≤ length buffer =
            omega (arith, (stored_askable l k (at_held (stored_keys l) i e)).short) in
            ap key_heard (one_key_at i e) ∙ ap (λ (j : List ℕ). some j) (front buffer k fits)
            ∙ sym e

    -- where next key gives the key at the position, the two outcomes are the same
    as_next : (i : ℕ) (key : List ℕ) (after : Bool) → Askable (head_of l) key → next_in l key after
        ≡ key_at (stored_keys l) i
        → key_at_of l work counts i buffer ≡ next_key_of l work key after buffer
    as_next i key after s same = go (key_at (stored_keys l) i) refl
      where
        checks : first (check_order l work) ≡ none
        checks = accepted_checks l work a lent

        keyed : first (next_rows (head_of l) key) ≡ none
        keyed = askable_passes (head_of l) key s

        go : (found : Option (List ℕ)) → key_at (stored_keys l) i ≡ found
            → key_at_of l work counts i buffer ≡ next_key_of l work key after buffer
        go none e =
            no_key_at i e ∙ sym (leaves_none l work key after buffer checks keyed room (same ∙ e))
        go (some k) e =
            one_key_at i e ∙ sym (leaves_some l work key after buffer checks keyed room (same ∙ e))

    -- "the first stored key", 15 where there is none
    pub key_at_first : key_at_of l work counts 0 buffer ≡ next_key_of l work [] false buffer
    unfolding next_in
    key_at_first =
        as_next 0 [] false (record { short = omega arith; below = tt }) (at_first (stored_keys l))

    -- "moved on by .. steps of next key": one step
    pub key_at_next : (i : ℕ) {k : List ℕ} → key_heard (key_at_of l work counts i buffer) ≡ some k
        → key_at_of l work counts (suc i) buffer ≡ next_key_of l work k true buffer
    unfolding next_in
    key_at_next i {k} e =
        let at : key_at (stored_keys l) i ≡ some k = sym (heard_at i) ∙ e in
        as_next (suc i) k true (stored_askable l k (at_held (stored_keys l) i at))
        (at_next (stored_keys l) i (stored_ascending l) at)

    -- after a position without a key there is no key
    past : (i : ℕ) → key_at (stored_keys l) i ≡ none → key_at (stored_keys l) (suc i) ≡ none
    past i e = go (dec_lt i (length (stored_keys l)))
      where
        go : Dec (i < length (stored_keys l)) → key_at (stored_keys l) (suc i) ≡ none
        go (yes b) =
            let (k, f) = at_some (stored_keys l) i b in absurd (some-ne-none k (sym f ∙ e))
        go (no b) = at_none (stored_keys l) (suc i) (omega arith)

    -- "the first stored key moved on by i steps of next key"
    pub key_at_steps : (i : ℕ) → key_heard (key_at_of l work counts i buffer)
        ≡ steps_on l work buffer i
    unfolding steps_on step_on
    key_at_steps zero = ap key_heard key_at_first
    key_at_steps (suc i) = go (steps_on l work buffer i) refl (key_at_steps i)
      where
        go : (found : Option (List ℕ)) → steps_on l work buffer i ≡ found
            → key_heard (key_at_of l work counts i buffer) ≡ steps_on l work buffer i
            → key_heard (key_at_of l work counts (suc i) buffer) ≡ step_on l work buffer
            (steps_on l work buffer i)
        go none e before = heard_at (suc i) ∙ past i (sym (heard_at i) ∙ before ∙ e)
            ∙ sym (ap (step_on l work buffer) e)
        go (some k) e before =
            ap key_heard (key_at_next i (before ∙ e)) ∙ sym (ap (step_on l work buffer) e)

    pub key_at_done : (i : ℕ) → i < length (stored_keys l)
        → (key_at_of l work counts i buffer).numbers.number ≡ 0
    unfolding found_in done_numbers
    key_at_done i b = let (k, e) = at_some (stored_keys l) i b in
        ap (λ (o : Outcome). o.numbers.number) (one_key_at i e)

    -- "15 for a position past the end"
    pub key_at_15 : (i : ℕ) → ((key_at_of l work counts i buffer).numbers.number ≡ 15)
        ↔ (length (stored_keys l) ≤ i)
    unfolding refused_numbers
    key_at_15 i = (
      λ z. past_end z (dec_lt i (length (stored_keys l))),
      λ b. ap (λ (o : Outcome). o.numbers.number) (no_key_at i (at_none (stored_keys l) i b)),
    )
      where
        past_end : (key_at_of l work counts i buffer).numbers.number ≡ 15
            → Dec (i < length (stored_keys l)) → length (stored_keys l) ≤ i
        past_end z (yes b) = absurd (omega (arith, z, key_at_done i b))
        past_end z (no b) = omega arith

  -- ---- the position of a key

  module _ (given : Given) where
    abbrev key : List ℕ
    key = key_in l given

    -- where the check, 25, 9 and 10 pass, 15 decides
    position_at_15 : first (key_rows l given) ≡ none
        → first (position_order l work counts given) ≡ first (row15 (if_stored l key) ∷ [])
    unfolding position_order
    position_at_15 keyed =
        second_part (check_counts_order l work counts)
        (key_rows l given ++ (row15 (if_stored l key) ∷ []))
        (checks_counts l work counts a lent right)
        ∙ second_part (key_rows l given) (row15 (if_stored l key) ∷ []) keyed

    -- a key that passed 9 and 10 is stored where its value is not 0
    answers_stored : first (key_rows l given) ≡ none → answer (table_in l) key ≢ 0
        → Memᴰ key (stored_keys l)
    answers_stored keyed full =
        let fit = given_fit l given (accepted_opens a) keyed in
        let (low, high) =
        between_true (length key) (head_of l).min (head_of l).max fit.allowed in
        (stored_exactly l key).1 (low, high, full)

    held : Memᴰ key (stored_keys l) → if_stored l key ≡ some key
    unfolding if_stored
    held m = rw (ne_eqb (answer (table_in l) key) 0 ((stored_exactly l key).0 m).2)

    not_held : first (key_rows l given) ≡ none → ¬ Memᴰ key (stored_keys l) → if_stored l key
        ≡ none
    unfolding if_stored
    not_held keyed none_there = go (ℕ_discrete (answer (table_in l) key) 0)
      where
        go : Dec (answer (table_in l) key ≡ 0) → if_stored l key ≡ none
        go (yes z) = rw (eq-eqb (answer (table_in l) key) 0 z)
        go (no full) = absurd (none_there (answers_stored keyed full))

    at_key : first (key_rows l given) ≡ none → Memᴰ key (stored_keys l)
        → position_of l work counts given
        ≡ outcome (done_numbers 0 (pos 0) (rank_in (stored_keys l) key))
        (work_left l work counts ∷ [])
    unfolding position_of row15 is_none
    at_key keyed m =
        heard_done _ _ _
        (position_at_15 keyed ∙ ap (λ (o : Option (List ℕ)). first (row15 o ∷ [])) (held m)
        ∙ no_row 15 0 [] refl ∙ first_nil)

    -- the position of a stored key is how many come before it
    pub position_of_lem : {k : List ℕ} → meant_in l given ≡ some k → Memᴰ k (stored_keys l)
        → position_of l work counts given
        ≡ outcome (done_numbers 0 (pos 0) (rank_in (stored_keys l) k))
        (work_left l work counts ∷ [])
    unfolding key_rows key_in meant_in or_empty
    position_of_lem {k} e m =
        let same : k ≡ key = sym (ap or_empty e) in
        let keyed = fit_given (head_of l) (alphabet_in (head_of l) l) given e (stored_fit l k m) in
        rw same (at_key keyed (rw same at m))

    position_passed : (position_of l work counts given).numbers.number ≡ 0
        → (first (key_rows l given) ≡ none) × Memᴰ key (stored_keys l)
    unfolding position_of position_order key_rows row15 is_none if_stored among
    position_passed z =
        let last : List Row = row15 (if_stored l key) ∷ [] in
        let says : AllSay (15 ∷ []) last =
        given_says 15 0 (is_none (if_stored l key)) refl then end in
        let passes = none_heard _ _ (first_says (parts_say (counts_say l work counts)
        (parts_say (given_says_key (head_of l) (alphabet_in (head_of l) l) given) says))) refl z in
        let after25 =
        passed_parts (check_counts_order l work counts) (key_rows l given ++ last) passes in
        let after10 = passed_parts (key_rows l given) last after25.1 in
        let found = was_false 15 0 (is_none (if_stored l key))
        (passed_row (row15 (if_stored l key)) [] after10.1).0 in
        (after10.0, answers_stored after10.0 (full found))
      where
        full : is_none (if_stored l key) ≡ false → answer (table_in l) key ≢ 0
        full f z = let e : is_none (if_stored l key) ≡ true =
            rw (eq-eqb (answer (table_in l) key) 0 z) in true≢false (sym e ∙ f)

    -- "15 for .. a key not stored"
    pub position_15 : first (key_rows l given) ≡ none
        → ((position_of l work counts given).numbers.number ≡ 15) ↔ (¬ Memᴰ key (stored_keys l))
    unfolding position_of row15 is_none refused_numbers done_numbers
    position_15 keyed = (
      λ z m. omega (arith, z, ap (λ (o : Outcome). o.numbers.number) (at_key keyed m)),
      λ h.
          ap (λ (o : Outcome). o.numbers.number)
          (heard_refused _ _ _
          (position_at_15 keyed ∙ ap (λ (o : Option (List ℕ)). first (row15 o ∷ []))
          (not_held keyed h) ∙ yes_row 15 0 [] refl)),
    )

    -- ---- key at a position and position of a key undo each other

    module _ (buffer : List ℕ) (room : (head_of l).max ≤ length buffer) where
      pub key_then_position : (i : ℕ) {k : List ℕ} → key_heard (key_at_of l work counts i buffer)
          ≡ some k → meant_in l given ≡ some k
          → (position_of l work counts given).numbers ≡ done_numbers 0 (pos 0) i
      key_then_position i {k} e meant =
          let at : key_at (stored_keys l) i ≡ some k = sym (heard_at buffer room i) ∙ e in
          ap (λ (o : Outcome). o.numbers) (position_of_lem meant (at_held (stored_keys l) i at))
          ∙ ap (done_numbers 0 (pos 0)) (at_rank (stored_keys l) i (stored_ascending l) at)

      pub position_then_key : (position_of l work counts given).numbers.number ≡ 0
          → key_heard (key_at_of l work counts (position_of l work counts given).numbers.value
          buffer) ≡ some key
      unfolding done_numbers
      position_then_key z =
          let (keyed, m) = position_passed z in
          ap (λ (o : Outcome). key_heard (key_at_of l work counts o.numbers.value buffer))
          (at_key keyed m)
          ∙ heard_at buffer room (rank_in (stored_keys l) key)
          ∙ rank_at (stored_keys l) key (stored_ascending l) m
