-- Mending (02, Ask 1) by the check's answer: what it answers and leaves in either case, what is
-- known where the check answers 8, and why the working numbers are enough for the trial, the
-- check of the image with the lower G.
use Prim.Native.Nat.{ℕ, zero, suc, ◌+◌, ◌-◌, ◌^◌, ◌≤◌, ◌<◌}
use mathlib.Core.Path.{◌≡◌, refl, sym, ◌∙◌, ap}
use mathlib.Core.Bool.{Bool, true, false, ◌&&◌, and-false}
use mathlib.Core.Logic.{◌↔◌}
use mathlib.Core.Option.{none, some, some-ne-none}
use mathlib.Core.List.{List, [], ◌∷◌, ◌++◌}
use native.Mathlib.Omega.{arith}
use lib.Dec.{ltb, eqb}
use lib.IntN.{pos}
use lib.ListN.{length, drop, replicate, length-append, length-drop, length-replicate}
use borrow.Author.Tests.{eqb-true, eq-eqb, ltb-false}
use Rattle.field.proofs.Range.{between_true}
use Rattle.trie.specs.Table.{Table}
use Rattle.head.specs.declared.Head.{Head}
use Rattle.head.specs.Fields.{shortest_image, longest_image, head_of, put_total, total_at}
use Rattle.head.specs.Fields.{total_len}
use Rattle.head.proofs.Fields.{head_total}
use Rattle.alphabet.specs.Letters.{among}
use Rattle.node.specs.Image.{table_of}
use Rattle.paper.specs.Hearing.{Said, Row, Outcome, outcome, first, heard, refused_numbers}
use Rattle.paper.specs.Hearing.{done_numbers}
use Rattle.paper.specs.Rows.{row5}
use Rattle.paper.specs.Given.{alphabet_in}
use Rattle.paper.specs.Orders.{opening_rows_of, node_rows, check_order}
use Rattle.paper.specs.Calls.{cleared_by, work_after, check_of, is_accepted, can_mend, mend_by}
use Rattle.paper.specs.Calls.{mend_of}
use Rattle.paper.specs.Accepted.{Accepted}
use Rattle.paper.proofs.Hearing.{was_false}
use Rattle.paper.proofs.Numbers.{given_says, pass_row, pass_part}
use Rattle.paper.proofs.Opening.{passed, opening_says}
use Rattle.paper.proofs.Linking.{eight_place}
use Rattle.paper.proofs.CheckCall.{check_accepts, accepted_checks, check_exactly}
use Rattle.paper.proofs.CheckCall.{work_cleared}

-- an image is accepted by the check's answer exactly where it is `Accepted`
pub accepted_exactly : (l : List ℕ) → (is_accepted l ≡ true) ↔ Accepted l
unfolding is_accepted
accepted_exactly l =
    let enough : List ℕ = replicate ((head_of l).g + 1) 0 in
    let e = check_exactly l enough (omega (arith, length-replicate {A = ℕ} ((head_of l).g + 1) 0))
    in
    (λ t. e.0 (eqb-true _ 0 t), λ a. eq-eqb _ 0 (e.1 a))

module _ (l work : List ℕ) where
  -- done or refused, the check leaves the working numbers as 01 says
  pub check_lent : (check_of l work).lent ≡ work_after l work ∷ []
  unfolding check_of heard
  check_lent = go (first (check_order l work))
    where
      go : (r : Row) → (heard r (work_after l work ∷ [])
          (outcome (done_numbers 0 (pos 0) 0) (work_after l work ∷ []))).lent
          ≡ work_after l work ∷ []
      go none = refl
      go (some s) = refl

  pub mend_kept : can_mend l (check_of l work).numbers ≡ false → mend_of l work
      ≡ outcome (check_of l work).numbers (l ∷ work_after l work ∷ [])
  unfolding mend_of mend_by
  mend_kept e =
      rw e (ap (λ (ls : List (List ℕ)). outcome (check_of l work).numbers (l ∷ ls)) check_lent)

  pub mend_lowered : can_mend l (check_of l work).numbers ≡ true
      → mend_of l work ≡ outcome (done_numbers 0 (pos 0) 0)
      (put_total l ((check_of l work).numbers.place - 1) ∷ work_after l work ∷ [])
  unfolding mend_of mend_by
  mend_lowered e =
      rw e
      (ap (λ (ls : List (List ℕ)). outcome (done_numbers 0 (pos 0) 0)
      (put_total l ((check_of l work).numbers.place - 1) ∷ ls)) check_lent)

-- ---- what is known where the check answers 8

module _ (l work : List ℕ) where
  abbrev place : ℕ
  place = (check_of l work).numbers.place

  pub record Eight : Type 0 where
    pub opened : first (opening_rows_of l) ≡ none
    pub lent : (head_of l).g + 1 ≤ length work
    pub least : 1 ≤ place
    pub most : place ≤ (head_of l).g

  -- the row that was given
  heard_eight : (check_of l work).numbers.number ≡ 8 → first (check_order l work)
      ≡ some (record { number = 8; place = place })
  unfolding check_of heard refused_numbers done_numbers
  heard_eight e = go (first (check_order l work)) refl e
    where
      done : Outcome
      done = outcome (done_numbers 0 (pos 0) 0) (work_after l work ∷ [])

      go : (r : Row) → first (check_order l work) ≡ r
          → (heard r (work_after l work ∷ []) done).numbers.number ≡ 8
          → r ≡ some (record {
            number = 8;
            place = (heard r (work_after l work ∷ []) done).numbers.place;
          })
      go none f z = absurd (omega arith)
      go (some s) f z = ap (λ (n : ℕ). some (record { number = n; place = s.place })) z

  pub eight : (check_of l work).numbers.number ≡ 8 → Eight
  unfolding check_order opening_rows_of row5 among
  eight e =
      let h : Head = head_of l in
      let t : Table = table_of h l in
      let after4 = pass_part (row5 h (length work) ∷ node_rows h t) 8
      (opening_says h (alphabet_in h l) (length l)) refl refl (heard_eight e) in
      let after5 =
      pass_row (node_rows h t) 8
      (given_says {numbers = 5 ∷ []} 5 0 (ltb (length work) (h.g + 1)) refl) refl refl
      after4.1 in
      let b = eight_place h t after5.1 refl in
      record {
        opened = after4.0;
        lent = ltb-false (length work) (h.g + 1) (was_false 5 0 _ after5.0);
        least = b.0;
        most = b.1;
      }

-- an accepted image is never mended: 8 is given only after 5 has passed, and with enough working
-- numbers the check answers 0
pub not_mended : {l : List ℕ} → Accepted l → (work : List ℕ) → can_mend l (check_of l work).numbers
    ≡ false
unfolding can_mend
not_mended {l} a work = go (eqb (check_of l work).numbers.number 8) refl
  where
    go : (b : Bool) → eqb (check_of l work).numbers.number 8 ≡ b
        → (eqb (check_of l work).numbers.number 8 && is_accepted
        (put_total l ((check_of l work).numbers.place - 1))) ≡ false
    go false e = rw e
    go true e =
        let at8 = eqb-true (check_of l work).numbers.number 8 e in
        let at0 = (check_exactly l work (eight l work at8).lent).1 a in
        absurd (omega arith)

-- ---- the trial

-- numbers whose first m are 0 stay as they are where at most m of them are cleared
zeros_kept : (n m : ℕ) (rest : List ℕ) → n ≤ m → replicate n 0 ++ drop n (replicate m 0 ++ rest)
    ≡ replicate m 0 ++ rest
zeros_kept zero m rest b = refl
zeros_kept (suc n) zero rest b = absurd (omega arith)
zeros_kept (suc n) (suc m) rest b = ap (λ (r : List ℕ). 0 ∷ r) (zeros_kept n m rest (omega arith))

cleared_kept : (row : Row) (n m : ℕ) (rest : List ℕ) → n ≤ m
    → cleared_by row n (replicate m 0 ++ rest) ≡ replicate m 0 ++ rest
unfolding cleared_by
cleared_kept none n m rest b = zeros_kept n m rest b
cleared_kept (some s) n m rest b = refl

module _ (l work : List ℕ) (e : (check_of l work).numbers.number ≡ 8) where
  abbrev lower : ℕ
  lower = place l work - 1

  -- 8 is given only after 1 has passed
  pub eight_long : total_at + total_len ≤ length l
  unfolding opening_rows_of
  eight_long =
      let p = passed (head_of l) (alphabet_in (head_of l) l) (length l) (eight l work e).opened in
      omega (arith, (between_true (length l) shortest_image longest_image p.allowed).0)

  eight_work : work_after l work ≡ replicate ((head_of l).g + 1) 0 ++ drop ((head_of l).g + 1) work
  eight_work = let g = eight l work e in work_cleared l work g.opened g.lent

  -- where the trial passes, the image with the lower G is accepted
  pub trial_mends : (w : List ℕ) → first (check_order (put_total l lower) w) ≡ none
      → can_mend l (check_of l work).numbers ≡ true
  unfolding can_mend
  trial_mends w f =
      rw (
        eq-eqb _ 8 e,
        (accepted_exactly (put_total l lower)).1
            (check_accepts (put_total l lower) w f),
      )

  module _ (narrow : lower < 2 ^ 32) where
    trial_total : (head_of (put_total l lower)).g ≡ lower
    trial_total = ap (λ (h : Head). h.g) (head_total l lower eight_long narrow)

    -- the trial leaves the working numbers as the check left them
    pub trial_work : work_after (put_total l lower) (work_after l work) ≡ work_after l work
    unfolding work_after
    trial_work =
        let g = eight l work e in
        rw eight_work
        (cleared_kept (first (opening_rows_of (put_total l lower)
        ++ (row5 (head_of (put_total l lower)) _ ∷ []))) ((head_of (put_total l lower)).g + 1)
        ((head_of l).g + 1)
        (drop ((head_of l).g + 1) work)
        (omega (arith, trial_total, g.least, g.most)))

    -- and these are enough for it
    trial_lent : (head_of (put_total l lower)).g + 1 ≤ length (work_after l work)
    trial_lent =
        let g = eight l work e in
        let n : length (replicate {A = ℕ} ((head_of l).g + 1) 0 ++ drop ((head_of l).g + 1) work)
        ≡ length work =
        simp (length-append, length-replicate, length-drop) (omega (arith, g.lent)) in
        omega (arith, trial_total, g.least, g.most, g.lent, ap length eight_work ∙ n)

    -- so where the trial is refused, the image with the lower G is not accepted
    pub trial_keeps : {s : Said} → first (check_order (put_total l lower) (work_after l work))
        ≡ some s → can_mend l (check_of l work).numbers ≡ false
    unfolding can_mend
    trial_keeps {s} f = go (is_accepted (put_total l lower)) refl
      where
        go : (b : Bool) → is_accepted (put_total l lower) ≡ b
            → (eqb (check_of l work).numbers.number 8 && is_accepted (put_total l lower)) ≡ false
        go false g = rw g (and-false (eqb (check_of l work).numbers.number 8))
        go true g =
            let a = (accepted_exactly (put_total l lower)).0 g in
            absurd (some-ne-none s
            (sym f ∙ accepted_checks (put_total l lower) (work_after l work) a trial_lent))
