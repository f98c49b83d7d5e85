-- The outcome of the comparison at each return of the code: what the check answers, or 25 if it
-- has passed. The fresh counts are the front of the working numbers. So comparing the two lists
-- gives row 25, and clearing the front leaves what the check left.
use Prim.Native.Nat.{ℕ, ◌+◌, ◌≤◌, ◌<◌}
use native.Mathlib.Omega.{arith}
use mathlib.Core.Path.{◌≡◌, refl, sym, ◌∙◌, ap}
use mathlib.Core.Bool.{Bool, not}
use mathlib.Core.Option.{none, some}
use mathlib.Core.List.{List, [], ◌∷◌, ◌++◌}
use lib.Dec.{eqb}
use lib.ListN.{length, get_or, take, drop, replicate, length-append, length-replicate}
use lib.Seq.{sets-eq, drop_at}
use Rattle.std.specs.Prelude.{Option, Some, None, Result, Ok, Err}
use Rattle.std.proofs.lemmas.List.{get_or-take, length-take-le}
use Rattle.std.proofs.lemmas.Result.{IfOk-at_ok}
use Rattle.head.specs.declared.Head.{Head}
use Rattle.head.specs.Fields.{head_of}
use Rattle.alphabet.specs.declared.codes.Codes.{Codes}
use Rattle.paper.specs.declared.Refusal.{Refusal}
use Rattle.paper.specs.Hearing.{Row, first}
use Rattle.paper.specs.Answers.{row_of}
use Rattle.paper.specs.Given.{alphabet_in}
use Rattle.paper.specs.Orders.{check_order}
use Rattle.paper.specs.Accepted.{Accepted}
use Rattle.paper.proofs.Hearing.{first_part, second_part, told_refused, told_passed}
use Rattle.paper.proofs.CheckCall.{check_accepts, checked}
use Rattle.position.specs.Counts.{count_in, counts_in, row25}
use Rattle.position.specs.Orders.{usable, counts_order, check_counts_order}
use Rattle.position.specs.Calls.{work_left, worked}
use Rattle.position.proofs.Plain.{both_lent, work_left_lem}
use Rattle.position.proofs.Right.{counts_length, worked_length, worked_right}
use Rattle.opening.specs.Opened.{Decoded}
use Rattle.tallying.specs.Tallied.{lowest_in}
use Rattle.tallying.proofs.Clearing.{cleared_rest, cleared_again}
use Rattle.tallying.proofs.LowestFound.{found_same}
use Rattle.tallying.proofs.LowestFound.{given_at, given_nowhere}
use Rattle.comparing.specs.Comparing.{CheckedBoth, Compared}

-- working the counts out keeps what comes after them
worked_drop : (l c : List ℕ) → (head_of l).g + 1 ≤ length c → drop ((head_of l).g + 1) (worked l c)
    ≡ drop ((head_of l).g + 1) c
unfolding worked
worked_drop l c b =
    let n = counts_length l in
    let k : 0 + length (counts_in l) ≡ (head_of l).g + 1 = omega arith in
    ap (drop ((head_of l).g + 1)) (sets-eq (counts_in l) c 0 (omega arith))
    ∙ drop_at (counts_in l) (drop (0 + length (counts_in l)) c) ((head_of l).g + 1) n
    ∙ ap (λ (m : ℕ). drop m c) k

-- an order of one row
last_row : (row : Row) → first (row ∷ []) ≡ row
unfolding first
last_row none = refl
last_row (some s) = refl

module _ (l work counts : List ℕ) {r : Result Head Refusal} {work₁ : List ℕ} {codes : Codes}
    (o : CheckedBoth l work (length counts) r work₁ codes) where
  told : row_of r ≡ first (counts_order l work counts)
  unfolding counts_order usable
  told = o.verdict

  left : work₁ ≡ work_left l work counts
  unfolding work_left usable
  left = o.numbers

  pub compared_refused : {why : Refusal} → r ≡ Err why
      → Compared l work counts (Err why) work₁ codes
  unfolding check_counts_order
  compared_refused e =
      let refused = told_refused told e in
      record {
        verdict =
            ap row_of (sym e) ∙ told ∙ refused
            ∙ sym (first_part (counts_order l work counts) (row25 l counts ∷ []) refused);
        numbers = left;
        head = tt;
        decoded = tt;
      }

  module _ {h : Head} (e : r ≡ Ok h) where
    passes : first (check_order l (usable work counts)) ≡ none
    unfolding counts_order
    passes = told_passed told e

    pub compared_accepted : Accepted l
    compared_accepted = check_accepts l (usable work counts) passes

    pub compared_head : h ≡ head_of l
    compared_head = IfOk-at_ok (λ (k : Head). k ≡ head_of l) e o.head

    -- both lists are long enough
    pub long_counts : h.g + 1 ≤ length counts
    long_counts =
        rw compared_head ((both_lent l work counts).0
        (checked l (usable work counts) passes).lent).1

    cleared : work₁ ≡ replicate (h.g + 1) 0 ++ drop (h.g + 1) work
    cleared = rw compared_head (left ∙ (work_left_lem l work counts passes).1)

    pub long_work : h.g + 1 ≤ length work₁
    long_work =
        omega (
          arith,
          ap length cleared,
          length-append (replicate {A = ℕ} (h.g + 1) 0) (drop (h.g + 1) work),
          length-replicate {A = ℕ} (h.g + 1) 0,
        )

    -- what the check left begins with zeros, so the counts can be added up there
    pub zeros_work : work₁ ≡ replicate (h.g + 1) 0 ++ drop (h.g + 1) work₁
    zeros_work = cleared_again (h.g + 1) work cleared

    -- the fresh counts are the front of the working numbers
    module _ {fresh : List ℕ} (weighed : fresh ≡ worked l work₁) where
      pub fresh_long : h.g + 1 ≤ length fresh
      fresh_long = omega (arith, ap length weighed, worked_length l work₁, long_work)

      fresh_count : (q : ℕ) → q < h.g + 1 → get_or fresh q 0 ≡ count_in l q
      fresh_count q b =
          ap (λ (w : List ℕ). get_or w q 0) weighed
          ∙ (worked_right l work₁ (rw (← compared_head) long_work)).each q
          (omega (arith, ap (λ (k : Head). k.g) compared_head))

      -- the numbers compared are those of the fronts of both lists
      abbrev pub differ : ℕ → ℕ → Bool
      differ nodes q =
          not (eqb (get_or (take nodes counts) q 0) (get_or (take nodes fresh) q 0))

      -- they differ where a count is not the fresh one
      abbrev wrong : ℕ → Bool
      wrong q = not (eqb (get_or counts q 0) (count_in l q))

      same_found : {nodes : ℕ} → nodes ≡ h.g + 1
          → lowest_in (differ nodes) 0 (length (take nodes counts))
          ≡ lowest_in wrong 0 ((head_of l).g + 1)
      same_found {nodes} n =
          let size : length (take nodes counts) ≡ (head_of l).g + 1 =
          length-take-le nodes counts (omega (arith, long_counts))
          ∙ n ∙ ap (λ (k : Head). k.g + 1) compared_head in
          rw size
          (found_same (differ nodes) wrong 0 ((head_of l).g + 1)
          (λ q low high.
          let in_front : q < nodes = omega (arith, ap (λ (k : Head). k.g) compared_head) in
          rw (get_or-take nodes counts q 0 in_front, get_or-take nodes fresh q 0 in_front)
          (rw (fresh_count q (omega arith)))))

      -- what clearing the front leaves
      left_again : {nodes : ℕ} {last : List ℕ} → nodes ≡ h.g + 1
          → last ≡ replicate nodes 0 ++ drop nodes fresh → last ≡ work_left l work counts
      left_again n clears =
          rw (n, compared_head) at clears
          ∙ ap (replicate ((head_of l).g + 1) 0 ++◌)
          (ap (drop ((head_of l).g + 1)) weighed
          ∙ worked_drop l work₁ (rw (← compared_head) long_work)
          ∙ cleared_rest ((head_of l).g + 1) work (rw compared_head at cleared))
          ∙ sym (work_left_lem l work counts passes).1

      ends : first (check_counts_order l work counts) ≡ row25 l counts
      unfolding check_counts_order counts_order
      ends =
          second_part (check_order l (usable work counts)) (row25 l counts ∷ []) passes
          ∙ last_row (row25 l counts)

      module _ {differs : Option ℕ} {nodes : ℕ} {last : List ℕ} (n : nodes ≡ h.g + 1)
          (f : differs ≡ lowest_in (differ nodes) 0 (length (take nodes counts)))
          (clears : last ≡ replicate nodes 0 ++ drop nodes fresh) where
        pub compared_25 : {q : ℕ} → differs ≡ Some q
            → Compared l work counts (Err (Refusal.CountsDiffer q)) last codes
        unfolding row_of row25
        compared_25 s =
            record {
              verdict =
                  sym (given_at 25 wrong 0 ((head_of l).g + 1) (sym s ∙ f ∙ same_found n))
                  ∙ sym ends;
              numbers = left_again n clears;
              head = tt;
              decoded = tt;
            }

        pub compared_none : differs ≡ None → Compared l work counts (Ok h) last codes
        unfolding row_of row25
        compared_none s =
            record {
              verdict =
                  sym (given_nowhere 25 wrong 0 ((head_of l).g + 1) (sym s ∙ f ∙ same_found n))
                  ∙ sym ends;
              numbers = left_again n clears;
              head = compared_head;
              decoded = IfOk-at_ok (λ _. Decoded (alphabet_in (head_of l) l) codes) e o.decoded;
            }
