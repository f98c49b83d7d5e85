-- The outcome of working the counts out and of checking them, at each return of the code. The
-- verdict is the first row of the call's order that is given. If none is, the counts worked out
-- are the front of the list.
use Prim.Native.Nat.{ℕ, ◌+◌, ◌≤◌}
use mathlib.Core.Path.{◌≡◌, refl, sym, ◌∙◌, ap, ap₂}
use mathlib.Core.Option.{none}
use mathlib.Core.List.{List, [], ◌∷◌}
use lib.ListN.{length}
use Rattle.std.specs.Prelude.{Result, Ok, Err}
use Rattle.std.proofs.lemmas.Result.{IfOk-at_ok}
use Rattle.head.specs.declared.Head.{Head}
use Rattle.alphabet.specs.declared.codes.Codes.{Codes}
use Rattle.head.specs.Fields.{head_of}
use Rattle.paper.specs.declared.Refusal.{Refusal}
use Rattle.paper.specs.Hearing.{Numbers, first, outcome}
use Rattle.paper.specs.Answers.{row_of, refusal_numbers, done_of}
use Rattle.paper.specs.Accepted.{Accepted}
use Rattle.paper.specs.Orders.{check_order}
use Rattle.paper.proofs.CheckCall.{check_accepts, checked}
use Rattle.paper.proofs.Hearing.{heard_refused, heard_done, told_refused, told_passed}
use Rattle.position.specs.Orders.{usable, counts_order}
use Rattle.position.specs.Calls.{work_left, worked, counts_of, check_counts_of}
use Rattle.position.specs.Promises.{WorksOut, ChecksCounts}
use Rattle.comparing.specs.Comparing.{CheckedBoth, Compared}
use Rattle.position.proofs.Plain.{both_lent}

module _ (l work counts : List ℕ) {r : Result Head Refusal} {work' : List ℕ} {codes : Codes}
    (o : CheckedBoth l work (length counts) r work' codes) where
  told : row_of r ≡ first (counts_order l work counts)
  unfolding counts_order usable
  told = o.verdict

  -- whatever the numbers of the answer and the list, the working numbers are left as 01 says,
  -- with 5 for either list
  left : (n : Numbers) {list c : List ℕ} → list ≡ c → outcome n (work' ∷ list ∷ [])
      ≡ outcome n (work_left l work counts ∷ c ∷ [])
  unfolding work_left usable
  left n e = ap₂ (λ (w c : List ℕ). outcome n (w ∷ c ∷ [])) o.numbers e

  pub counts_refused : {why : Refusal} → r ≡ Err why
      → WorksOut l work counts (done_of (Err why)) work' counts
  unfolding counts_of done_of refusal_numbers
  counts_refused e = left _ refl ∙ sym (heard_refused _ _ _ (told_refused told e))

  module _ {h : Head} (e : r ≡ Ok h) where
    passes : first (check_order l (usable work counts)) ≡ none
    unfolding counts_order
    passes = told_passed told e

    -- what `weigh` requires
    pub weigh_asks : Accepted l × ((h ≡ head_of l) × (h.g + 1 ≤ length counts))
    weigh_asks =
        let same : h ≡ head_of l = IfOk-at_ok _ e o.head in (
          check_accepts l (usable work counts) passes,
          (
            same,
            rw same ((both_lent l work counts).0 (checked l (usable work counts) passes).lent).1,
          ),
        )

    pub counts_done : {list : List ℕ} → list ≡ worked l counts
        → WorksOut l work counts (done_of (Ok tt)) work' list
    unfolding counts_of done_of
    counts_done w = left _ w ∙ sym (heard_done _ _ _ (told_passed told e))

module _ {l work counts : List ℕ} {r : Result Head Refusal} {work' : List ℕ} {codes : Codes}
    (o : Compared l work counts r work' codes) where
  left_too : (n : Numbers) → outcome n (work' ∷ []) ≡ outcome n (work_left l work counts ∷ [])
  left_too n = ap (λ (w : List ℕ). outcome n (w ∷ [])) o.numbers

  pub check_counts_refused : {why : Refusal} → r ≡ Err why
      → ChecksCounts l work counts (done_of (Err why)) work'
  unfolding check_counts_of done_of refusal_numbers
  check_counts_refused e = left_too _ ∙ sym (heard_refused _ _ _ (told_refused o.verdict e))

  pub check_counts_done : {h : Head} → r ≡ Ok h
      → ChecksCounts l work counts (done_of (Ok tt)) work'
  unfolding check_counts_of done_of
  check_counts_done e = left_too _ ∙ sym (heard_done _ _ _ (told_passed o.verdict e))
