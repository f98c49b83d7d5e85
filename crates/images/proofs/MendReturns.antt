-- The outcome of mend at each way out: the check passed, it answered another number than 8, or
-- it answered 8 and the trial passed or was refused.
use Prim.Native.Nat.{ℕ, ◌+◌, ◌-◌, ◌^◌, ◌≤◌, ◌<◌}
use mathlib.Core.Path.{◌≡◌, refl, sym, ◌∙◌, ap}
use mathlib.Core.Bool.{false}
use mathlib.Core.Logic.{◌≢◌}
use mathlib.Core.List.{List}
use native.Mathlib.Omega.{arith}
use borrow.Author.Tests.{ne_eqb}
use lib.ListN.{length}
use Rattle.std.specs.Prelude.{Result, Ok, Err}
use Rattle.std.specs.Result.{result_or}
use Rattle.head.specs.declared.Head.{Head}
use Rattle.head.specs.Fields.{total_at, total_len, put_total}
use Rattle.alphabet.specs.declared.codes.Codes.{Codes}
use Rattle.paper.specs.declared.Refusal.{Refusal}
use Rattle.paper.specs.Hearing.{Numbers, Outcome, refused_numbers, done_numbers}
use Rattle.paper.specs.Answers.{said_of, refusal_numbers, done_of}
use Rattle.paper.specs.Calls.{work_after, check_of, can_mend}
use Rattle.paper.specs.Promises.{Mends}
use Rattle.paper.proofs.Hearing.{heard_refused, heard_done, told_refused, told_passed}
use Rattle.paper.proofs.MendCall.{mend_kept, mend_lowered, eight, eight_long, trial_mends}
use Rattle.paper.proofs.MendCall.{trial_work, trial_keeps}
use Rattle.paper.proofs.Unique.{told_done}
use Rattle.audit.specs.Audit.{Checked}
use Rattle.mending.specs.Trial.{Lowers}

-- a refusal is recovered from its numbers: 8 is the number of one variant alone
pub is_not_linked : (w : Refusal) → (said_of w).number ≡ 8 → w
    ≡ Refusal.NotLinked (said_of w).place
unfolding done_of refusal_numbers refused_numbers
is_not_linked w k =
    let other : Refusal = Refusal.NotLinked (said_of w).place in
    let e : done_of (Err w) ≡ done_of (Err other) =
    ap (λ (n : ℕ). refused_numbers (record { number = n; place = (said_of w).place })) k in
    let f =
    sym (told_done.inverse (Err w)) ∙ ap told_done.back e ∙ told_done.inverse (Err other) in
    cc

-- an image whose check answers another number than 8 is not mended
other_number : (l : List ℕ) (m : Numbers) → m.number ≢ 8 → can_mend l m ≡ false
unfolding can_mend
other_number l m d = rw (ne_eqb m.number 8 d)

module _ {l work : List ℕ} {r : Result Head Refusal} {work' : List ℕ} {codes : Codes}
    (o : Checked l work r work' codes) where
  -- "otherwise nothing changes and the check's answer is returned"
  keeps : {m : Numbers} → (check_of l work).numbers ≡ m → can_mend l m ≡ false
      → Mends l work m l work'
  keeps e f =
      rw (o.numbers, ← e)
      (sym (mend_kept l work (ap (can_mend l) e ∙ f)))

-- the check passed
pub mends_passed : {l work : List ℕ} {h : Head} {work' : List ℕ} {codes : Codes}
    → Checked l work (Ok h) work' codes → Mends l work (done_of (Ok tt)) l work'
unfolding done_of done_numbers check_of
mends_passed {l} o =
    keeps o (ap (λ (x : Outcome). x.numbers) (heard_done _ _ _ (told_passed o.verdict refl)))
    (other_number l _ (λ z. omega arith))

-- it refused
module _ {l work : List ℕ} {why : Refusal} {work' : List ℕ} {codes : Codes}
    (o : Checked l work (Err why) work' codes) where
  check_refused : (check_of l work).numbers ≡ refusal_numbers why
  unfolding check_of refusal_numbers
  check_refused =
      ap (λ (x : Outcome). x.numbers) (heard_refused _ _ _ (told_refused o.verdict refl))

  pub mends_other : (said_of why).number ≢ 8 → Mends l work (done_of (Err why)) l work'
  unfolding done_of refusal_numbers refused_numbers
  mends_other d = keeps o check_refused (other_number l (refusal_numbers why) d)

-- it answered 8 at p
module _ {l work : List ℕ} {p : ℕ} {work' : List ℕ} {codes : Codes}
    (o : Checked l work (Err (Refusal.NotLinked p)) work' codes) where
  is_eight : (check_of l work).numbers.number ≡ 8
  unfolding refusal_numbers refused_numbers
  is_eight = ap (λ (m : Numbers). m.number) (check_refused o)

  same_place : (check_of l work).numbers.place ≡ p
  unfolding refusal_numbers refused_numbers
  same_place = ap (λ (m : Numbers). m.place) (check_refused o)

  pub lower_asks : (1 ≤ p) × (total_at + total_len ≤ length l)
  lower_asks = (rw same_place at (eight l work is_eight).least, eight_long l work is_eight)

  module _ (fits : p < 2 ^ 32) {r : Result (Unit {0}) Refusal} {l'' work'' : List ℕ}
      (t : Lowers l work' p r l'' work'') where
    narrow : (check_of l work).numbers.place - 1 < 2 ^ 32
    narrow = omega (arith, same_place)

    -- the trial leaves the working numbers as the check did
    left : work'' ≡ work_after l work
    left = t.numbers ∙ rw (o.numbers, ← same_place) (trial_work l work is_eight narrow)

    mends_lowered : r ≡ Ok tt → l'' ≡ put_total l (p - 1)
        → Mends l work (done_of (Ok tt)) l'' work''
    unfolding done_of
    mends_lowered f lowered =
        let passed = rw (← same_place) at (told_passed t.verdict f) in
        rw (left, lowered, ← same_place)
        (sym (mend_lowered l work (trial_mends l work is_eight work' passed)))

    mends_kept : {worse : Refusal} → r ≡ Err worse → l'' ≡ l
        → Mends l work (done_of (Err (Refusal.NotLinked p))) l'' work''
    unfolding done_of
    mends_kept f kept =
        let refused = rw (o.numbers, ← same_place) at (told_refused t.verdict f) in
        rw (left, kept, ← check_refused o)
        (sym (mend_kept l work (trial_keeps l work is_eight narrow refused)))

  -- the answer is the trial's if it passed, else the check's
  pub mends_tried : p < 2 ^ 32 → (r : Result (Unit {0}) Refusal) {l'' work'' : List ℕ}
      → Lowers l work' p r l'' work''
      → {answer : Result (Unit {0}) Refusal} → answer ≡ result_or r (Err (Refusal.NotLinked p))
      → Mends l work (done_of answer) l'' work''
  mends_tried fits (Ok x) t e = rw e (mends_lowered fits t refl t.lowered)
  mends_tried fits (Err worse) t e = rw e (mends_kept fits t refl t.kept)
