-- The comparison of the counts is the part before the key, so the laws of `asking` apply. If all
-- of it has passed, the counts are right and the key's length is allowed.
use Prim.Native.Nat.{ℕ}
use mathlib.Core.Path.{◌≡◌, refl}
use mathlib.Core.Bool.{true}
use mathlib.Core.Option.{none}
use mathlib.Core.List.{List}
use lib.ListN.{length}
use Rattle.std.specs.Prelude.{Result, Ok, Err, IfOk}
use Rattle.std.proofs.lemmas.Result.{IfOk-at_ok}
use Rattle.field.specs.Range.{between}
use Rattle.head.specs.declared.Head.{Head}
use Rattle.alphabet.specs.declared.codes.Codes.{Codes}
use Rattle.paper.specs.declared.Refusal.{Refusal}
use Rattle.paper.specs.Hearing.{first}
use Rattle.paper.specs.Given.{Given, key_in}
use Rattle.paper.specs.Orders.{key_rows}
use Rattle.paper.specs.Accepted.{Accepted}
use Rattle.paper.proofs.Hearing.{passed_parts, told_passed}
use Rattle.paper.proofs.CheckCall.{accepted_opens}
use Rattle.paper.proofs.LookUpCall.{given_fit}
use Rattle.position.specs.Counts.{RightCounts}
use Rattle.position.specs.Orders.{check_counts_order}
use Rattle.position.specs.Calls.{work_left}
use Rattle.position.proofs.Plain.{counts_checked}
use Rattle.position.proofs.Right.{none_25}
use Rattle.key.specs.Hand.{letters_of}
use Rattle.comparing.specs.Comparing.{Compared}
use Rattle.key.specs.declared.asked.Asked.{Asked}
use Rattle.asking.specs.Asked.{Admitted}
use Rattle.asking.proofs.Asking.{Fronted}
use Rattle.asking_counts.specs.AskedCounts.{AsksCounts}

-- the comparison promises what the part before the key has to promise
pub compared_front : {l work counts : List ℕ} {r : Result Head Refusal} {work' : List ℕ}
    {codes : Codes} → Compared l work counts r work' codes
    → Fronted (check_counts_order l work counts) (work_left l work counts) l r work' codes
compared_front {l} {work} {counts} {r} {work'} {codes} o =
    record {
      verdict = o.verdict;
      numbers = o.numbers;
      accepted = by_case r o;
      head = o.head;
      decoded = o.decoded;
    }
  where
    by_case : (v : Result Head Refusal) → Compared l work counts v work' codes
        → IfOk v (λ _. Accepted l)
    by_case (Ok h) p = (counts_checked l work counts (told_passed p.verdict refl)).accepted
    by_case (Err why) p = tt

-- the counts that have been compared are right
pub compared_right : (l work counts : List ℕ) → first (check_counts_order l work counts) ≡ none
    → RightCounts l counts
compared_right l work counts e = let c = counts_checked l work counts e in
    record { long = c.listed; each = (none_25 l counts).0 c.same }

module _ {l : List ℕ} (work counts : List ℕ) {given : Given} {r : Result Asked Refusal}
    {work' : List ℕ} (p : AsksCounts l work counts given r work') {a : Asked} (e : r ≡ Ok a) where
  parts : (first (check_counts_order l work counts) ≡ none) × (first (key_rows l given) ≡ none)
  parts =
      passed_parts (check_counts_order l work counts) (key_rows l given) (told_passed p.verdict e)

  pub asked_compared : first (check_counts_order l work counts) ≡ none
  asked_compared = parts.0

  pub asked_keyed : first (key_rows l given) ≡ none
  asked_keyed = parts.1

  pub asked_right : RightCounts l counts
  asked_right = compared_right l work counts asked_compared

  -- the length of the key in hand is allowed
  pub asked_length : between (length (letters_of a.key)) a.head.min a.head.max ≡ true
  asked_length =
      let b : Admitted l (key_in l given) a = IfOk-at_ok _ e p.allowed in
      rw (b.letters, b.head)
      (given_fit l given (accepted_opens b.accepted) asked_keyed).allowed
