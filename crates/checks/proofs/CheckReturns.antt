-- The outcome of the calls that begin with the check, at each return of the code. The audit's
-- verdict is the first of the check's rows that is given.
use Prim.Native.Nat.{ℕ}
use mathlib.Core.Path.{◌≡◌, refl, sym, ◌∙◌, ap}
use mathlib.Core.Bool.{Bool}
use mathlib.Core.Option.{none, some}
use mathlib.Core.List.{List, [], ◌∷◌}
use lib.ListN.{length}
use lib.IntN.{pos}
use Rattle.std.specs.Prelude.{Result, Ok, Err}
use Rattle.trie.specs.Keys.{listing}
use Rattle.head.specs.declared.Head.{Head}
use Rattle.alphabet.specs.declared.codes.Codes.{Codes}
use Rattle.node.specs.Image.{table_of}
use Rattle.paper.specs.declared.Refusal.{Refusal}
use Rattle.paper.specs.declared.Found.{Found}
use Rattle.paper.specs.Hearing.{Numbers, first, outcome, done_numbers}
use Rattle.paper.specs.Answers.{said_of, refusal_numbers, done_of, value_of, found_of}
use Rattle.paper.specs.Orders.{check_order, next_key_order}
use Rattle.paper.specs.Calls.{table_in, stored_keys, work_after, check_of, count_of, next_key_of}
use Rattle.paper.specs.Promises.{Checks, CountsKeys, Nexts}
use Rattle.paper.specs.Accepted.{Accepted}
use Rattle.paper.proofs.CheckCall.{check_accepts}
use Rattle.paper.proofs.Hearing.{first_part, heard_refused, heard_done, told_refused, told_passed}
use Rattle.audit.specs.Audit.{Checked}
use Rattle.seeking.specs.Seeking.{Seeks}

module _ {l work work' : List ℕ} {codes : Codes} where
  -- whatever the numbers of the answer, the working numbers are left as 01 says
  left : {r : Result Head Refusal} → Checked l work r work' codes → (n : Numbers)
      → outcome n (work' ∷ []) ≡ outcome n (work_after l work ∷ [])
  left o n = ap (λ (w : List ℕ). outcome n (w ∷ [])) o.numbers

  module _ {why : Refusal} (o : Checked l work (Err why) work' codes) where
    given_row : first (check_order l work) ≡ some (said_of why)
    given_row = told_refused {X = Head} o.verdict refl

    pub checks_refused : Checks l work (done_of (Err why)) work'
    unfolding check_of done_of refusal_numbers
    checks_refused = left o _ ∙ sym (heard_refused _ _ _ given_row)

    pub counts_refused : CountsKeys l work (value_of (Err why)) work'
    unfolding count_of value_of refusal_numbers
    counts_refused = left o _ ∙ sym (heard_refused _ _ _ given_row)

    -- for any request, and any buffer lent
    pub nexts_refused : (key : List ℕ) (after : Bool) (buffer : List ℕ)
        → Nexts l work key after buffer (found_of (Err why)) work' buffer
    unfolding next_key_of next_key_order found_of refusal_numbers
    nexts_refused key after buffer =
        rw o.numbers (sym (heard_refused _ _ _ (first_part (check_order l work) _ given_row)))

  module _ {h : Head} (o : Checked l work (Ok h) work' codes) where
    none_given : first (check_order l work) ≡ none
    none_given = told_passed o.verdict refl

    pub checked_accepts : Accepted l
    checked_accepts = check_accepts l work none_given

    pub checks_done : Checks l work (done_of (Ok tt)) work'
    unfolding check_of done_of
    checks_done = left o _ ∙ sym (heard_done _ _ _ none_given)

    pub counts_done : {n : ℕ} → n ≡ length (listing (table_of h l) h.n h.min h.max)
        → CountsKeys l work (value_of (Ok n)) work'
    unfolding count_of value_of stored_keys table_in
    counts_done c =
        left o _
        ∙ ap (λ (m : ℕ). outcome (done_numbers 0 (pos 0) m) (work_after l work ∷ []))
        (rw o.head at c)
        ∙ sym (heard_done _ _ _ none_given)

    -- for any request, and any buffer lent
    pub nexts_seek : (key : List ℕ) (after : Bool) (buffer : List ℕ) (f : Result Found Refusal)
        {buffer' : List ℕ} → Seeks l key after buffer f buffer'
        → Nexts l work key after buffer (found_of f) work' buffer'
    nexts_seek key after buffer f s = rw o.numbers (s work none_given)
