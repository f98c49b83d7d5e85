-- The key's part at each return of the code: a row before the key is given, or the key is judged.
-- The laws hold for any rows before the key: the check's rows, or these and 25. The check promises
-- what they need of the part before the key (`checked_front`).
use Prim.Native.Nat.{ℕ}
use mathlib.Core.Path.{◌≡◌, refl, sym, ◌∙◌}
use mathlib.Core.Bool.{true}
use mathlib.Core.List.{List, ◌++◌}
use Rattle.std.specs.Prelude.{Result, Ok, Err, IfOk}
use Rattle.std.proofs.lemmas.Result.{IfOk-at_ok}
use Rattle.head.specs.declared.Head.{Head}
use Rattle.head.specs.Fields.{head_of, permitted}
use Rattle.alphabet.specs.declared.codes.Codes.{Codes}
use Rattle.paper.specs.declared.Refusal.{Refusal}
use Rattle.paper.specs.Hearing.{Row, first}
use Rattle.paper.specs.Answers.{row_of}
use Rattle.paper.specs.Given.{Given, alphabet_in, key_in}
use Rattle.paper.specs.Orders.{check_order, key_rows}
use Rattle.paper.specs.Calls.{work_after}
use Rattle.paper.specs.Accepted.{Accepted}
use Rattle.paper.proofs.Hearing.{first_part, second_part, told_refused, told_passed}
use Rattle.paper.proofs.CheckCall.{check_accepts, accepted_opens}
use Rattle.key.specs.declared.Key.{Key}
use Rattle.key.specs.Hand.{Keyed, Ready}
use Rattle.opening.specs.Opened.{Opens, Decoded}
use Rattle.audit.specs.Audit.{Checked}
use Rattle.key.specs.declared.asked.Asked.{Asked}
use Rattle.asking.specs.Asked.{AsksAfter, Admitted}

-- what the part before the key promises, whatever its rows are
pub record Fronted (rows : List Row) (left l : List ℕ) (r : Result Head Refusal) (work' : List ℕ)
    (codes : Codes) : Type 0 where
  pub verdict : row_of r ≡ first rows
  pub numbers : work' ≡ left
  pub accepted : IfOk r (λ _. Accepted l)
  pub head : IfOk r (λ h. h ≡ head_of l)
  pub decoded : IfOk r (λ _. Decoded (alphabet_in (head_of l) l) codes)

-- the check promises it
pub checked_front : {l work : List ℕ} {r : Result Head Refusal} {work' : List ℕ} {codes : Codes}
    → Checked l work r work' codes
    → Fronted (check_order l work) (work_after l work) l r work' codes
checked_front {l} {work} {r} {work'} {codes} o =
    record {
      verdict = o.verdict;
      numbers = o.numbers;
      accepted = by_case r o;
      head = o.head;
      decoded = o.decoded;
    }
  where
    by_case : (v : Result Head Refusal) → Checked l work v work' codes → IfOk v (λ _. Accepted l)
    by_case (Ok h) p = check_accepts l work (told_passed p.verdict refl)
    by_case (Err why) p = tt

-- ---- the key's part at each return of the code, after any rows

module _ {rows : List Row} {left l work' : List ℕ} {codes : Codes} where
  -- a row before the key is given
  pub before_refused : {why : Refusal} {given : Given} → Fronted rows left l (Err why) work' codes
      → AsksAfter rows left l given (Err why) work'
  unfolding row_of
  before_refused {given = given} o =
      record {
        verdict =
            sym (first_part rows (key_rows l given) (told_refused {X = Head} o.verdict refl));
        numbers = o.numbers;
        allowed = tt;
      }

  module _ {h : Head} (o : Fronted rows left l (Ok h) work' codes) where
    -- none is given: the image has been opened, as the key's judge wants it
    pub front_opens : Opens l (Ok h) codes
    unfolding row_of
    front_opens =
        record {
          verdict = sym (accepted_opens o.accepted);
          head = o.head;
          decoded = o.decoded;
        }

    pub front_permitted : permitted h ≡ true
    front_permitted = rw o.head o.accepted.head_permitted

    keyed_rows : {given : Given} {v : Result Key Refusal} → Keyed l given v
        → row_of v ≡ first (rows ++ key_rows l given)
    keyed_rows {given} j =
        j.verdict ∙ sym (second_part rows (key_rows l given) (told_passed o.verdict refl))

    -- the key is refused
    pub key_refused : {why : Refusal} {given : Given} → Keyed l given (Err why)
        → AsksAfter rows left l given (Err why) work'
    unfolding row_of
    key_refused j = record { verdict = keyed_rows j; numbers = o.numbers; allowed = tt }

    -- the key passes
    pub key_ready : {k : Key} {given : Given} → Keyed l given (Ok k) → Ready h k
    key_ready j = rw o.head j.key.0

    pub key_passed : {k : Key} {given : Given} → Keyed l given (Ok k) → {ready : Ready h k}
        → AsksAfter rows left l given (Ok (record { head = h; key = k; ready = ready })) work'
    unfolding row_of
    key_passed j {ready} =
        record {
          verdict = keyed_rows j;
          numbers = o.numbers;
          allowed =
              record { accepted = o.accepted; head = o.head; ready = ready; letters = j.key.1 };
        }

-- what a store requires
pub store_asks : {rows : List Row} {left l : List ℕ} {given : Given} {r : Result Asked Refusal}
    {work' : List ℕ} {a : Asked} → AsksAfter rows left l given r work' → r ≡ Ok a
    → Accepted l × ((a.head ≡ head_of l) × Ready a.head a.key)
store_asks {l = l} {given = given} p e =
    let b : Admitted l (key_in l given) _ = IfOk-at_ok _ e p.allowed in
    (b.accepted, (b.head, b.ready))
