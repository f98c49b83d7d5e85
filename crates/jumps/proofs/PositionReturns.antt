-- The outcome of a key's position at each return of the code: refused before 15, not stored, or
-- the number of stored keys before the key. The laws serve a key given by letters and a key
-- given as text.
use Prim.Native.Nat.{ℕ}
use mathlib.Core.Path.{◌≡◌, refl, sym, ◌∙◌, ap}
use mathlib.Core.Bool.{Bool, true, false, cond}
use mathlib.Core.Option.{none, some}
use mathlib.Core.List.{List, [], ◌∷◌, ◌++◌, append_assoc}
use lib.Dec.{eqb}
use lib.IntN.{pos}
use Rattle.std.specs.Prelude.{Result, Ok, Err, Option as Maybe, Some, None}
use Rattle.std.specs.Option.{ok_or}
use Rattle.trie.specs.Table.{answer}
use Rattle.passing.specs.Passing.{rank_in}
use Rattle.paper.specs.declared.Refusal.{Refusal}
use Rattle.paper.specs.Hearing.{Row, Outcome, first, heard, outcome, done_numbers}
use Rattle.paper.specs.Answers.{said_of, refusal_numbers, value_of}
use Rattle.paper.specs.Rows.{row15, is_none}
use Rattle.paper.specs.Given.{Given, key_in}
use Rattle.paper.specs.Orders.{key_rows}
use Rattle.paper.specs.Calls.{table_in, stored_keys}
use Rattle.paper.proofs.Hearing.{first_part, second_part, yes_row, no_row, first_nil}
use Rattle.paper.proofs.Hearing.{heard_refused, heard_done, told_refused, told_passed}
use Rattle.position.specs.Orders.{check_counts_order, if_stored, position_order}
use Rattle.position.specs.Calls.{work_left, position_of}
use Rattle.position.specs.Promises.{GivesPosition}
use Rattle.key.specs.Hand.{letters_of}
use Rattle.key.specs.declared.asked.Asked.{Asked}
use Rattle.asking_counts.specs.AskedCounts.{AsksCounts}
use Rattle.ranking.specs.Ranking.{ranked_of}
use Rattle.jumps.specs.Jumps.{ranks_as}

-- ---- what the way by counts answered

pub ranks_told : (l key : List ℕ) {r : Maybe ℕ} → r ≡ ranked_of l key
    → ok_or r Refusal.NoKey ≡ ranks_as l key
unfolding ranked_of ranks_as
ranks_told l key e = rw e (go (eqb (answer (table_in l) key) 0))
  where
    at : ℕ
    at = rank_in (stored_keys l) key

    go : (b : Bool) → ok_or (cond b None (Some at)) Refusal.NoKey
        ≡ cond b (Err Refusal.NoKey) (Ok at)
    go true = refl
    go false = refl

-- ---- over the rows

module _ (l work counts : List ℕ) (given : Given) where
  abbrev key : List ℕ
  key = key_in l given

  abbrev last : List Row
  last = row15 (if_stored l key) ∷ []

  abbrev order : List Row
  order = check_counts_order l work counts ++ (key_rows l given ++ last)

  abbrev done : Outcome
  done = outcome (done_numbers 0 (pos 0) (rank_in (stored_keys l) key))
      (work_left l work counts ∷ [])

  asked : position_of l work counts given ≡ heard (first order) (work_left l work counts ∷ []) done
  unfolding position_of position_order
  asked = refl

  abbrev Leaves : Result ℕ Refusal → Type 0
  Leaves p = GivesPosition l work counts given (value_of p) (work_left l work counts)

  -- before 15, and then 15
  joined : first order ≡ first ((check_counts_order l work counts ++ key_rows l given) ++ last)
  joined = ap first (sym (append_assoc (check_counts_order l work counts) (key_rows l given) last))

  refuses : (why : Refusal) → first (check_counts_order l work counts ++ key_rows l given)
      ≡ some (said_of why) → Leaves (Err why)
  unfolding value_of refusal_numbers
  refuses why e =
      sym (asked ∙ heard_refused _ _ _
      (joined ∙ first_part (check_counts_order l work counts ++ key_rows l given) last e))

  module _ (passed : first (check_counts_order l work counts ++ key_rows l given) ≡ none) where
    left : first order ≡ first last
    left = joined ∙ second_part (check_counts_order l work counts ++ key_rows l given) last passed

    placed : Leaves (ranks_as l key)
    unfolding ranks_as value_of refusal_numbers row15 is_none if_stored
    placed = go (eqb (answer (table_in l) key) 0) refl
      where
        go : (b : Bool) → eqb (answer (table_in l) key) 0 ≡ b
            → Leaves (cond b (Err Refusal.NoKey) (Ok (rank_in (stored_keys l) key)))
        go true e =
            let missing : is_none (if_stored l key) ≡ true = rw e in
            sym (asked ∙ heard_refused _ _ _ (left ∙ yes_row 15 0 [] missing))
        go false e =
            let stored : is_none (if_stored l key) ≡ false = rw e in
            sym (asked ∙ heard_done _ _ _ (left ∙ no_row 15 0 [] stored ∙ first_nil))

-- ---- the returns

module _ {l : List ℕ} (work counts : List ℕ) {given : Given} {work' : List ℕ} where
  pub gives_position_refused : {why : Refusal} → AsksCounts l work counts given (Err why) work'
      → GivesPosition l work counts given (value_of (Err why)) work'
  gives_position_refused {why} o =
      rw o.numbers (refuses l work counts given why (told_refused o.verdict refl))

  pub gives_position_placed : {a : Asked} {p : Result ℕ Refusal}
      → AsksCounts l work counts given (Ok a) work' → p ≡ ranks_as l (letters_of a.key)
      → GivesPosition l work counts given (value_of p) work'
  gives_position_placed {a} o told =
      let same : ranks_as l (letters_of a.key) ≡ ranks_as l (key_in l given) =
      ap (ranks_as l) o.allowed.letters in
      rw o.numbers
      (ap (λ (p : Result ℕ Refusal). outcome (value_of p) (work_left l work counts ∷ []))
      (told ∙ same)
      ∙ placed l work counts given (told_passed o.verdict refl))
