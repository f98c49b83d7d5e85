-- The outcome of a store with counts at each return of the code: refused before 11, or the
-- outcome of the part after 10. The laws serve a key given by letters and a key given as text.
use Prim.Native.Nat.{ℕ}
use mathlib.Core.Path.{◌≡◌, refl, sym, ◌∙◌, ap}
use mathlib.Core.Option.{none, some}
use mathlib.Core.List.{List, [], ◌∷◌, ◌++◌, append_assoc}
use lib.IntN.{ℤ}
use Rattle.std.specs.Prelude.{Result, Ok, Err}
use Rattle.trie.specs.Table.{answer}
use Rattle.trie.specs.Storing.{change_of}
use Rattle.paper.specs.declared.Refusal.{Refusal}
use Rattle.paper.specs.Hearing.{Row, Numbers, Outcome, first, heard, outcome, done_numbers}
use Rattle.paper.specs.Answers.{said_of, refusal_numbers, stored_of}
use Rattle.paper.specs.Given.{Given, key_in}
use Rattle.paper.specs.Orders.{key_rows}
use Rattle.paper.specs.Calls.{table_in, stored_image}
use Rattle.paper.proofs.Hearing.{first_part, second_part, heard_refused, told_refused, told_passed}
use Rattle.position.specs.Orders.{check_counts_order, store_counts_order}
use Rattle.position.specs.Calls.{work_left, worked, store_counts_of}
use Rattle.position.specs.Promises.{StoresCounts}
use Rattle.key.specs.Hand.{letters_of}
use Rattle.key.specs.declared.asked.Asked.{Asked}
use Rattle.asking_counts.specs.AskedCounts.{AsksCounts}
use Rattle.tracking.specs.Tracking.{adding_counts_rows, store_counted, StoresCounted}

-- ---- one buffer more, between the two

between_them : (w : List ℕ) {m n : Numbers} {x y i j : List ℕ} → outcome m (x ∷ y ∷ [])
    ≡ outcome n (i ∷ j ∷ [])
    → outcome m (x ∷ w ∷ y ∷ []) ≡ outcome n (i ∷ w ∷ j ∷ [])
between_them w e =
    let numbers = ap (λ (o : Outcome). o.numbers) e in
    let lent = ap (λ (o : Outcome). o.lent) e in
    cc

more : (w : List ℕ) (row : Row) (n : Numbers) (l c l' c' : List ℕ) {m : Numbers} {x y : List ℕ}
    → outcome m (x ∷ y ∷ []) ≡ heard row (l ∷ c ∷ []) (outcome n (l' ∷ c' ∷ []))
    → outcome m (x ∷ w ∷ y ∷ []) ≡ heard row (l ∷ w ∷ c ∷ []) (outcome n (l' ∷ w ∷ c' ∷ []))
unfolding heard
more w none n l c l' c' e = between_them w e
more w (some s) n l c l' c' e = between_them w e

-- ---- a store with counts, by the outcome of the part before 11

module _ (l work : List ℕ) (given : Given) (value : ℕ) (counts : List ℕ) where
  abbrev key : List ℕ
  key = key_in l given

  abbrev left : List ℕ
  left = work_left l work counts

  abbrev front : List Row
  front = check_counts_order l work counts ++ key_rows l given

  abbrev rest : List Row
  rest = adding_counts_rows l key value counts

  abbrev image : List ℕ
  image = stored_image l key value

  abbrev done : Numbers
  done = done_numbers 0 (change_of (answer (table_in l) key) value) 0

  abbrev stored : Outcome
  stored = outcome done (image ∷ left ∷ worked image counts ∷ [])

  asked : store_counts_of l work given value counts ≡ heard (first (front ++ rest))
      (l ∷ left ∷ counts ∷ []) stored
  unfolding store_counts_of store_counts_order
  asked =
      ap (λ (rows : List Row). heard (first rows) (l ∷ left ∷ counts ∷ []) stored)
      (sym (append_assoc (check_counts_order l work counts) (key_rows l given) rest))

  refuses : (why : Refusal) → first front ≡ some (said_of why)
      → store_counts_of l work given value counts ≡ outcome (refusal_numbers why)
      (l ∷ left ∷ counts ∷ [])
  unfolding refusal_numbers
  refuses why e = asked ∙ heard_refused _ _ _ (first_part front rest e)

  stores : first front ≡ none → (r : Result ℤ Refusal) {l' counts' : List ℕ}
      → StoresCounted l key value counts r l' counts'
      → StoresCounts l work given value counts (stored_of r) l' left counts'
  unfolding store_counted
  stores passed r e =
      more left (first rest) done l counts image (worked image counts) e
      ∙ sym (asked ∙ ap (λ (row : Row). heard row (l ∷ left ∷ counts ∷ []) stored)
      (second_part front rest passed))

-- ---- the returns

module _ {l : List ℕ} (work counts : List ℕ) {given : Given} {work' : List ℕ} where
  pub store_counts_refused : {why : Refusal} → AsksCounts l work counts given (Err why) work'
      → (value : ℕ) → StoresCounts l work given value counts (stored_of (Err why)) l work' counts
  unfolding stored_of
  store_counts_refused {why} a value =
      rw a.numbers (sym (refuses l work given value counts why
      (told_refused {X = Asked} a.verdict refl)))

  module _ {r : Asked} (a : AsksCounts l work counts given (Ok r) work') where
    pub store_counts_passed : (value : ℕ) (s : Result ℤ Refusal) {l' counts' : List ℕ}
        → StoresCounted l (letters_of r.key) value counts s l' counts'
        → StoresCounts l work given value counts (stored_of s) l' work' counts'
    store_counts_passed value s g =
        rw a.numbers (stores l work given value counts (told_passed a.verdict refl) s
        (rw a.allowed.letters at g))
