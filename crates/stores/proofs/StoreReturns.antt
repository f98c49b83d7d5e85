-- The outcome of a store at each return of the code: refused before 11, or the outcome of the
-- part after 10, without or with its writes. The laws serve a key given by letters and a key
-- given as text.
use Prim.Native.Nat.{ℕ}
use mathlib.Core.Path.{◌≡◌, refl, sym, ◌∙◌, ap}
use mathlib.Core.Bool.{Bool, true, false, cond}
use mathlib.Core.Option.{none, some}
use mathlib.Core.List.{List, [], ◌∷◌, ◌++◌, append_assoc}
use lib.Dec.{eqb}
use lib.ListN.{length}
use lib.Seq.{sets}
use lib.IntN.{ℤ}
use Rattle.std.specs.Prelude.{Result, Ok, Err}
use Rattle.trie.specs.Table.{answer}
use Rattle.trie.specs.Storing.{change_of}
use Rattle.node.specs.Writes.{Write, noted}
use Rattle.paper.specs.declared.Refusal.{Refusal}
use Rattle.paper.specs.declared.Noted.{Noted}
use Rattle.paper.specs.Hearing.{Row, Numbers, Outcome, first, heard, outcome, refused_numbers}
use Rattle.paper.specs.Hearing.{done_numbers}
use Rattle.paper.specs.Answers.{said_of, refusal_numbers, stored_of, noted_of}
use Rattle.paper.specs.Given.{Given, key_in}
use Rattle.paper.specs.Orders.{check_order, key_rows, new_of, store_order}
use Rattle.paper.specs.Calls.{table_in, work_after, writes_in, stored_image, store_of, with_writes}
use Rattle.paper.specs.Calls.{store_writes_of}
use Rattle.paper.specs.Promises.{Stores, StoresWrites}
use Rattle.paper.proofs.StoreCall.{valued}
use Rattle.paper.proofs.Unique.{refusal_said}
use Rattle.paper.proofs.Hearing.{first_part, second_part, heard_refused, told_refused, told_passed}
use Rattle.key.specs.Hand.{letters_of}
use Rattle.storing.specs.StoreStage.{store_at, StoresIn}
use Rattle.noting.specs.Noting.{NotesIn}
use Rattle.key.specs.declared.asked.Asked.{Asked}
use Rattle.asking.specs.Asked.{Asks}

-- ---- one buffer more

more : (row : Row) (n : Numbers) (l l' w : List ℕ)
    → heard row (l ∷ w ∷ []) (outcome n (l' ∷ w ∷ []))
    ≡ (let o = heard row (l ∷ []) (outcome n (l' ∷ [])) in
    outcome o.numbers (o.lent ++ (w ∷ [])))
unfolding heard
more none n l l' w = refl
more (some s) n l l' w = refl

-- the same with the list of writes after it
more_noted : (ws : List Write) (list : List ℕ) (row : Row) (n : Numbers) (l x w : List ℕ)
    {m : Numbers} {l' list' : List ℕ}
    → outcome m (l' ∷ list' ∷ []) ≡ with_writes ws list (heard row (l ∷ []) (outcome n (x ∷ [])))
    → outcome m (l' ∷ w ∷ list' ∷ []) ≡ with_writes ws list
    (heard row (l ∷ w ∷ []) (outcome n (x ∷ w ∷ [])))
unfolding with_writes heard
more_noted ws list row n l x w {m} {l'} {list'} e = by_row row e
  where
    by_test : (b : Bool) (y done : Numbers) (z laid : List ℕ)
        → outcome m (l' ∷ list' ∷ []) ≡ cond b (outcome done (z ∷ laid ∷ []))
        (outcome y (z ∷ list ∷ []))
        → outcome m (l' ∷ w ∷ list' ∷ []) ≡ cond b (outcome done (z ∷ w ∷ laid ∷ []))
        (outcome y (z ∷ w ∷ list ∷ []))
    by_test true y done z laid f =
        let numbers = ap (λ (o : Outcome). o.numbers) f in
        let lent = ap (λ (o : Outcome). o.lent) f in
        cc
    by_test false y done z laid f =
        let numbers = ap (λ (o : Outcome). o.numbers) f in
        let lent = ap (λ (o : Outcome). o.lent) f in
        cc

    by_row : (r : Row) → outcome m (l' ∷ list' ∷ []) ≡ with_writes ws list
        (heard r (l ∷ []) (outcome n (x ∷ [])))
        → outcome m (l' ∷ w ∷ list' ∷ []) ≡ with_writes ws list
        (heard r (l ∷ w ∷ []) (outcome n (x ∷ w ∷ [])))
    by_row none f = by_test (eqb n.number 0) n (done_numbers (length ws) n.change 0) x
        (sets list 0 (noted ws)) f
    by_row (some s) f =
        by_test (eqb s.number 0) (refused_numbers s)
        (done_numbers (length ws) (refused_numbers s).change 0) l (sets list 0 (noted ws)) f

-- ---- a store, by the outcome of the part before 11

module _ (l work : List ℕ) (given : Given) (value : ℕ) where
  abbrev key : List ℕ
  key = key_in l given

  abbrev done : Numbers
  done = done_numbers 0 (change_of (answer (table_in l) key) value) 0

  asked : store_of l work given value
      ≡ heard (first (check_order l work ++ (key_rows l given ++ valued l key value)))
      (l ∷ work_after l work ∷ [])
      (outcome done (stored_image l key value ∷ work_after l work ∷ []))
  unfolding store_of store_order
  asked = refl

  refuses : (why : Refusal) → first (check_order l work ++ key_rows l given) ≡ some (said_of why)
      → store_of l work given value ≡ outcome (refusal_numbers why) (l ∷ work_after l work ∷ [])
  unfolding refusal_numbers
  refuses why e =
      asked
      ∙ heard_refused _ _ _
      (ap first (sym (append_assoc (check_order l work) (key_rows l given) (valued l key value)))
      ∙ first_part (check_order l work ++ key_rows l given) _ e)

  module _ (passed : first (check_order l work ++ key_rows l given) ≡ none) where
    left : store_of l work given value
        ≡ heard (first (valued l key value)) (l ∷ work_after l work ∷ [])
        (outcome done (stored_image l key value ∷ work_after l work ∷ []))
    left =
        asked
        ∙ ap (λ (row : Row). heard row (l ∷ work_after l work ∷ [])
        (outcome done (stored_image l key value ∷ work_after l work ∷ [])))
        (ap first (sym (append_assoc (check_order l work) (key_rows l given) (valued l key value)))
        ∙ second_part (check_order l work ++ key_rows l given) _ passed)

    stored : (r : Result ℤ Refusal) {l' : List ℕ} → StoresIn l key value r l'
        → Stores l work given value
        (stored_of r) l' (work_after l work)
    unfolding store_at stored_image new_of table_in answer
    stored r e =
        ap (λ (o : Outcome). outcome o.numbers (o.lent ++ (work_after l work ∷ []))) e
        ∙ sym (left ∙ more (first (valued l key value)) done l (stored_image l key value)
        (work_after l work))

    listed_by : (list : List ℕ) (r : Result Noted Refusal) {l' list' : List ℕ}
        → NotesIn l key value list r l' list'
        → StoresWrites l work given value list (noted_of r) l' (work_after l work) list'
    unfolding store_writes_of store_at stored_image new_of table_in answer
    listed_by list r e =
        more_noted (writes_in l key value) list (first (valued l key value)) done l
        (stored_image l key value) (work_after l work) e
        ∙ ap (with_writes (writes_in l key value) list) (sym left)

-- ---- the returns

module _ {l : List ℕ} (work : List ℕ) {given : Given} {work' : List ℕ} (value : ℕ) where
  module _ {why : Refusal} (a : Asks l work given (Err why) work') where
    unasked : store_of l work given value ≡ outcome (refusal_numbers why) (l ∷ work' ∷ [])
    unasked =
        rw a.numbers (refuses l work given value why (told_refused {X = Asked} a.verdict refl))

    pub stores_refused : Stores l work given value (stored_of (Err why)) l work'
    unfolding stored_of
    stores_refused = sym unasked

    pub stores_writes_refused : (list : List ℕ) → StoresWrites l work given value list
        (noted_of (Err why)) l work' list
    unfolding store_writes_of noted_of with_writes refusal_numbers refused_numbers
    stores_writes_refused list = rw (unasked, refusal_said why)

  module _ {r : Asked} (a : Asks l work given (Ok r) work') where
    none_asked : first (check_order l work ++ key_rows l given) ≡ none
    none_asked = told_passed a.verdict refl

    pub stores_passed : (s : Result ℤ Refusal) {l' : List ℕ}
        → StoresIn l (letters_of r.key) value s l'
        → Stores l work given value (stored_of s) l' work'
    stores_passed s g =
        rw a.numbers (stored l work given value none_asked s (rw a.allowed.letters at g))

    pub stores_writes_passed : (list : List ℕ) (s : Result Noted Refusal) {l' list' : List ℕ}
        → NotesIn l (letters_of r.key) value list s l' list'
        → StoresWrites l work given value list (noted_of s) l' work' list'
    stores_writes_passed list s g =
        rw a.numbers (listed_by l work given value none_asked list s (rw a.allowed.letters at g))
