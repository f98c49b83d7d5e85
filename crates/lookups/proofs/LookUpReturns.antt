-- The outcome of a lookup at each return of the code: one of 1 to 4 is given, the key is
-- refused, or the walk along its path answers. The laws serve a key given by letters and a key
-- given as text.
use Prim.Native.Nat.{ℕ}
use mathlib.Core.Path.{◌≡◌, refl, sym, ◌∙◌, ap}
use mathlib.Core.Option.{Option, none, some}
use mathlib.Core.List.{List, [], ◌∷◌, ◌++◌}
use Rattle.std.specs.Prelude.{Result, Ok, Err}
use Rattle.trie.specs.Table.{answer, fault}
use Rattle.head.specs.declared.Head.{Head}
use Rattle.head.specs.Fields.{head_of}
use Rattle.alphabet.specs.declared.codes.Codes.{Codes}
use Rattle.node.specs.Image.{table_of}
use Rattle.paper.specs.declared.Refusal.{Refusal}
use Rattle.paper.specs.Hearing.{Row, first, heard, outcome}
use Rattle.paper.specs.Answers.{refusal_numbers, value_of}
use Rattle.paper.specs.Rows.{bad_link, row6_at, row6path}
use Rattle.paper.specs.Given.{Given, key_in}
use Rattle.paper.specs.Orders.{opening_rows_of, key_rows, look_up_order}
use Rattle.paper.specs.Calls.{table_in, telling, look_up_of}
use Rattle.paper.specs.Promises.{LooksUp}
use Rattle.paper.proofs.Hearing.{first_part, second_part, first_some, first_none, first_nil}
use Rattle.paper.proofs.Hearing.{heard_refused, heard_done, told_refused, told_passed}
use Rattle.key.specs.declared.Key.{Key}
use Rattle.key.specs.Hand.{letters_of, Ready, Keyed}
use Rattle.opening.specs.Opened.{Opens}
use Rattle.walk.specs.Descent.{looked_by, looked_in}

module _ (l : List ℕ) (given : Given) where
  abbrev key : List ℕ
  key = key_in l given

  abbrev path : List Row
  path = row6path (head_of l) (table_of (head_of l) l) key ∷ []

  asked : look_up_of l given
      ≡ heard (first (opening_rows_of l ++ (key_rows l given ++ path))) []
      (telling (answer (table_in l) key))
  unfolding look_up_of look_up_order
  asked = refl

  module _ (opened : first (opening_rows_of l) ≡ none) (passed : first (key_rows l given) ≡ none)
    where
      path_left : first (opening_rows_of l ++ (key_rows l given ++ path)) ≡ first path
      path_left = second_part (opening_rows_of l) _ opened
          ∙ second_part (key_rows l given) _ passed

      by_fault : (at : Option ℕ)
          → fault (bad_link (head_of l).g) (table_of (head_of l) l) 0 key ≡ at
          → LooksUp l given (value_of (looked_by at (answer (table_of (head_of l) l) key)))
      unfolding looked_by value_of refusal_numbers row6path row6_at table_in
      by_fault none f =
          sym (asked ∙ heard_done _ _ _ (path_left ∙ first_none _ _ (ap row6_at f) ∙ first_nil))
      by_fault (some q) f =
          sym (asked ∙ heard_refused _ _ _ (path_left ∙ first_some _ _ (ap row6_at f)))

      found : {x : Result ℕ Refusal} → x ≡ looked_in (head_of l).g (table_of (head_of l) l) key
          → LooksUp l given (value_of x)
      unfolding looked_in
      found e = ap (λ (x : Result ℕ Refusal). outcome (value_of x) []) e ∙ by_fault _ refl

-- ---- the returns

module _ {l : List ℕ} {codes : Codes} where
  pub looks_up_unopened : {why : Refusal} (given : Given) → Opens l (Err why) codes
      → LooksUp l given (value_of (Err why))
  unfolding value_of refusal_numbers
  looks_up_unopened given o =
      sym (asked l given ∙ heard_refused _ _ _
      (first_part (opening_rows_of l) _ (told_refused {X = Head} o.verdict refl)))

  module _ {h : Head} (o : Opens l (Ok h) codes) where
    opened : first (opening_rows_of l) ≡ none
    opened = told_passed o.verdict refl

    module _ {given : Given} where
      pub looks_up_unkeyed : {why : Refusal} → Keyed l given (Err why)
          → LooksUp l given (value_of (Err why))
      unfolding value_of refusal_numbers
      looks_up_unkeyed j =
          sym (asked l given ∙ heard_refused _ _ _
          (second_part (opening_rows_of l) _ opened
          ∙ first_part (key_rows l given) _ (told_refused {X = Key} j.verdict refl)))

      module _ {hand : Key} (j : Keyed l given (Ok hand)) where
        -- what the walk requires
        pub look_asks : Ready h hand
        look_asks = rw o.head j.key.0

        pub looks_up_found : {x : Result ℕ Refusal}
            → x ≡ looked_in h.g (table_of h l) (letters_of hand) → LooksUp l given (value_of x)
        looks_up_found g =
            found l given opened (told_passed j.verdict refl) (rw (o.head, j.key.1) at g)
