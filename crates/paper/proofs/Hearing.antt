-- Laws on rows, orders and outcomes, for every call: a row that is given ends its order, one
-- that is not given is passed over, orders are joined, and where an order passed, the test of
-- each of its rows is false. Each is by cases on the row.
use Prim.Native.Nat.{ℕ}
use mathlib.Core.Path.{◌≡◌, refl, sym, ◌∙◌, ap}
use mathlib.Core.Bool.{Bool, true, false, not}
use mathlib.Core.Logic.{◌≢◌}
use mathlib.Core.Option.{none, some}
use mathlib.Core.List.{List, [], ◌∷◌, ◌++◌}
use native.Mathlib.Omega.{arith}
use Rattle.std.specs.Prelude.{Result, Ok, Err}
use Rattle.paper.specs.declared.Refusal.{Refusal}
use Rattle.paper.specs.Answers.{said_of, row_of}
use Rattle.paper.specs.Hearing.{Said, Row, Outcome, row_when, first, heard, outcome}
use Rattle.paper.specs.Hearing.{refused_numbers}

-- ---- one row

-- where a row negates a rule, its test is false if the rule holds
pub untrue : {b : Bool} → b ≡ true → not b ≡ false
untrue e = rw e

pub unfalse : {b : Bool} → b ≡ false → not b ≡ true
unfalse e = rw e

pub is_given : (number place : ℕ) {test : Bool} → test ≡ true → row_when number place test
    ≡ some (record { number = number; place = place })
unfolding row_when
is_given number place e = rw e

pub not_given : (number place : ℕ) {test : Bool} → test ≡ false → row_when number place test ≡ none
unfolding row_when
not_given number place e = rw e

-- the test of a row that is not given is false
pub was_false : (number place : ℕ) (test : Bool) → row_when number place test ≡ none → test ≡ false
unfolding row_when
was_false number place true e = let z : ◌≡◌ {A = ℕ} 0 1 = cc in absurd (omega arith)
was_false number place false e = refl

-- ---- an order

pub first_nil : first [] ≡ none
unfolding first
first_nil = refl

pub first_some : (r : Row) {s : Said} (rows : List Row) → r ≡ some s → first (r ∷ rows) ≡ some s
unfolding first
first_some r rows e = rw e

pub first_none : (r : Row) (rows : List Row) → r ≡ none → first (r ∷ rows) ≡ first rows
unfolding first
first_none r rows e = rw e

-- a row that is given decides its order, whatever follows
pub yes_row : (number place : ℕ) {test : Bool} (rows : List Row) → test ≡ true
    → first (row_when number place test ∷ rows) ≡ some (record { number = number; place = place })
yes_row number place rows e = first_some _ rows (is_given number place e)

-- a row that is not given is passed over
pub no_row : (number place : ℕ) {test : Bool} (rows : List Row) → test ≡ false
    → first (row_when number place test ∷ rows) ≡ first rows
no_row number place rows e = first_none _ rows (not_given number place e)

-- in a joined order the first part decides if it gives a row
pub first_part : (xs ys : List Row) {s : Said} → first xs ≡ some s → first (xs ++ ys) ≡ some s
unfolding first
first_part [] ys e = let z : ◌≡◌ {A = ℕ} 0 1 = cc in absurd (omega arith)
first_part (none ∷ xs) ys e = first_part xs ys e
first_part (some t ∷ xs) ys e = e

-- else the second part decides
pub second_part : (xs ys : List Row) → first xs ≡ none → first (xs ++ ys) ≡ first ys
unfolding first
second_part [] ys e = refl
second_part (none ∷ xs) ys e = second_part xs ys e
second_part (some t ∷ xs) ys e = let z : ◌≡◌ {A = ℕ} 0 1 = cc in absurd (omega arith)

-- an order that passed: none of its rows is given
pub passed_row : (r : Row) (rows : List Row) → first (r ∷ rows) ≡ none
    → (r ≡ none) × (first rows ≡ none)
unfolding first
passed_row none rows e = (refl, e)
passed_row (some s) rows e = let z : ◌≡◌ {A = ℕ} 0 1 = cc in absurd (omega arith)

pub passed_parts : (xs ys : List Row) → first (xs ++ ys) ≡ none → (first xs ≡ none)
    × (first ys ≡ none)
unfolding first
passed_parts [] ys e = (refl, e)
passed_parts (none ∷ xs) ys e = passed_parts xs ys e
passed_parts (some t ∷ xs) ys e = let z : ◌≡◌ {A = ℕ} 0 1 = cc in absurd (omega arith)

-- a part that gives no row can be left off the end
pub silent_end : (xs ys : List Row) → first ys ≡ none → first (xs ++ ys) ≡ first xs
silent_end xs ys e = go (first xs) refl
  where
    go : (r : Row) → first xs ≡ r → first (xs ++ ys) ≡ first xs
    go none f = second_part xs ys f ∙ e ∙ sym f
    go (some t) f = first_part xs ys f ∙ sym f

-- ---- a verdict: the row that its part of an order gives

pub told_refused : {X : Type 0} {v : Result X Refusal} {row : Row} {why : Refusal}
    → row_of v ≡ row → v ≡ Err why → row ≡ some (said_of why)
unfolding row_of
told_refused told e = sym told ∙ ap row_of e

pub told_passed : {X : Type 0} {v : Result X Refusal} {row : Row} {x : X} → row_of v ≡ row
    → v ≡ Ok x → row ≡ none
unfolding row_of
told_passed told e = sym told ∙ ap row_of e

-- ---- an outcome

pub heard_refused : (r : Row) {s : Said} (kept : List (List ℕ)) (done : Outcome) → r ≡ some s
    → heard r kept done ≡ outcome (refused_numbers s) kept
unfolding heard
heard_refused r kept done e = rw e

pub heard_done : (r : Row) (kept : List (List ℕ)) (done : Outcome) → r ≡ none → heard r kept done
    ≡ done
unfolding heard
heard_done r kept done e = rw e

-- what is done matters only where no row is given
pub heard_alike : (r : Row) (kept : List (List ℕ)) {x y : Outcome} → (r ≡ none → x ≡ y)
    → heard r kept x ≡ heard r kept y
unfolding heard
heard_alike none kept e = e refl
heard_alike (some t) kept e = refl

-- an answer whose number is not 0 is a refusal, and leaves what a refusal leaves
pub kept_lent : (r : Row) (kept : List (List ℕ)) (done : Outcome) → done.numbers.number ≡ 0
    → (heard r kept done).numbers.number ≢ 0
    → (heard r kept done).lent ≡ kept
unfolding heard
kept_lent none kept done e z = absurd (z e)
kept_lent (some s) kept done e z = refl
