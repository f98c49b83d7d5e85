-- 01, "What the bench may hear": a row of the table is given or not, by itself; "The first that
-- applies is given, in this order"; "A refused call changes nothing in the image or in any other
-- lent buffer but the working numbers"; "A place not named is 0"; "Numbers in a refused answer
-- other than number and place are 0".
use Rattle.std.specs.Prelude.{ℕ, Bool, cond, List, [], ◌∷◌, ℤ, pos}
use Rattle.std.proofs.Math.Option.{Option, none, some}

-- the number and the place of a refusal
pub record Said : Type 0 where
  pub number : ℕ
  pub place : ℕ

-- a row of 01's table: its number and place where it is given, else none
abbrev pub Row : Type 0
Row = Option Said

-- "Given exactly when" its test is true: the row with this number and place
unfoldable pub row_when : ℕ → ℕ → Bool → Row
row_when number place test = cond test (some (record { number = number; place = place })) none

-- "The first that applies is given": the first row of an order that is given, else none
unfoldable pub first : List Row → Row
first [] = none
first (none ∷ rows) = first rows
first (some s ∷ rows) = some s

-- the numbers of an answer, the same five for every call
pub record Numbers : Type 0 where
  pub number : ℕ
  pub place : ℕ
  -- the length of the key found, or how many writes are noted
  pub length : ℕ
  -- the change in the number of stored keys
  pub change : ℤ
  -- the value; for number of keys that number, for position of a key the position
  pub value : ℕ

-- "Numbers in a refused answer other than number and place are 0."
unfoldable pub refused_numbers : Said → Numbers
refused_numbers s =
    record { number = s.number; place = s.place; length = 0; change = pos 0; value = 0 }

-- a call that is done: the number is 0, "A place not named is 0"
unfoldable pub done_numbers : ℕ → ℤ → ℕ → Numbers
done_numbers length change value =
    record { number = 0; place = 0; length = length; change = change; value = value }

-- what a call leaves: the numbers of its answer, and the last content of every buffer that it
-- may write, in the sequence of its parameters
pub record Outcome : Type 0 where
  pub numbers : Numbers
  pub lent : List (List ℕ)

-- the outcome with these numbers and this content
abbrev pub outcome : Numbers → List (List ℕ) → Outcome
outcome n ls = record { numbers = n; lent = ls }

-- the outcome of a call: where a row is given, the refusal, with the content that a refusal
-- leaves; else what is done
unfoldable pub heard : Row → List (List ℕ) → Outcome → Outcome
unfolding refused_numbers
heard none kept done = done
heard (some s) kept done = outcome (refused_numbers s) kept
