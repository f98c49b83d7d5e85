-- 02, Ask 7: "A store changes counts only on the key's path and at the new nodes; the result
-- equals the counts worked out afresh." The part of a store with counts after 10: it answers and
-- leaves in image and counts what the whole call does.
use Rattle.std.specs.Prelude.{ℕ, zero, suc, ◌+◌, ◌^◌, ◌≤◌, ◌<◌, ◌≡◌, true, cond, List, [], ◌∷◌}
use Rattle.std.specs.Prelude.{◌++◌, ℤ, pos, negsuc, length, get_or, Result}
use Rattle.trie.specs.Table.{Table, complete, descend, answer}
use Rattle.trie.specs.Storing.{change_of}
use Rattle.head.specs.Fields.{head_of}
use Rattle.passing.specs.Passing.{passes}
use Rattle.paper.specs.declared.Refusal.{Refusal}
use Rattle.paper.specs.Hearing.{Row, Outcome, outcome, done_numbers, first, heard}
use Rattle.paper.specs.Answers.{stored_of}
use Rattle.paper.specs.Orders.{adding_rows, new_of}
use Rattle.paper.specs.Calls.{table_in, stored_image}
use Rattle.position.specs.Counts.{row5again}
use Rattle.position.specs.Calls.{worked}

-- 11, 12, 13, then 5 again
abbrev pub adding_counts_rows : List ℕ → List ℕ → ℕ → List ℕ → List Row
adding_counts_rows l key value counts =
    adding_rows (head_of l) value (new_of (head_of l) l key value) (length l)
    ++ (row5again (head_of l) (new_of (head_of l) l key value) (length counts) ∷ [])

-- the outcome of this part
unfoldable pub store_counted : List ℕ → List ℕ → ℕ → List ℕ → Outcome
unfolding heard first adding_rows new_of row5again done_numbers change_of answer table_in
    stored_image
    worked
store_counted l key value counts =
    heard (first (adding_counts_rows l key value counts)) (l ∷ counts ∷ [])
    (outcome (done_numbers 0 (change_of (answer (table_in l) key) value) 0)
    (stored_image l key value ∷ worked (stored_image l key value) counts ∷ []))

-- what this part promises
abbrev pub StoresCounted : List ℕ → List ℕ → ℕ → List ℕ → Result ℤ Refusal → List ℕ → List ℕ
    → Type 0
StoresCounted l key value counts r l' counts' =
    outcome (stored_of r) (l' ∷ counts' ∷ []) ≡ store_counted l key value counts

-- ---- the parts of it

-- the key has a node of its own
abbrev pub Whole : Table → List ℕ → Type 0
Whole t k = (r : ℕ) × (descend t 0 k ≡ complete r)

-- what the change in the number of stored keys adds to a count on the key's path
unfoldable pub gain_of : ℤ → ℕ
gain_of (pos zero) = 0
gain_of (pos (suc zero)) = 1
gain_of (pos (suc (suc n))) = 0
gain_of (negsuc n) = 0

-- and what it takes from it
unfoldable pub loss_of : ℤ → ℕ
loss_of (pos n) = 0
loss_of (negsuc zero) = 1
loss_of (negsuc (suc n)) = 0

-- the counts on a key's path stay within 32 bits when the gain is added and the loss is taken
pub record CountsFit (t : Table) (k : List ℕ) (gain loss : ℕ) (list : List ℕ) : Type 0 where
  pub over : (q : ℕ) → passes t q 0 k ≡ true → get_or list q 0 + gain < 2 ^ 32
  pub under : (q : ℕ) → passes t q 0 k ≡ true → loss ≤ get_or list q 0 + gain

-- the list after that; the other numbers keep what they held
pub record Shifted (t : Table) (k : List ℕ) (gain loss : ℕ) (list list' : List ℕ) : Type 0 where
  pub long : length list' ≡ length list
  pub each : (q : ℕ)
      → get_or list' q 0 + cond (passes t q 0 k) loss 0
      ≡ get_or list q 0 + cond (passes t q 0 k) gain 0

-- the numbers from `from` to `to` - 1 are 0; the other numbers keep what they held
pub record RangeCleared (from to : ℕ) (list list' : List ℕ) : Type 0 where
  pub long : length list' ≡ length list
  pub within : (q : ℕ) → from ≤ q → q < to → get_or list' q 0 ≡ 0
  pub before : (q : ℕ) → q < from → get_or list' q 0 ≡ get_or list q 0
  pub after : (q : ℕ) → to ≤ q → get_or list' q 0 ≡ get_or list q 0
