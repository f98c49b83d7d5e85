-- 02, Ask 7, of a store with counts on an accepted image: the reasons to refuse it, as statements
-- in the words of the ask and of 01's table. The theorem (`store_counts_number_exactly`): such a
-- store answers the number of the first reason that applies, and 0 where none does.
use Rattle.std.specs.Prelude.{ℕ, ◌+◌, ◌≤◌, ◌<◌, ◌≢◌, ◌⊎◌, List, [], ◌∷◌, ◌++◌, length, get_or}
use Rattle.head.specs.Fields.{head_of}
use Rattle.paper.specs.Given.{Given, key_in}
use Rattle.paper.specs.Orders.{new_of}
use Rattle.reasons.specs.Reasons.{Reason, ◌when◌, key_reasons, value_reasons}
use Rattle.position.specs.Counts.{count_in}

-- the list holds another number for node q than its count
abbrev pub DifferentAt : List ℕ → List ℕ → ℕ → Type 0
DifferentAt l counts q = (q ≤ (head_of l).g) × (get_or counts q 0 ≢ count_in l q)

-- 25: "counts differ"; its place is `LowestOf` this, "the lowest such node"
abbrev pub DifferentCounts : List ℕ → List ℕ → Type 0
DifferentCounts l counts = (q : ℕ) × DifferentAt l counts q

-- the list has no number for one of k new nodes: "5 again, after 13, if the list is shorter than
-- G+k+1"
unfoldable pub list_reasons : List ℕ → ℕ → List ℕ → List Reason
list_reasons l k counts = 5 when (length counts < (head_of l).g + k + 1) ∷ []

-- "5, in its old place, also if the list is shorter than G+1"; 25 "after all the check's answers
-- and before 9 and 10"; then 9 to 13 as for a store, and "5 again, after 13"
unfoldable pub store_counts_reasons : List ℕ → List ℕ → Given → ℕ → List ℕ → List Reason
unfolding key_reasons value_reasons list_reasons
store_counts_reasons l work given value counts =
    5 when ((length work < (head_of l).g + 1) ⊎ (length counts < (head_of l).g + 1))
    ∷ 25 when DifferentCounts l counts
    ∷ (key_reasons l given
    ++ (value_reasons l value (new_of (head_of l) l (key_in l given) value)
    ++ list_reasons l (new_of (head_of l) l (key_in l given) value) counts))
