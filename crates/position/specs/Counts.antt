-- 02, Ask 7: "Keep beside the image a lent list of counts, one for each node: how many stored
-- keys lie at or under it." The counts of an image, and the rows on a list that differs or is
-- too short.
use Rattle.std.specs.Prelude.{ℕ, ◌+◌, ◌≤◌, ◌≡◌, not, List, ltb, eqb, length, get_or}
use Rattle.head.specs.declared.Head.{Head}
use Rattle.head.specs.Fields.{head_of}
use Rattle.passing.specs.Passing.{count_at, one_for_each}
use Rattle.paper.specs.Hearing.{Row, row_when}
use Rattle.paper.specs.Rows.{row_when_lowest}
use Rattle.paper.specs.Calls.{table_in}

-- "how many stored keys lie at or under it", for node q of an image
unfoldable pub count_in : List ℕ → ℕ → ℕ
unfolding count_at table_in head_of
count_in l q = count_at (table_in l) (head_of l).n (head_of l).min (head_of l).max q

-- "one for each node": the counts of the nodes 0 to G of an image
unfoldable pub counts_in : List ℕ → List ℕ
unfolding one_for_each count_in head_of
counts_in l = one_for_each (count_in l) 0 ((head_of l).g + 1)

-- 25: "counts differ, .. place the lowest such node"
unfoldable pub row25 : List ℕ → List ℕ → Row
unfolding row_when_lowest count_in head_of
row25 l counts =
    row_when_lowest 25 (λ q. not (eqb (get_or counts q 0) (count_in l q))) 0 ((head_of l).g + 1)

-- 5 again: "for a store 5 again, after 13, if the list is shorter than G+k+1"
unfoldable pub row5again : Head → ℕ → ℕ → Row
unfolding row_when
row5again h k lent = row_when 5 0 (ltb lent (h.g + k + 1))

-- a list of counts that is right for an image
pub record RightCounts (l counts : List ℕ) : Type 0 where
  -- it has a number for each node
  pub long : (head_of l).g + 1 ≤ length counts
  -- the numbers of the nodes 0 to G are their counts
  pub each : (q : ℕ) → q ≤ (head_of l).g → get_or counts q 0 ≡ count_in l q
