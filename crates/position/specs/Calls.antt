-- 02, Ask 7: the outcome of each call that takes counts, for any arguments. It is the first
-- refusal of the call's order or, where none is given, what Ask 7 says that the call does.
use Rattle.std.specs.Prelude.{ℕ, List, [], ◌∷◌, ◌++◌, length, drop, pos}
use Rattle.std.proofs.lemmas.List.Edits.{sets}
use Rattle.trie.specs.Table.{answer}
use Rattle.trie.specs.Storing.{change_of}
use Rattle.alphabet.specs.Letters.{or_empty}
use Rattle.passing.specs.Passing.{key_at, rank_in}
use Rattle.paper.specs.Hearing.{Outcome, outcome, done_numbers, first, heard}
use Rattle.paper.specs.Given.{Given, key_in}
use Rattle.paper.specs.Calls.{table_in, stored_keys, stored_image, work_after}
use Rattle.position.specs.Counts.{counts_in}
use Rattle.position.specs.Orders.{usable, counts_order, check_counts_order, store_counts_order}
use Rattle.position.specs.Orders.{key_at_order, position_order}

-- the working numbers after a call: 01's rule, where 5 may be given for either list
unfoldable pub work_left : List ℕ → List ℕ → List ℕ → List ℕ
unfolding work_after usable
work_left l work counts = work_after l (usable work counts) ++ drop (length counts) work

-- the list after the counts are worked out: its first G+1 numbers are the counts, the rest keep
-- what they held
unfoldable pub worked : List ℕ → List ℕ → List ℕ
unfolding counts_in
worked l counts = sets counts 0 (counts_in l)

-- working out the counts: "A call of its own works them out"; a refusal leaves the list as it was
unfoldable pub counts_of : List ℕ → List ℕ → List ℕ → Outcome
unfolding heard first counts_order work_left worked done_numbers
counts_of l work counts =
    heard (first (counts_order l work counts)) (work_left l work counts ∷ counts ∷ [])
    (outcome (done_numbers 0 (pos 0) 0) (work_left l work counts ∷ worked l counts ∷ []))

-- check with counts: "every other call that takes counts, a checking call too, first compares
-- them with fresh ones"
unfoldable pub check_counts_of : List ℕ → List ℕ → List ℕ → Outcome
unfolding heard first check_counts_order work_left done_numbers
check_counts_of l work counts =
    heard (first (check_counts_order l work counts)) (work_left l work counts ∷ [])
    (outcome (done_numbers 0 (pos 0) 0) (work_left l work counts ∷ []))

-- store with counts: as store, and "the result equals the counts worked out afresh"; a refusal
-- leaves the image and the list as they were
unfoldable pub store_counts_of : List ℕ → List ℕ → Given → ℕ → List ℕ → Outcome
unfolding heard first store_counts_order work_left worked done_numbers stored_image change_of
    answer
    table_in key_in
store_counts_of l work given value counts =
    heard (first (store_counts_order l work given value counts))
    (l ∷ work_left l work counts ∷ counts ∷ [])
    (outcome (done_numbers 0 (change_of (answer (table_in l) (key_in l given)) value) 0)
    (stored_image l (key_in l given) value ∷ work_left l work counts
    ∷ worked (stored_image l (key_in l given) value) counts ∷ []))

-- the key that is found, as for next key: "its letters at the front of the key buffer (the rest
-- unchanged), length and value"
unfoldable pub placed_key : List ℕ → List ℕ → List ℕ → List ℕ → List ℕ → Outcome
unfolding done_numbers answer table_in work_left
placed_key l work counts buffer k =
    outcome (done_numbers (length k) (pos 0) (answer (table_in l) k))
    (work_left l work counts ∷ sets buffer 0 k ∷ [])

-- key at a position: "From it answer the key at position i"; a refusal leaves the key buffer as
-- it was
unfoldable pub key_at_of : List ℕ → List ℕ → List ℕ → ℕ → List ℕ → Outcome
unfolding heard first key_at_order work_left placed_key or_empty key_at stored_keys
key_at_of l work counts position buffer =
    heard (first (key_at_order l work counts position (length buffer)))
    (work_left l work counts ∷ buffer ∷ [])
    (placed_key l work counts buffer (or_empty (key_at (stored_keys l) position)))

-- position of a key: "the position of a stored key" is how many stored keys come before it
unfoldable pub position_of : List ℕ → List ℕ → List ℕ → Given → Outcome
unfolding heard first position_order work_left done_numbers rank_in stored_keys key_in
position_of l work counts given =
    heard (first (position_order l work counts given)) (work_left l work counts ∷ [])
    (outcome (done_numbers 0 (pos 0) (rank_in (stored_keys l) (key_in l given)))
    (work_left l work counts ∷ []))
