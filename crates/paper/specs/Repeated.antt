-- Next key called repeatedly, so that a whole listing by calls can be stated (demand 2, "the
-- listing of an accepted image names each stored key once, in order"). Each call is lent the
-- working numbers and the key buffer as the call before it left them.
use Rattle.std.specs.Prelude.{ℕ, zero, suc, Bool, true, false, cond, List, [], ◌∷◌, take, eqb}
use Rattle.std.proofs.Math.Option.{Option, none, some}
use Rattle.trie.specs.Keys.{with_key}
use Rattle.paper.specs.Hearing.{Outcome}
use Rattle.paper.specs.Calls.{next_key_of}

-- the first of the buffers that a call leaves: for next key the working numbers, for a call that
-- may write the image the image
unfoldable pub first_left : List (List ℕ) → List ℕ
first_left [] = []
first_left (x ∷ rest) = x

-- the second of the buffers that a call leaves: for next key and for key at a position, the key
-- buffer
unfoldable pub key_left : List (List ℕ) → List ℕ
key_left [] = []
key_left (work ∷ []) = []
key_left (work ∷ buffer ∷ rest) = buffer

-- the key that such a call gives: as many letters as its answer says, from the front of the key
-- buffer
unfoldable pub key_heard : Outcome → Option (List ℕ)
unfolding key_left
key_heard o =
    cond (eqb o.numbers.number 0) (some (take o.numbers.length (key_left o.lent))) none

-- the key that a call gave, then the keys that `rest` gives for the working numbers that the
-- call left, its key and the key buffer that it left; no keys if the call gave none
unfoldable pub heard_then : Outcome → (List ℕ → List ℕ → List ℕ → List (List ℕ)) → List (List ℕ)
unfolding with_key key_heard first_left key_left
heard_then o rest =
    with_key (key_heard o) (λ k. k ∷ rest (first_left o.lent) k (key_left o.lent))

-- the keys that this many calls give: the first asks as it is said, each next one for the key
-- after the last key given
unfoldable pub asked_from : List ℕ → ℕ → List ℕ → List ℕ → Bool → List ℕ → List (List ℕ)
unfolding heard_then next_key_of
asked_from l zero work key after buffer = []
asked_from l (suc times) work key after buffer =
    heard_then (next_key_of l work key after buffer) (λ w k b. asked_from l times w k true b)

-- the keys that next key gives: the key after k, then the key after that one, and so on
abbrev pub asked_after : List ℕ → List ℕ → List ℕ → ℕ → List ℕ → List (List ℕ)
asked_after l work buffer times k = asked_from l times work k true buffer

-- the keys that next key gives: the first key at or after the empty one, then those after it
abbrev pub asked_for_all : List ℕ → List ℕ → List ℕ → ℕ → List (List ℕ)
asked_for_all l work buffer times = asked_from l times work [] false buffer
