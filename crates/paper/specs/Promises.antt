-- 01, "Where the written promises must bite": "Every public call states its result." The promise
-- of each call: the numbers of its answer and the last content of its buffers are the outcome of
-- `Calls`. The call's `ensures`, in Rattle and in C, and its law of uniqueness cite it.
use Rattle.std.specs.Prelude.{ℕ, ◌≡◌, Bool, List, [], ◌∷◌}
use Rattle.paper.specs.Hearing.{Numbers, outcome}
use Rattle.paper.specs.Given.{Given}
use Rattle.paper.specs.Calls.{make_of, check_of, count_of, look_up_of, store_of, store_writes_of}
use Rattle.paper.specs.Calls.{mend_of, next_key_of}

-- make answers m and leaves this image
abbrev pub Makes : List ℕ → ℕ → ℕ → ℕ → List ℕ → ℕ → ℕ → Numbers → List ℕ → Type 0
Makes image n a d alphabet least most m image' =
    outcome m (image' ∷ []) ≡ make_of image n a d alphabet least most

-- check answers m and leaves these working numbers
abbrev pub Checks : List ℕ → List ℕ → Numbers → List ℕ → Type 0
Checks l work m work' = outcome m (work' ∷ []) ≡ check_of l work

-- number of keys answers m and leaves these working numbers
abbrev pub CountsKeys : List ℕ → List ℕ → Numbers → List ℕ → Type 0
CountsKeys l work m work' = outcome m (work' ∷ []) ≡ count_of l work

-- look up answers m
abbrev pub LooksUp : List ℕ → Given → Numbers → Type 0
LooksUp l given m = outcome m [] ≡ look_up_of l given

-- store answers m and leaves this image and these working numbers
abbrev pub Stores : List ℕ → List ℕ → Given → ℕ → Numbers → List ℕ → List ℕ → Type 0
Stores l work given value m l' work' = outcome m (l' ∷ work' ∷ []) ≡ store_of l work given value

-- store with writes answers m and leaves this image, these working numbers and this list
abbrev pub StoresWrites : List ℕ → List ℕ → Given → ℕ → List ℕ → Numbers → List ℕ → List ℕ → List ℕ
    → Type 0
StoresWrites l work given value list m l' work' list' =
    outcome m (l' ∷ work' ∷ list' ∷ []) ≡ store_writes_of l work given value list

-- mend answers m and leaves this image and these working numbers
abbrev pub Mends : List ℕ → List ℕ → Numbers → List ℕ → List ℕ → Type 0
Mends l work m l' work' = outcome m (l' ∷ work' ∷ []) ≡ mend_of l work

-- next key answers m and leaves these working numbers and this key buffer
abbrev pub Nexts : List ℕ → List ℕ → List ℕ → Bool → List ℕ → Numbers → List ℕ → List ℕ → Type 0
Nexts l work key after buffer m work' buffer' =
    outcome m (work' ∷ buffer' ∷ []) ≡ next_key_of l work key after buffer
