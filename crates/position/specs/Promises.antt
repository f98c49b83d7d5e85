-- 02, Ask 7: the promise of each call that takes counts, in one definition, as `Promises` of
-- crate `paper` has it for the other calls.
use Rattle.std.specs.Prelude.{ℕ, ◌≡◌, List, [], ◌∷◌}
use Rattle.paper.specs.Hearing.{Numbers, outcome}
use Rattle.paper.specs.Given.{Given}
use Rattle.position.specs.Calls.{counts_of, check_counts_of, store_counts_of, key_at_of}
use Rattle.position.specs.Calls.{position_of}

-- working out the counts answers m and leaves these working numbers and this list of counts
abbrev pub WorksOut : List ℕ → List ℕ → List ℕ → Numbers → List ℕ → List ℕ → Type 0
WorksOut l work counts m work' counts' = outcome m (work' ∷ counts' ∷ []) ≡ counts_of l work counts

-- check with counts answers m and leaves these working numbers
abbrev pub ChecksCounts : List ℕ → List ℕ → List ℕ → Numbers → List ℕ → Type 0
ChecksCounts l work counts m work' = outcome m (work' ∷ []) ≡ check_counts_of l work counts

-- store with counts answers m and leaves this image, these working numbers and this list of counts
abbrev pub StoresCounts : List ℕ → List ℕ → Given → ℕ → List ℕ → Numbers → List ℕ → List ℕ → List ℕ
    → Type 0
StoresCounts l work given value counts m l' work' counts' =
    outcome m (l' ∷ work' ∷ counts' ∷ []) ≡ store_counts_of l work given value counts

-- key at a position answers m and leaves these working numbers and this key buffer
abbrev pub GivesKey : List ℕ → List ℕ → List ℕ → ℕ → List ℕ → Numbers → List ℕ → List ℕ → Type 0
GivesKey l work counts position buffer m work' buffer' =
    outcome m (work' ∷ buffer' ∷ []) ≡ key_at_of l work counts position buffer

-- position of a key answers m and leaves these working numbers
abbrev pub GivesPosition : List ℕ → List ℕ → List ℕ → Given → Numbers → List ℕ → Type 0
GivesPosition l work counts given m work' = outcome m (work' ∷ [])
    ≡ position_of l work counts given
