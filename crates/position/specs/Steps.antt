-- 02, Ask 7, "the first stored key moved on by i steps of next key": the key that next key gives
-- when it is called for the first stored key and then i times for the key after the last one.
-- Counts have no part in it.
use Rattle.std.specs.Prelude.{ℕ, zero, suc, true, false, List, []}
use Rattle.std.proofs.Math.Option.{Option, none, some}
use Rattle.paper.specs.Calls.{next_key_of}
use Rattle.paper.specs.Repeated.{key_heard}

-- one step: the key after this one, where there is one
unfoldable pub step_on : List ℕ → List ℕ → List ℕ → Option (List ℕ) → Option (List ℕ)
unfolding key_heard next_key_of
step_on l work buffer none = none
step_on l work buffer (some k) = key_heard (next_key_of l work k true buffer)

-- the first stored key moved on by this many steps, where the listing has such a key
unfoldable pub steps_on : List ℕ → List ℕ → List ℕ → ℕ → Option (List ℕ)
unfolding key_heard next_key_of step_on
steps_on l work buffer zero = key_heard (next_key_of l work [] false buffer)
steps_on l work buffer (suc i) = step_on l work buffer (steps_on l work buffer i)
