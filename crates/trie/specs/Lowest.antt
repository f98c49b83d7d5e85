-- Numbers that pass a test: the lowest, and whether there is one. 01's places are the "lowest node
-- that holds one" and the "lowest such address".
use Rattle.std.specs.Prelude.{ℕ, zero, suc, Bool, false, ◌||◌, cond}

-- the lowest of the k numbers from a on that passes, or a + k if none does
unfoldable pub lowest : (ℕ → Bool) → ℕ → ℕ → ℕ
lowest p a zero = a
lowest p a (suc k) = cond (p a) a (lowest p (suc a) k)

-- does one of the numbers below m pass?
unfoldable pub any_below : (ℕ → Bool) → ℕ → Bool
any_below p zero = false
any_below p (suc m) = any_below p m || p m
