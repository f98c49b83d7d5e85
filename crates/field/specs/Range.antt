-- A number within two limits, both of them allowed: the ranges of 01's tables, such as
-- "1 to 256" for N and "80..BF" for a second byte.
use Rattle.std.specs.Prelude.{ℕ, Bool, ◌&&◌, leb}

abbrev pub between : ℕ → ℕ → ℕ → Bool
between x low high = leb low x && leb x high
