-- 01, "The image": "All numbers are big-endian, here and in every later layout". A field is w
-- bytes from a place of the image on. The width is free, so that each law is stated once for all
-- widths. A byte is a number below 256.
use Rattle.std.specs.Prelude.{ℕ, zero, suc, ◌+◌, ◌*◌, ◌/◌, ◌%◌, ◌≤◌, ◌<◌, ◌≡◌, List, [], ◌∷◌, ◌++◌}
use Rattle.std.specs.Prelude.{get_or, replicate}
use Rattle.std.proofs.lemmas.List.Edits.{sets}

-- a list whose elements are bytes, as those of a lent slice are
abbrev pub Bytes : List ℕ → Type 0
Bytes l = (k : ℕ) → get_or l k 0 < 256

-- the number in the w bytes from `at` on, the first byte the most significant
unfoldable pub field_at : List ℕ → ℕ → ℕ → ℕ
field_at l at zero = 0
field_at l at (suc w) = field_at l at w * 256 + get_or l (at + w) 0

-- the w bytes of a number, the most significant first; what does not fit is lost
unfoldable pub digits : ℕ → ℕ → List ℕ
digits zero v = []
digits (suc w) v = digits w (v / 256) ++ (v % 256 ∷ [])

-- the bytes after a number is written into the w bytes from `at` on
abbrev pub put_field : List ℕ → ℕ → ℕ → ℕ → List ℕ
put_field l at w v = sets l at (digits w v)

-- the bytes after n zeros are written from `at` on
abbrev pub cleared : List ℕ → ℕ → ℕ → List ℕ
cleared l at n = sets l at (replicate n 0)

-- all bytes from one place up to another are 0
abbrev pub Zeros : List ℕ → ℕ → ℕ → Type 0
Zeros l from to = (k : ℕ) → from ≤ k → k < to → get_or l k 0 ≡ 0
