-- 01, "The image": "Well-formed is Table 3-7 of the Unicode Standard, nine rows of ranges, each
-- telling the first and second byte [..] Third and fourth bytes are 80..BF." A row: the lowest
-- and the highest first byte, the lowest and the highest second byte (0 if the character has
-- none), and how many bytes the character has.
use Rattle.std.specs.Prelude.{ℕ, zero, suc, ◌+◌, Bool, true, ◌&&◌, cond, List, [], ◌∷◌, length}
use Rattle.std.specs.Prelude.{get_or, leb}
use Rattle.field.specs.Range.{between}

abbrev pub rows : List (List ℕ)
rows =
    (0x00 ∷ 0x7F ∷ 0x00 ∷ 0x00 ∷ 1 ∷ [])
    ∷ (0xC2 ∷ 0xDF ∷ 0x80 ∷ 0xBF ∷ 2 ∷ [])
    ∷ (0xE0 ∷ 0xE0 ∷ 0xA0 ∷ 0xBF ∷ 3 ∷ [])
    ∷ (0xE1 ∷ 0xEC ∷ 0x80 ∷ 0xBF ∷ 3 ∷ [])
    ∷ (0xED ∷ 0xED ∷ 0x80 ∷ 0x9F ∷ 3 ∷ [])
    ∷ (0xEE ∷ 0xEF ∷ 0x80 ∷ 0xBF ∷ 3 ∷ [])
    ∷ (0xF0 ∷ 0xF0 ∷ 0x90 ∷ 0xBF ∷ 4 ∷ [])
    ∷ (0xF1 ∷ 0xF3 ∷ 0x80 ∷ 0xBF ∷ 4 ∷ [])
    ∷ (0xF4 ∷ 0xF4 ∷ 0x80 ∷ 0x8F ∷ 4 ∷ [])
    ∷ []

-- b is in the range for byte i of a character of this row: the row has the ranges of the first
-- and the second byte, and all others are 80..BF
unfoldable pub in_range : List ℕ → ℕ → ℕ → Bool
in_range row zero b = between b (get_or row 0 0) (get_or row 1 0)
in_range row (suc zero) b = between b (get_or row 2 0) (get_or row 3 0)
in_range row (suc (suc i)) b = between b 0x80 0xBF

-- the m bytes from byte i of the character on are in their ranges; the character begins at `at`
unfoldable pub in_ranges : List ℕ → List ℕ → ℕ → ℕ → ℕ → Bool
unfolding in_range
in_ranges row l at i zero = true
in_ranges row l at i (suc m) = in_range row i (get_or l (at + i) 0) && in_ranges row l at (suc i) m

-- a whole character of this row begins at `at`
unfoldable pub fits_row : List ℕ → List ℕ → ℕ → Bool
unfolding in_ranges
fits_row row l at = leb (at + get_or row 4 0) (length l) && in_ranges row l at 0 (get_or row 4 0)

-- the length of the character at `at` by the first of the given rows that it fits, 0 if it fits
-- none
unfoldable pub length_by : List (List ℕ) → List ℕ → ℕ → ℕ
unfolding fits_row
length_by [] l at = 0
length_by (row ∷ more) l at = cond (fits_row row l at) (get_or row 4 0) (length_by more l at)

-- the length of the well-formed character at `at`, 0 if there is none
unfoldable pub char_len : List ℕ → ℕ → ℕ
unfolding length_by
char_len l at = length_by rows l at
