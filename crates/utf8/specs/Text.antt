-- 01, "The image": "exactly N well-formed characters", and "What the bench may hear": "the text
-- is not well-formed". A character is the number that its bytes make as one big-endian field.
-- The first byte of a longer character is never 0, so two characters are the same exactly if
-- their numbers are.
use Rattle.std.specs.Prelude.{ℕ, zero, suc, ◌+◌, cond, List, [], ◌∷◌, length, leb}
use Rattle.std.proofs.Math.Option.{Option, none, some}
use Rattle.field.specs.Field.{field_at}
use Rattle.utf8.specs.Table37.{char_len}

-- the character at `at`, 0 if there is none
unfoldable pub char_at : List ℕ → ℕ → ℕ
unfolding char_len field_at
char_at l at = field_at l at (char_len l at)

-- a character before the characters of the rest; `none` if it has 0 bytes or the rest is `none`
unfoldable pub in_front : ℕ → ℕ → Option (List ℕ) → Option (List ℕ)
in_front zero c rest = none
in_front (suc m) c none = none
in_front (suc m) c (some cs) = some (c ∷ cs)

-- The characters from `at` on, if each is well-formed and the last ends with the text. The first
-- number only counts down. Each character has at least one byte, so the text's length is enough.
unfoldable pub chars_from : ℕ → List ℕ → ℕ → Option (List ℕ)
unfolding char_at in_front
chars_from zero l at = cond (leb (length l) at) (some []) none
chars_from (suc more) l at =
    cond (leb (length l) at) (some [])
    (in_front (char_len l at) (char_at l at) (chars_from more l (at + char_len l at)))

-- the characters of a text, none if it is not well-formed
unfoldable pub chars : List ℕ → Option (List ℕ)
unfolding chars_from
chars l = chars_from (length l) l 0
