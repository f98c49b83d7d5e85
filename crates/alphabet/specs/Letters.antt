-- 01, "The image": "Alphabet: if F is 0, keys are letter numbers only and no text but the empty
-- one names a key. Otherwise the F bytes are exactly N well-formed characters, all different;
-- letter i is the i-th, from 0."
use Rattle.std.specs.Prelude.{ℕ, suc, Bool, true, false, not, ◌&&◌, ◌||◌, cond, List, [], ◌∷◌}
use Rattle.std.specs.Prelude.{length, eqb, ltb}
use Rattle.std.proofs.Math.Option.{Option, none, some}
use Rattle.utf8.specs.Text.{chars}

-- whether c is one of the characters
unfoldable pub among : ℕ → List ℕ → Bool
among c [] = false
among c (d ∷ ds) = eqb c d || among c ds

unfoldable pub all_different : List ℕ → Bool
unfolding among
all_different [] = true
all_different (c ∷ cs) = not (among c cs) && all_different cs

-- n characters, all different
unfoldable pub is_alphabet : ℕ → Option (List ℕ) → Bool
unfolding all_different
is_alphabet n none = false
is_alphabet n (some cs) = eqb (length cs) n && all_different cs

-- "exactly N well-formed characters, all different"
unfoldable pub good_alphabet : ℕ → List ℕ → Bool
unfolding is_alphabet chars
good_alphabet n bytes = is_alphabet n (chars bytes)

-- what an option has, nothing if it is `none`
unfoldable pub or_empty : Option (List ℕ) → List ℕ
or_empty none = []
or_empty (some cs) = cs

-- the letters of an alphabet: its characters, none if the bytes are not well-formed
unfoldable pub letters : List ℕ → List ℕ
unfolding or_empty chars
letters bytes = or_empty (chars bytes)

-- the letter number of a character: its position in the alphabet, or the alphabet's length if it
-- is not in it
unfoldable pub letter_of : List ℕ → ℕ → ℕ
letter_of [] c = 0
letter_of (d ∷ ds) c = cond (eqb c d) 0 (suc (letter_of ds c))

-- a letter number before the others, `none` if it is not one of the alphabet's n letters
unfoldable pub with_letter : ℕ → ℕ → Option (List ℕ) → Option (List ℕ)
with_letter n x none = none
with_letter n x (some xs) = cond (ltb x n) (some (x ∷ xs)) none

-- the letter numbers of characters, `none` if one is outside the alphabet
unfoldable pub letters_of_chars : List ℕ → List ℕ → Option (List ℕ)
unfolding letter_of with_letter
letters_of_chars alphabet [] = some []
letters_of_chars alphabet (c ∷ cs) =
    with_letter (length alphabet) (letter_of alphabet c) (letters_of_chars alphabet cs)

-- the same for the characters of a text, `none` if it is not well-formed
unfoldable pub key_of_chars : List ℕ → Option (List ℕ) → Option (List ℕ)
unfolding letters_of_chars
key_of_chars alphabet none = none
key_of_chars alphabet (some cs) = letters_of_chars alphabet cs

-- the key that a text names, `none` if "the text is not well-formed or has a character outside
-- the alphabet"
unfoldable pub key_of_text : List ℕ → List ℕ → Option (List ℕ)
unfolding key_of_chars chars
key_of_text alphabet text = key_of_chars alphabet (chars text)
