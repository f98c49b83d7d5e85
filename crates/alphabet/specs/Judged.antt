-- Row 3 of 01's table, "not N different well-formed characters", as one pass over the alphabet
-- answers it, and the letters that the pass leaves.
use Rattle.std.specs.Prelude.{ℕ, ◌≡◌, Bool, true, List, take, length, ltb, cond}
use Rattle.std.specs.Prelude.{Option, Some, None}
use Rattle.alphabet.specs.declared.codes.Codes.{Codes}
use Rattle.alphabet.specs.Letters.{good_alphabet, letters, letter_of}

-- the letters that have been decoded
abbrev pub letters_in : Codes → List ℕ
letters_in codes = take codes.count codes.list

-- the answer is true exactly if the bytes are an alphabet, and the codes are then its letters
pub record Judged (n : ℕ) (bytes : List ℕ) (r : Bool) (codes : Codes) : Type 0 where
  pub good : r ≡ good_alphabet n bytes
  pub spelled : r ≡ true → letters_in codes ≡ letters bytes

-- the letter number of a character, none if it is not one of the letters
abbrev pub letter_in : List ℕ → ℕ → Option ℕ
letter_in alphabet c =
    cond (ltb (letter_of alphabet c) (length alphabet)) (Some (letter_of alphabet c)) None
