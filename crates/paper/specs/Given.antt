-- 01: "Keys are letter numbers (one byte each) or text in UTF-8." A key as a caller gives it,
-- and the key that it means. Look up, store and position of a key exist for both sorts of key;
-- their orders, outcomes and promises speak of both at once by `Given`.
use Rattle.std.specs.Prelude.{ℕ, List, take, drop}
use Rattle.std.proofs.Math.Option.{Option, some}
use Rattle.head.specs.declared.Head.{Head}
use Rattle.head.specs.Fields.{head_of, fields_len}
use Rattle.alphabet.specs.Letters.{letters, or_empty, key_of_text}

-- a key by its letter numbers, or by its text
pub data Given : Type 0 where
  as_letters : (key : List ℕ) → Given
  as_text : (text : List ℕ) → Given

-- the F bytes after the seven fields; fewer where the image ends before them
unfoldable pub alphabet_in : Head → List ℕ → List ℕ
alphabet_in h l = take h.f (drop fields_len l)

-- the key that is meant, with this alphabet: letter numbers mean themselves, and a text means a
-- key or none
unfoldable pub meant_by : List ℕ → Given → Option (List ℕ)
unfolding key_of_text letters
meant_by alphabet (as_letters key) = some key
meant_by alphabet (as_text text) = key_of_text (letters alphabet) text

-- the key that is meant in an image, by its own alphabet
unfoldable pub meant_in : List ℕ → Given → Option (List ℕ)
unfolding meant_by alphabet_in head_of
meant_in l given = meant_by (alphabet_in (head_of l) l) given

-- the letters of the key that is meant; where none is meant, 10 is given and they are not used
unfoldable pub key_in : List ℕ → Given → List ℕ
unfolding meant_in or_empty
key_in l given = or_empty (meant_in l given)
