-- 01, "Walking, storing, listing": "A key in hand is up to 64 letter numbers together with its
-- length." Of a longer key the first 64 letters are held, and a length that is above every max.
use Rattle.std.specs.Prelude.{ℕ, zero, suc, ◌≤◌, ◌≡◌, List, [], ◌∷◌, length, take}
use Rattle.std.specs.Prelude.{Option as Maybe, Some, None, Result, IfOk}
use Rattle.std.proofs.Math.Option.{Option, none, some}
use Rattle.trie.specs.Table.{LettersBelow}
use Rattle.head.specs.declared.Head.{Head}
use Rattle.head.specs.Fields.{most_letters, head_of}
use Rattle.alphabet.specs.Letters.{key_of_text}
use Rattle.paper.specs.declared.Refusal.{Refusal}
use Rattle.paper.specs.Hearing.{Row, first}
use Rattle.paper.specs.Answers.{row_of}
use Rattle.paper.specs.Given.{Given, as_letters, as_text, key_in}
use Rattle.paper.specs.Orders.{letters_rows, text_rows, key_rows}
use Rattle.key.specs.declared.Key.{Key}
use Rattle.key.specs.declared.GivenKey.{GivenKey}
use Rattle.key.specs.declared.GivenKey.TheVariants.{Letters, Text}

-- the first w letters of a key, followed by zeros where it has fewer
unfoldable pub padded : ℕ → List ℕ → List ℕ
padded zero k = []
padded (suc w) [] = 0 ∷ padded w []
padded (suc w) (x ∷ k) = x ∷ padded w k

-- the key in hand with these letters: as many of them as are held, and their number
unfoldable pub in_hand : List ℕ → Key
unfolding padded
in_hand k = record { letters = padded most_letters k; len = length k }

-- the key in hand holds this key: its length and, if they can be held, its letters; what the
-- array has after them is not judged
pub record Holds (hand : Key) (k : List ℕ) : Type 0 where
  pub len : hand.len ≡ length k
  pub letters : length k ≤ most_letters → take (length k) hand.letters ≡ k

-- the key in hand of the key that a text names, if it names one
unfoldable pub hand_of : Option (List ℕ) → Maybe Key
unfolding in_hand
hand_of none = None
hand_of (some k) = Some (in_hand k)

-- a key as it is given, by its letters or by its text
abbrev pub given_of : GivenKey → Given
given_of (Letters letters) = as_letters letters.now
given_of (Text text) = as_text text.now

-- the key that is meant, with the letters of an alphabet; `meant_by` has the alphabet's bytes
unfoldable pub meant_with : List ℕ → Given → Option (List ℕ)
unfolding key_of_text
meant_with alphabet (as_letters key) = some key
meant_with alphabet (as_text text) = key_of_text alphabet text

-- 9 and 10 of a key as it is given, with a head and the letters of an alphabet; `key_rows_by` has
-- the alphabet's bytes
unfoldable pub key_rows_with : Head → List ℕ → Given → List Row
unfolding letters_rows text_rows meant_with
key_rows_with h alphabet (as_letters key) = letters_rows h key
key_rows_with h alphabet (as_text text) = text_rows h (meant_with alphabet (as_text text))

-- the answer: the first of them that is given or, where none is, the key in hand that is meant
pub record JudgedBy (h : Head) (alphabet : List ℕ) (given : Given) (r : Result Key Refusal)
    : Type 0 where
  pub verdict : row_of r ≡ first (key_rows_with h alphabet given)
  pub key : IfOk r (λ k. Some k ≡ hand_of (meant_with alphabet given))

-- the letters of a key in hand
abbrev pub letters_of : Key → List ℕ
letters_of hand = take hand.len hand.letters

-- a key in hand, once 9 and 10 have passed: it is held whole, and its letters are below N
pub record Ready (h : Head) (hand : Key) : Type 0 where
  pub short : hand.len ≤ most_letters
  pub letters : LettersBelow h.n (letters_of hand)

-- the same in an image that has been opened, with its own head and alphabet, where a key that
-- passes is ready
pub record Keyed (l : List ℕ) (given : Given) (r : Result Key Refusal) : Type 0 where
  pub verdict : row_of r ≡ first (key_rows l given)
  pub key : IfOk r (λ k. Ready (head_of l) k × (letters_of k ≡ key_in l given))
