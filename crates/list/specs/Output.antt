-- 01, "The listing program": all that it writes, as one text, for any input. The program hands
-- it over piece by piece; that the pieces then reach standard output is not said here.
use Rattle.std.specs.Prelude.{ℕ, zero, suc, ◌+◌, ◌≤◌, ◌≡◌, cond, List, [], ◌∷◌, ◌++◌, length, take}
use Rattle.std.specs.Prelude.{drop, replicate, eqb, ltb}
use Rattle.trie.specs.Table.{answer}
use Rattle.paper.specs.Hearing.{Numbers}
use Rattle.paper.specs.Calls.{table_in, stored_keys, check_of}
use Rattle.lines.specs.Lines.{entries_line, entry_line, refused_line}

-- "It reads an image of at most 65,536 bytes"
abbrev pub image_most : ℕ
image_most = 65536

-- "and has 16,384 working numbers"
abbrev pub work_most : ℕ
work_most = 16384

-- the line of each key with its value, one after the other
unfoldable pub lines_of : (List ℕ → ℕ) → List (List ℕ) → List ℕ
unfolding entry_line
lines_of value [] = []
lines_of value (k ∷ ks) = entry_line k (value k) ++ lines_of value ks

-- the listing of an image: the number of stored keys, then the line of each, in order
unfoldable pub listing_text : List ℕ → List ℕ
unfolding entries_line lines_of answer table_in stored_keys
listing_text l = entries_line (length (stored_keys l)) ++ lines_of (answer (table_in l))
    (stored_keys l)

-- by the numbers that the check answers: the listing, or "A refused image writes one line"
unfoldable pub text_by : Numbers → List ℕ → List ℕ
unfolding listing_text refused_line
text_by m l = cond (eqb m.number 0) (listing_text l) (refused_line m.number m.place)

-- the whole output. "Longer input is `refused 1 at 0`."
unfoldable pub output_of : List ℕ → List ℕ
unfolding text_by refused_line check_of
output_of input =
    cond (ltb image_most (length input)) (refused_line 1 0)
    (text_by (check_of input (replicate work_most 0)).numbers input)

-- The definitions by which the program's functions are stated.

-- the piece is the next part of a text, after `done` bytes of it
pub record NextPart (text : List ℕ) (done : ℕ) (piece : List ℕ) : Type 0 where
  pub within : done + length piece ≤ length text
  pub same : piece ≡ take (length piece) (drop done text)

-- the line of the root's own key, by its value; no line if it is not stored
unfoldable pub root_line : ℕ → List ℕ
unfolding entry_line
root_line zero = []
root_line (suc v) = entry_line [] (suc v)
