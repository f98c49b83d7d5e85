-- 01, "The listing program": its lines, as text in ASCII. "Letter numbers are joined by dots;
-- the empty key is `-`." "A refused image writes one line".
use Rattle.std.specs.Prelude.{ℕ, zero, suc, ◌+◌, ◌*◌, ◌/◌, ◌%◌, ◌≡◌, cond, List, [], ◌∷◌, ◌++◌}
use Rattle.std.specs.Prelude.{length, ltb}
use Rattle.std.proofs.lemmas.List.Edits.{sets}

-- the digits of a number that has at most `more` digits after its first
unfoldable pub decimal_by : ℕ → ℕ → List ℕ
decimal_by zero v = (48 + v) ∷ []
decimal_by (suc more) v =
    cond (ltb v 10) ((48 + v) ∷ []) (decimal_by more (v / 10) ++ ((48 + v % 10) ∷ []))

-- a number in decimal, without leading zeros; a number of 64 bits has at most twenty digits
unfoldable pub decimal : ℕ → List ℕ
unfolding decimal_by
decimal v = decimal_by 19 v

-- letter numbers, each after a dot
unfoldable pub dotted : List ℕ → List ℕ
unfolding decimal
dotted [] = []
dotted (x ∷ k) = 46 ∷ (decimal x ++ dotted k)

-- a key: its letter numbers with dots between them, or a dash
unfoldable pub key_text : List ℕ → List ℕ
unfolding decimal dotted
key_text [] = 45 ∷ []
key_text (x ∷ k) = decimal x ++ dotted k

-- the line of a stored key: the key, a blank, the value
unfoldable pub entry_line : List ℕ → ℕ → List ℕ
unfolding key_text decimal
entry_line k v = key_text k ++ (32 ∷ (decimal v ++ (10 ∷ [])))

-- the line `entries N`
unfoldable pub entries_line : ℕ → List ℕ
unfolding decimal
entries_line n = (101 ∷ 110 ∷ 116 ∷ 114 ∷ 105 ∷ 101 ∷ 115 ∷ 32 ∷ []) ++ (decimal n ++ (10 ∷ []))

-- the line `refused N at P`
unfoldable pub refused_line : ℕ → ℕ → List ℕ
unfolding decimal
refused_line n place =
    (114 ∷ 101 ∷ 102 ∷ 117 ∷ 115 ∷ 101 ∷ 100 ∷ 32 ∷ [])
    ++ (decimal n ++ ((32 ∷ 97 ∷ 116 ∷ 32 ∷ []) ++ (decimal place ++ (10 ∷ []))))

-- the room for the line of a key: at most three digits and a dot for each letter, and the rest
abbrev pub entry_room : ℕ → ℕ
entry_room len = len * 4 + 32

-- the room for `entries N`; a number has at most twenty digits
abbrev pub entries_room : ℕ
entries_room = 32

-- the room for `refused N at P`
abbrev pub refused_room : ℕ
refused_room = 64

-- a text written from `at` on, all else kept, and where it ends
pub record TextAt (out : List ℕ) (at : ℕ) (text : List ℕ) (end : ℕ) (out' : List ℕ) : Type 0 where
  pub bytes : out' ≡ sets out at text
  pub ends : end ≡ at + length text
