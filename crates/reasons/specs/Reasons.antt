-- 01, "What the bench may hear", of a store on an accepted image: the reasons to refuse it, as
-- statements in the table's words and without the rows. Demand 3's theorem
-- (`store_number_exactly`): a store answers the number of the first reason that applies, and 0
-- where none does.
use Rattle.std.specs.Prelude.{ℕ, ◌+◌, ◌-◌, ◌*◌, ◌^◌, ◌≤◌, ◌<◌, ◌≡◌, ◌⊎◌, length}
use Rattle.std.proofs.Math.Option.{none, some}
use mathlib.Core.List.{List, [], ◌∷◌, ◌++◌, Memᴰ}
use Rattle.utf8.specs.Text.{chars}
use Rattle.head.specs.declared.Head.{Head}
use Rattle.head.specs.Fields.{head_of, node_width, used_len}
use Rattle.alphabet.specs.Letters.{letters}
use Rattle.paper.specs.Given.{Given, as_letters, as_text, alphabet_in, key_in}
use Rattle.paper.specs.Orders.{new_of}

-- a reason to refuse: its number, and what must be so
pub record Reason : Type 1 where
  pub number : ℕ
  pub applies : Type 0

-- the reason with this number, for what must be so
infix 68 ◌when◌
abbrev pub ◌when◌ : ℕ → Type 0 → Reason
number when applies = record { number = number; applies = applies }

-- "The first that applies is given, in this order": n is the number of the first reason that
-- applies, and 0 where none does
abbrev pub FirstApplies : List Reason → ℕ → Type 0
FirstApplies [] n = n ≡ 0
FirstApplies (r ∷ rs) n =
    (r.applies × (n ≡ r.number)) ⊎ ((¬ r.applies) × FirstApplies rs n)

-- ---- the key

-- 9: "key length outside min..max"
abbrev pub LengthOutside : Head → List ℕ → Type 0
LengthOutside h key = (length key < h.min) ⊎ (h.max < length key)

-- 10 for letters: "a letter number is N or more"
abbrev pub LetterOutside : Head → List ℕ → Type 0
LetterOutside h key = (x : ℕ) × Memᴰ x key × (h.n ≤ x)

-- 10 for text: "the text is not well-formed or has a character outside the alphabet". An alphabet
-- of no bytes has no letters: "if F is 0, .. no text but the empty one names a key".
abbrev pub TextOutside : List ℕ → List ℕ → Type 0
TextOutside alphabet text =
    (chars text ≡ none)
    ⊎ ((cs : List ℕ) × (chars text ≡ some cs) × (c : ℕ) × Memᴰ c cs
    × (¬ Memᴰ c (letters alphabet)))

-- 9 and 10 for letters; "For text, 10 stands before 9", and the length is that of the key meant
unfoldable pub key_reasons : List ℕ → Given → List Reason
key_reasons l (as_letters key) =
    9 when LengthOutside (head_of l) key ∷ 10 when LetterOutside (head_of l) key ∷ []
key_reasons l (as_text text) =
    10 when TextOutside (alphabet_in (head_of l) l) text
    ∷ 9 when LengthOutside (head_of l) (key_in l (as_text text)) ∷ []

-- ---- the value and the room

-- 11: "value above 256^D - 1"; 12: "G + k above 256^A - 1, with k above 0"; 13: "U + k*W exceeds
-- the image's length, with k above 0"
unfoldable pub value_reasons : List ℕ → ℕ → ℕ → List Reason
value_reasons l value k =
    11 when (256 ^ (head_of l).d - 1 < value)
    ∷ 12 when ((256 ^ (head_of l).a - 1 < (head_of l).g + k) × (0 < k))
    ∷ 13 when ((length l < used_len (head_of l) + k * node_width (head_of l)) × (0 < k))
    ∷ []

-- ---- a store on an accepted image

-- 5: "fewer than G+1 working numbers lent"; then 9 to 13. "Here k is the number of nodes missing
-- on the key's path, but 0 where the value is 0."
unfoldable pub store_reasons : List ℕ → List ℕ → Given → ℕ → List Reason
unfolding key_reasons value_reasons
store_reasons l work given value =
    5 when (length work < (head_of l).g + 1)
    ∷ (key_reasons l given ++ value_reasons l value (new_of (head_of l) l (key_in l given) value))
