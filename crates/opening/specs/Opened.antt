-- 01, "What the bench may hear", 1 to 4: opening an image answers the first of them that is
-- given and, where none is, the head; the letters of the alphabet are then in the codes.
use Rattle.std.specs.Prelude.{ℕ, ◌≡◌, List, length, Result, IfOk}
use Rattle.head.specs.declared.Head.{Head}
use Rattle.head.specs.Fields.{head_of}
use Rattle.alphabet.specs.declared.codes.Codes.{Codes}
use Rattle.alphabet.specs.Letters.{letters}
use Rattle.alphabet.specs.Judged.{letters_in}
use Rattle.paper.specs.declared.Refusal.{Refusal}
use Rattle.paper.specs.Hearing.{first}
use Rattle.paper.specs.Answers.{row_of}
use Rattle.paper.specs.Given.{alphabet_in}
use Rattle.paper.specs.Orders.{opening_rows, opening_rows_of}

-- the codes are those of an alphabet's letters
abbrev pub Decoded : List ℕ → Codes → Type 0
Decoded alphabet codes = letters_in codes ≡ letters alphabet

-- 1 to 4 for a head, an alphabet and the length of an image
pub record OpensWith (h : Head) (alphabet : List ℕ) (len : ℕ) (r : Result (Unit {0}) Refusal)
    (codes : Codes) : Type 0 where
  pub verdict : row_of r ≡ first (opening_rows h alphabet len)
  pub decoded : IfOk r (λ _. length alphabet ≡ h.f → Decoded alphabet codes)

-- 1 to 4 for an image
pub record Opens (l : List ℕ) (r : Result Head Refusal) (codes : Codes) : Type 0 where
  pub verdict : row_of r ≡ first (opening_rows_of l)
  pub head : IfOk r (λ h. h ≡ head_of l)
  pub decoded : IfOk r (λ _. Decoded (alphabet_in (head_of l) l) codes)
