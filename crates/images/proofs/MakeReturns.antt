-- The outcome of make at each way out: refused with the slice as it was, or done with the fresh
-- image.
use Prim.Native.Nat.{ℕ, ◌<◌}
use mathlib.Core.Path.{◌≡◌, refl, sym, ◌∙◌, ap}
use mathlib.Core.Bool.{Bool, true, false}
use mathlib.Core.Option.{none, some}
use mathlib.Core.List.{List, [], ◌∷◌}
use native.Mathlib.Omega.{arith}
use lib.ListN.{length}
use lib.IntN.{pos}
use Rattle.std.specs.Prelude.{Ok, Err}
use Rattle.field.specs.Range.{between}
use Rattle.head.specs.declared.Head.{Head}
use Rattle.head.specs.Fields.{shortest_image, longest_image, most_alphabet, permitted}
use Rattle.head.proofs.Permitted.{bounds}
use Rattle.paper.specs.declared.Refusal.{Refusal}
use Rattle.paper.specs.Hearing.{Row, first, outcome, done_numbers}
use Rattle.paper.specs.Answers.{number_at, said_of, refusal_numbers, done_of}
use Rattle.paper.specs.Orders.{opening_rows}
use Rattle.paper.specs.Calls.{fresh_head, fresh_image, make_of}
use Rattle.paper.specs.Promises.{Makes}
use Rattle.paper.proofs.Hearing.{heard_refused, heard_done}
use Rattle.paper.proofs.Opening.{heard_2}

module _ (image : List ℕ) (n a d : ℕ) (alphabet : List ℕ) (least most : ℕ) where
  abbrev fresh : Head
  fresh = record { g = 0; n = n; a = a; d = d; f = length alphabet; min = least; max = most }

  -- the row that 1 to 4 give
  abbrev pub heard_of : Row
  heard_of = first (opening_rows fresh alphabet (length image))

  pub makes_refused : (why : Refusal) → heard_of ≡ some (said_of why)
      → Makes image n a d alphabet least most (done_of (Err why)) image
  unfolding make_of fresh_head done_of refusal_numbers
  makes_refused why e = sym (heard_refused _ _ _ e)

  pub makes_done : {after : List ℕ} → heard_of ≡ none → after ≡ fresh_image fresh alphabet image
      → Makes image n a d alphabet least most (done_of (Ok tt)) after
  unfolding make_of fresh_head done_of
  makes_done e f =
      ap (λ (l : List ℕ). outcome (done_numbers 0 (pos 0) 0) (l ∷ [])) f ∙ sym (heard_done _ _ _ e)

  -- an alphabet that is longer than any permitted F
  pub too_many : between (length image) shortest_image longest_image ≡ true → most_alphabet
      < length alphabet → heard_of ≡ some (number_at 2 0)
  too_many l b = heard_2 fresh alphabet (length image) l (go (permitted fresh) refl)
    where
      go : (p : Bool) → permitted fresh ≡ p → p ≡ false
      go true e = let f = (bounds fresh e).f_most in absurd (omega arith)
      go false e = refl
