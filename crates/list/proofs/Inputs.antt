-- The output for what was read is the output for the whole input: either all of the input was
-- read, or one byte more than an image may have.
use Prim.Native.Nat.{ℕ, ◌+◌, ◌<◌, ◌≤◌}
use native.Mathlib.Omega.{arith}
use native.Mathlib.Decide.{dec_lt}
use mathlib.Core.List.{List, [], ◌++◌, append-nil}
use mathlib.Core.Path.{◌≡◌, sym, ◌∙◌, ap, subst}
use lib.ListN.{length, take}
use lib.Seq.{take_at, length-take-le}
use Rattle.std.specs.Prelude.{Option, Some, None, Result, Ok, Err, OnOk, IfSome}
use Rattle.std.specs.Io.KnownBytes.{Appends, Consumes, IsAtEnd}
use Rattle.list.specs.Output.{image_most, output_of}
use Rattle.list.proofs.Outputs.{front_decides}

same_output : (xs ys space : List ℕ) (n : ℕ) → length space ≡ image_most + 1
    → n ≤ length space
    → xs ≡ take n space ++ ys
    → (n < length space → ys ≡ [])
    → output_of (take n space) ≡ output_of xs
same_output xs ys space n long fits e end = go (dec_lt n (length space))
  where
    go : Dec (n < length space) → output_of (take n space) ≡ output_of xs
    go (yes b) =
        sym (ap output_of (e ∙ ap (take n space ++◌) (end b) ∙ append-nil (take n space)))
    go (no b) =
        let all : length (take n space) ≡ image_most + 1 =
        omega (arith, length-take-le n space fits) in
        ap output_of (sym (ap (take (image_most + 1)) e
        ∙ take_at (take n space) ys (image_most + 1) all))
        ∙ front_decides xs

pub output_whole : {T E : Type 0} (r : Result T E) (left after held now : Option (List ℕ))
    (space : List ℕ) (n : ℕ)
    → length space ≡ image_most + 1
    → n ≤ length space
    → Consumes left after (take n space)
    → (n < length space → IsAtEnd after)
    → OnOk r (Appends held now (output_of (take n space)))
    → OnOk r (IfSome left (λ input. Appends held now (output_of input)))
output_whole (Err x) left after held now space n long fits given end p = tt
output_whole (Ok x) None after held now space n long fits given end p = tt
output_whole (Ok x) (Some xs) None held now space n long fits given end p = absurd given
output_whole (Ok x) (Some xs) (Some ys) held now space n long fits given end p =
    subst (λ (l : List ℕ). Appends held now l) (same_output xs ys space n long fits given end) p
