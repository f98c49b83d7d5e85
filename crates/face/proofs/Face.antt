-- C is given what the calls answer: an outcome depends only on the numbers of an answer,
-- whatever type holds them. The C answer can be recovered from its numbers, so the uniqueness of
-- every call (`Unique` of `paper`) holds for C too.
use Prim.Native.Nat.{ℕ}
use mathlib.Core.Path.{◌≡◌, refl, ◌∙◌, ap}
use mathlib.Core.List.{List}
use Rattle.paper.specs.Hearing.{Numbers, Outcome, outcome}
use Rattle.paper.proofs.Unique.{Told}
use Rattle.face.specs.declared.TrieffAnswer.{TrieffAnswer}
use Rattle.face.specs.Face.{numbers_of}

pub by_numbers : {m n : Numbers} {ls : List (List ℕ)} {o : Outcome} → m ≡ n → outcome n ls ≡ o
    → outcome m ls ≡ o
by_numbers {ls = ls} e p = ap (λ (x : Numbers). outcome x ls) e ∙ p

pub told_face : Told TrieffAnswer numbers_of
told_face = record { back = answer_of; inverse = λ r. refl }
  where
    answer_of : Numbers → TrieffAnswer
    answer_of m = record {
      number = m.number;
      place = m.place;
      length = m.length;
      change = m.change;
      value = m.value;
    }
