-- What a caller knows once an opening has passed.
use Prim.Native.Nat.{ℕ}
use mathlib.Core.Path.{◌≡◌}
use mathlib.Core.List.{List}
use Rattle.std.specs.Prelude.{Result, Ok}
use Rattle.std.proofs.lemmas.Result.{IfOk-at_ok}
use Rattle.head.specs.declared.Head.{Head}
use Rattle.head.specs.Fields.{head_of}
use Rattle.alphabet.specs.declared.codes.Codes.{Codes}
use Rattle.paper.specs.declared.Refusal.{Refusal}
use Rattle.paper.proofs.Hearing.{told_passed}
use Rattle.paper.proofs.Known.{Known, known}
use Rattle.opening.specs.Opened.{Opens}

pub known_opened : {l : List ℕ} {r : Result Head Refusal} {codes : Codes} {h : Head}
    → Opens l r codes → r ≡ Ok h → Known l h
known_opened {l} o e =
    known (told_passed o.verdict e) (IfOk-at_ok (λ (g : Head). g ≡ head_of l) e o.head)
