-- What a writer has got, where the bytes that it holds are known: while no write has failed, the
-- text's front as far as it was handed over.
use Prim.Native.Nat.{ℕ, ◌+◌}
use mathlib.Core.Bool.{true≢false}
use mathlib.Core.List.{List, [], ◌++◌, append-nil, append_assoc}
use mathlib.Core.Path.{◌≡◌, sym, ◌∙◌, ap, subst}
use lib.ListN.{length, take}
use lib.Seq.{take-length, take-add}
use Rattle.std.specs.Prelude.{Option, Some, None, Result, Ok, Err, OnOk, IsOk}
use Rattle.std.specs.Io.KnownBytes.{Appends}
use Rattle.list.specs.Output.{NextPart}

appends_none : (held : Option (List ℕ)) → Appends held held []
appends_none None = tt
appends_none (Some xs) = sym (append-nil xs)

appends_more : (a b c : Option (List ℕ)) (xs ys : List ℕ) → Appends a b xs → Appends b c ys
    → Appends a c (xs ++ ys)
appends_more None b c xs ys p q = tt
appends_more (Some s) None c xs ys p q = absurd p
appends_more (Some s) (Some t) None xs ys p q = absurd q
appends_more (Some s) (Some t) (Some u) xs ys p q =
    q ∙ ap (◌++ ys) p ∙ append_assoc s xs ys

-- nothing is handed over yet
pub held_none : (held : Option (List ℕ)) (text : List ℕ) {done : ℕ} → done ≡ 0
    → Appends held held (take done text)
held_none held text e = rw e (appends_none held)

module _ {T E : Type 0} (text : List ℕ) where
  -- one more piece is handed over
  pub sent_more : (s r : Result T E) (a b c : Option (List ℕ)) {done after : ℕ} {piece : List ℕ}
      → OnOk s (Appends a b (take done text))
      → NextPart text done piece
      → after ≡ done + length piece
      → OnOk r (IsOk s × Appends b c piece)
      → OnOk r (Appends a c (take after text))
  sent_more (Ok y) (Ok x) a b c {done} {after} {piece} p part e q =
      subst (λ (l : List ℕ). Appends a c l)
      (ap (take done text ++◌) part.same
      ∙ sym (take-add done (length piece) text)
      ∙ ap (λ (k : ℕ). take k text) (sym e))
      (appends_more a b c (take done text) piece p q.1)
  sent_more (Ok y) (Err x) a b c p part e q = tt
  sent_more (Err y) (Ok x) a b c p part e q = absurd (true≢false (sym q.0))
  sent_more (Err y) (Err x) a b c p part e q = tt

  -- all of it is handed over
  pub sent_all : (r : Result T E) (a b : Option (List ℕ)) {done : ℕ}
      → OnOk r (Appends a b (take done text))
      → done ≡ length text
      → OnOk r (Appends a b text)
  sent_all r a b {done} p e =
      subst (λ (l : List ℕ). OnOk r (Appends a b l))
      (ap (λ (k : ℕ). take k text) e ∙ take-length text) p
