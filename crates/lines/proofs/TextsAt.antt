-- A text written from a place on. A byte that is set is a text of one byte. A text written where
-- another ends makes one text of the two (`sets_append`). So the lines are written piece by piece.
use mathlib.Core.Path.{◌≡◌, refl, sym, ap, ap₂, ◌∙◌, subst}
use mathlib.Core.Logic.{inr}
use Prim.Native.Nat.{ℕ, ◌+◌}
use native.Mathlib.Omega.{arith}
use mathlib.Core.List.{List, [], ◌∷◌, ◌++◌}
use lib.ListN.{length, set, length-append}
use lib.Seq.{sets, length-sets}
use Rattle.field.proofs.Sets.{sets_append, set_sets}
use Rattle.lines.specs.Lines.{TextAt}

pub laid_long : {out : List ℕ} {at : ℕ} {text : List ℕ} {end : ℕ} {out' : List ℕ}
    → TextAt out at text end out' → length out' ≡ length out
laid_long {out} {at} {text} p = ap length p.bytes ∙ length-sets out at text

-- an equal text
pub laid_as : {out : List ℕ} {at : ℕ} {text text' : List ℕ} {end : ℕ} {out' : List ℕ}
    → text ≡ text'
    → TextAt out at text end out'
    → TextAt out at text' end out'
laid_as {out} {at} {end} {out'} e p = subst (λ (t : List ℕ). TextAt out at t end out') e p

pub laid_one : (out : List ℕ) (at b : ℕ) {end : ℕ} → end ≡ at + 1 → TextAt out at (b ∷ []) end
    (set out at b)
laid_one out at b e = record { bytes = refl; ends = e }

pub laid_join : {l : List ℕ} {at : ℕ} {a : List ℕ} {e : ℕ} {m b : List ℕ} {f : ℕ} {n : List ℕ}
    → TextAt l at a e m
    → TextAt m e b f n
    → TextAt l at (a ++ b) f n
laid_join {l} {at} {a} {e} {m} {b} {f} {n} p q =
    record {
      bytes = q.bytes ∙ ap₂ (λ (r : List ℕ) (k : ℕ). sets r k b) p.bytes p.ends
          ∙ sym (sets_append l at a b);
      ends = omega (arith, p.ends, q.ends, length-append a b);
    }

-- the last byte may be set first
pub sets_last : (l vs : List ℕ) (at b : ℕ) → sets l at (vs ++ (b ∷ []))
    ≡ sets (set l (at + length vs) b) at vs
sets_last l vs at b =
    sets_append l at vs (b ∷ []) ∙ sym (set_sets l vs at (at + length vs) b (inr (omega arith)))
