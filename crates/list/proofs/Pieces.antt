-- A text that is handed over piece by piece. Where the count of its bytes goes from 0 to the
-- text's length, the pieces put together are the text. What is still to be handed over is the
-- buffer's front and the rest of the text. A line goes from the rest to the buffer, and a piece
-- that is handed over leaves the buffer empty.
use Prim.Native.Nat.{ℕ, ◌+◌, ◌≤◌}
use native.Mathlib.Omega.{arith}
use mathlib.Core.List.{List, [], ◌∷◌, ◌++◌, append-nil, append_assoc, flatten}
use mathlib.Core.Path.{◌≡◌, refl, sym, ◌∙◌, ap}
use lib.ListN.{length, take, drop, length-append, length-drop}
use lib.Seq.{sets-eq, length-take-le, take-length, take_at, take-add, drop_at, drop-drop}
use Rattle.lines.specs.Lines.{TextAt}
use Rattle.lines.proofs.TextsAt.{laid_long}
use Rattle.list.specs.Output.{NextPart}

-- ---- the pieces, put together

-- Pieces handed over one after the other, each as the contract of `hand_over` has it. The count
-- goes from `done` to `all`.
pub data Handed (text : List ℕ) : ℕ → List (List ℕ) → ℕ → Type 0 where
  nothing : {done : ℕ} → Handed text done [] done
  one : {done after all : ℕ} {piece : List ℕ} {pieces : List (List ℕ)}
      → NextPart text done piece
      → after ≡ done + length piece
      → Handed text after pieces all
      → Handed text done (piece ∷ pieces) all

handed_front : {text : List ℕ} {done all : ℕ} {pieces : List (List ℕ)}
    → Handed text done pieces all
    → take done text ++ flatten pieces ≡ take all text
unfolding flatten
handed_front {text} (nothing {done}) = append-nil (take done text)
handed_front {text} (one {done} {after} {piece = piece} {pieces} part e rest) =
    sym (append_assoc (take done text) piece (flatten pieces))
    ∙ ap (◌++ flatten pieces)
    (ap (take done text ++◌) part.same
    ∙ sym (take-add done (length piece) text)
    ∙ ap (λ (k : ℕ). take k text) (sym e))
    ∙ handed_front rest

-- if the count goes from 0 to the text's length, the pieces are the text
pub handed_all : {text : List ℕ} {pieces : List (List ℕ)} → Handed text 0 pieces (length text)
    → flatten pieces ≡ text
handed_all {text} p = handed_front p ∙ take-length text

-- ---- the buffer, and the rest of the text

-- after `done` bytes of the text come the first `end` bytes of the buffer, then the rest
pub record Waiting (text : List ℕ) (done : ℕ) (out : List ℕ) (end : ℕ) (rest : List ℕ)
    : Type 0 where
  pub begun : done ≤ length text
  pub inside : end ≤ length out
  pub parts : drop done text ≡ take end out ++ rest

pub waiting_none : (text out : List ℕ) {done : ℕ} → done ≡ 0 → Waiting text done out 0 text
waiting_none text out e =
    record {
      begun = omega arith;
      inside = omega arith;
      parts = ap (λ (k : ℕ). drop k text) e;
    }

-- the same by equal numbers
pub waiting_same : {text : List ℕ} {done : ℕ} {out : List ℕ} {end : ℕ} {rest : List ℕ}
    {done' end' : ℕ} → end' ≡ end → done' ≡ done → Waiting text done out end rest
    → Waiting text done' out end' rest
waiting_same p q w = rw (p, q) w

module _ {text : List ℕ} {done : ℕ} {out : List ℕ} {end : ℕ} {rest : List ℕ}
    (w : Waiting text done out end rest) where
  pub waiting_front : length (take end out) ≡ end
  waiting_front = length-take-le end out w.inside

  pub waiting_long : length text ≡ done + end + length rest
  waiting_long =
      omega (
        arith,
        w.begun,
        length-drop done text,
        ap length w.parts,
        length-append (take end out) rest,
        waiting_front,
      )

  -- the buffer's front is the next piece
  pub waiting_part : NextPart text done (take end out)
  waiting_part =
      record {
        within = omega (arith, waiting_long, waiting_front);
        same =
            sym (ap (take (length (take end out))) w.parts
            ∙ take_at (take end out) rest (length (take end out)) refl);
      }

  -- once it is handed over, the rest comes next
  pub waiting_handed : {r : ℕ} → r ≡ done + length (take end out) → Waiting text r out 0 rest
  waiting_handed {r} e =
      let moved : r ≡ done + end = omega (arith, waiting_front) in
      record {
        begun = omega (arith, waiting_long);
        inside = omega arith;
        parts =
            ap (λ (k : ℕ). drop k text) moved
            ∙ sym (drop-drop end done text)
            ∙ ap (drop end) w.parts
            ∙ drop_at (take end out) rest end waiting_front;
      }

  -- where nothing is left after it, it ends the text
  pub waiting_all : rest ≡ [] → done + length (take end out) ≡ length text
  waiting_all e = omega (arith, waiting_long, waiting_front, ap length e)

  -- a line is put into the buffer
  pub waiting_more : {line rest' : List ℕ} {end' : ℕ} {out' : List ℕ} → rest ≡ line ++ rest'
      → TextAt out end line end' out'
      → end' ≤ length out
      → Waiting text done out' end' rest'
  waiting_more {line} {rest'} {end'} {out'} e laid fits =
      record {
        begun = w.begun;
        inside = omega (arith, laid_long laid);
        parts =
            w.parts
            ∙ ap (take end out ++◌) e
            ∙ sym (append_assoc (take end out) line rest')
            ∙ ap (◌++ rest') (sym front);
      }
    where
      whole : length (take end out ++ line) ≡ end'
      whole = omega (arith, length-append (take end out) line, waiting_front, laid.ends)

      front : take end' out' ≡ take end out ++ line
      front =
          ap (take end') (laid.bytes ∙ sets-eq line out end (omega (arith, laid.ends)))
          ∙ take_at (take end out ++ line) (drop (end + length line) out) end' whole
