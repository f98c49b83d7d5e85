-- What the loops keep. In `number`, what is left is still to be written, in the width that is left
-- (`sets_last`). In `letters`, the letters so far are written, and each turn joins one more.
use mathlib.Core.Path.{◌≡◌, refl, sym, ap, ◌∙◌}
use Prim.Native.Nat.{ℕ, zero, suc, ◌+◌, ◌-◌, ◌*◌, ◌/◌, ◌%◌, ◌^◌, ◌≤◌, ◌<◌}
use native.Mathlib.Nat.{not-suc-le-zero}
use native.Mathlib.Numerals.{add-one, sub-one}
use native.Mathlib.Omega.{arith}
use mathlib.Core.List.{List, ◌∷◌, ◌++◌}
use lib.ListN.{length, get_or, set, take, drop, length-set, length-take}
use lib.ListN.{length-drop}
use lib.Seq.{sets, take-suc, take_all}
use Rattle.field.specs.Field.{Bytes}
use Rattle.field.proofs.Bytes.{bytes_take, bytes_drop}
use Rattle.lines.specs.Lines.{decimal, dotted, key_text, TextAt}
use Rattle.lines.proofs.Digits.{letter_long}
use Rattle.lines.proofs.Digits.{figures, length_figures, figures_all}
use Rattle.lines.proofs.TextsAt.{laid_long, laid_as, laid_one, laid_join, sets_last}
use Rattle.lines.proofs.LineTexts.{dotted_more, dotted_long, key_parts}

-- `number`: x is what is left of the number and i what is left of the width; writing x into s
-- gives what writing v into l gives
pub record Filling (l : List ℕ) (at v : ℕ) (s : List ℕ) (x i : ℕ) : Type 0 where
  pub within : i ≤ length (decimal v)
  pub long : length s ≡ length l
  pub left : sets s at (figures i x) ≡ sets l at (decimal v)

pub filling_none : (l : List ℕ) (at v : ℕ) {i : ℕ} → i ≡ length (decimal v) → v < 2 ^ 64
    → Filling l at v l v i
filling_none l at v e b =
    record {
      within = omega arith;
      long = refl;
      left = ap (λ (w : ℕ). sets l at (figures w v)) e ∙ ap (λ (d : List ℕ). sets l at d)
          (figures_all v (omega arith));
    }

pub filling_more : {l : List ℕ} {at v : ℕ} {s : List ℕ} {x i : ℕ}
    → Filling l at v s x i
    → 0 < i
    → Filling l at v (set s (at + (i - 1)) (48 + x % 10)) (x / 10) (i - 1)
unfolding figures
filling_more {i = zero} p h = absurd (not-suc-le-zero h)
filling_more {at} {s} {x} {i = suc i} p h =
    rw (sub-one (suc i))
    (record {
      within = omega (arith, p.within);
      long = length-set s (at + i) (48 + x % 10) ∙ p.long;
      left =
          ap (λ (k : ℕ). sets (set s (at + k) (48 + x % 10)) at (figures i (x / 10)))
          (sym (length_figures i (x / 10)))
          ∙ sym (sets_last s (figures i (x / 10)) at (48 + x % 10))
          ∙ p.left;
    })

pub filling_all : {l : List ℕ} {at v : ℕ} {s : List ℕ} {x i : ℕ} → Filling l at v s x i → i ≤ 0
    → s ≡ sets l at (decimal v)
unfolding figures
filling_all {i = zero} p h = p.left
filling_all {i = suc i} p h = absurd (not-suc-le-zero h)

-- `letters`: the letters after the first are written from `start` on, each after a dot
abbrev pub others : List ℕ → List ℕ
others key = take (length key - 1) (drop 1 key)

others_all : (key : List ℕ) → others key ≡ drop 1 key
others_all key = take_all (length key - 1) (drop 1 key) (omega (arith, length-drop 1 key))

pub spelling_more : (letters : List ℕ) {l : List ℕ} {start : ℕ} {s : List ℕ} {end i : ℕ}
    {s' : List ℕ} {end' : ℕ}
    → TextAt l start (dotted (take i letters)) end s
    → i < length letters
    → TextAt (set s end 46) (end + 1) (decimal (get_or letters i 0)) end' s'
    → TextAt l start (dotted (take (i + 1) letters)) end' s'
spelling_more letters {s} {end} {i} p h q =
    let e : dotted (take i letters) ++ (46 ∷ decimal (get_or letters i 0))
    ≡ dotted (take (i + 1) letters) =
    sym (dotted_more (take i letters) (get_or letters i 0))
    ∙ ap dotted (sym (take-suc letters i 0 h))
    ∙ ap (λ (k : ℕ). dotted (take k letters)) (sym (add-one i)) in
    laid_as e (laid_join p (laid_join (laid_one s end 46 refl) q))

module _ (key : List ℕ) {l' : List ℕ} {at : ℕ} {l : List ℕ} {start : ℕ} {s : List ℕ} {end i : ℕ}
    (first : TextAt l' at (decimal (get_or key 0 0)) start l)
    (p : TextAt l start (dotted (take i (others key))) end s) where
  -- there is room for a dot and one more letter
  pub spelling_room : Bytes key → i < length (others key) → at + (length key * 4 + 1) ≤ length l'
      → end + 4 ≤ length s
  spelling_room b h f =
      omega (
        arith,
        length-take i (others key),
        length-take (length key - 1) (drop 1 key),
        length-drop 1 key,
        p.ends,
        first.ends,
        laid_long first,
        laid_long p,
        letter_long (get_or key 0 0) (b 0),
        dotted_long (take i (others key))
            (bytes_take i (others key)
            (bytes_take (length key - 1) (drop 1 key) (bytes_drop 1 key b))),
      )

  pub spelling_all : 0 < length key → length (others key) ≤ i → TextAt l' at (key_text key) end s
  spelling_all some h =
      laid_as
      (ap (λ (k : List ℕ). decimal (get_or key 0 0) ++ dotted k)
      (take_all i (others key) h ∙ others_all key)
      ∙ sym (key_parts key some))
      (laid_join first p)
