-- What the loops keep. In a row, once the first bytes are in their ranges, only the later bytes
-- decide. In the table, once the first rows do not fit, only the later rows decide. Each loop
-- ends when nothing is left.
use mathlib.Core.Path.{◌≡◌, refl, ◌∙◌}
use mathlib.Core.Bool.{true, false, ◌&&◌}
use Prim.Native.Nat.{ℕ, zero, suc, ◌+◌, ◌-◌, ◌≤◌, ◌<◌}
use native.Mathlib.Nat.{sub-zero}
use native.Mathlib.Numerals.{add-one}
use native.Mathlib.Omega.{arith}
use mathlib.Core.List.{List, []}
use lib.ListN.{length, get_or, drop, drop_of_length-le}
use lib.Seq.{drop-cons}
use borrow.Author.Tests.{le-leb, lt-leb}
use Rattle.utf8.specs.Table37.{in_range, in_ranges, fits_row, length_by}
use Rattle.utf8.proofs.Characters.{length_fits, length_passes}

-- ---- a row

pub third_byte : (row : List ℕ) (i b : ℕ) → (i ≡ 0 → ⊥) → (i ≡ 1 → ⊥) → in_range row i b
    ≡ in_range row 2 b
unfolding in_range
third_byte row zero b h k = absurd (h refl)
third_byte row (suc zero) b h k = absurd (k refl)
third_byte row (suc (suc i)) b h k = refl

-- the test of all n bytes is the test of those from byte i on: the first i are in their ranges
pub record Testing (row l : List ℕ) (at n i : ℕ) : Type 0 where
  pub within : i ≤ n
  pub tests : in_ranges row l at 0 n ≡ in_ranges row l at i (n - i)

pub testing_none : (row l : List ℕ) (at n : ℕ) → Testing row l at n 0
testing_none row l at n = record { within = omega arith; tests = rw (sub-zero n) refl }

next : (row l : List ℕ) (at n i : ℕ) → i < n → in_ranges row l at i (n - i)
    ≡ (in_range row i (get_or l (at + i) 0) && in_ranges row l at (i + 1) (n - (i + 1)))
unfolding in_ranges
next row l at n i h = let e : n - i ≡ suc (n - (i + 1)) = omega arith in rw (e, add-one i)

module _ {row l : List ℕ} {at n i : ℕ} (p : Testing row l at n i) where
  pub testing_more : i < n → in_range row i (get_or l (at + i) 0) ≡ true
      → Testing row l at n (i + 1)
  testing_more h e = record { within = omega arith; tests = p.tests ∙ next row l at n i h ∙ rw e }

  pub testing_fails : i < n → in_range row i (get_or l (at + i) 0) ≡ false → in_ranges row l at 0 n
      ≡ false
  testing_fails h e = p.tests ∙ next row l at n i h ∙ rw e

  pub testing_all : n ≤ i → in_ranges row l at 0 n ≡ true
  unfolding in_ranges
  testing_all h = let e : n - i ≡ 0 = omega arith in p.tests ∙ rw e

pub fits_not : (row l : List ℕ) (at : ℕ) → length l < at + get_or row 4 0 → fits_row row l at
    ≡ false
unfolding fits_row
fits_not row l at h = rw (lt-leb (at + get_or row 4 0) (length l) h)

pub fits_if : (row l : List ℕ) (at : ℕ) → at + get_or row 4 0 ≤ length l → fits_row row l at
    ≡ in_ranges row l at 0 (get_or row 4 0)
unfolding fits_row
fits_if row l at h = rw (le-leb (at + get_or row 4 0) (length l) h)

-- ---- a table

-- the whole table answers as its rows from row i on: no row before row i fits
pub record Consulting (rs : List (List ℕ)) (l : List ℕ) (at i : ℕ) : Type 0 where
  pub within : i ≤ length rs
  pub rest : length_by rs l at ≡ length_by (drop i rs) l at

pub consulting_none : (rs : List (List ℕ)) (l : List ℕ) (at : ℕ) → Consulting rs l at 0
consulting_none rs l at = record { within = omega arith; rest = refl }

module _ {rs : List (List ℕ)} {l : List ℕ} {at i : ℕ} (p : Consulting rs l at i) where
  pub consulting_more : i < length rs → fits_row (get_or rs i []) l at ≡ false
      → Consulting rs l at (i + 1)
  consulting_more h e =
      record {
        within = omega arith;
        rest = p.rest ∙ rw (drop-cons rs i [] h, add-one i)
            (length_passes (get_or rs i []) (drop (suc i) rs) l at e);
      }

  pub consulting_fits : i < length rs → fits_row (get_or rs i []) l at ≡ true → length_by rs l at
      ≡ get_or (get_or rs i []) 4 0
  consulting_fits h e =
      p.rest ∙ rw (drop-cons rs i [] h) (length_fits (get_or rs i []) (drop (suc i) rs) l at e)

  pub consulting_all : length rs ≤ i → length_by rs l at ≡ 0
  unfolding length_by
  consulting_all h = p.rest ∙ rw (drop_of_length-le rs h)
