-- The character at a place. Everything follows from the row of the table that it fits, and from
-- a rule of the whole table, which is one computed test: a row has at most four bytes, and a
-- first byte above 0 if it has more than one.
use mathlib.Core.Path.{◌≡◌, refl, sym, ap, ◌∙◌, subst}
use mathlib.Core.Logic.{◌≢◌, ⊎_elim}
use mathlib.Core.Bool.{Bool, true, false, ◌&&◌, ◌||◌}
use Prim.Native.Nat.{ℕ, zero, suc, ◌+◌, ◌^◌, ◌≤◌, ◌<◌}
use native.Mathlib.Nat.{add-zero, pow-suc, pow-le-pow_right, lt_of_lt_of_le, le_trans}
use native.Mathlib.Omega.{arith}
use mathlib.Core.List.{List, [], ◌∷◌}
use lib.Dec.{T, leb, ltb, leb→le, ltb→lt}
use lib.ListN.{length, get_or, take, drop}
use mir.Facts.{and_yes, or_yes}
use Rattle.field.specs.Field.{Bytes, field_at}
use Rattle.field.proofs.Field.{field_bound, same_part}
use Rattle.utf8.specs.Table37.{rows, in_range, in_ranges, fits_row, length_by, char_len}
use Rattle.utf8.specs.Text.{char_at}

pub length_fits : (row : List ℕ) (more : List (List ℕ)) (l : List ℕ) (at : ℕ) → fits_row row l at
    ≡ true → length_by (row ∷ more) l at ≡ get_or row 4 0
unfolding length_by
length_fits row more l at e = rw e

pub length_passes : (row : List ℕ) (more : List (List ℕ)) (l : List ℕ) (at : ℕ) → fits_row row l at
    ≡ false → length_by (row ∷ more) l at ≡ length_by more l at
unfolding length_by
length_passes row more l at e = rw e

-- the rule, for a row and for a table
abbrev ruled : List ℕ → Bool
ruled row = leb (get_or row 4 0) 4 && (leb (get_or row 4 0) 1 || ltb 0 (get_or row 0 0))

abbrev all_ruled : List (List ℕ) → Bool
all_ruled [] = true
all_ruled (row ∷ more) = ruled row && all_ruled more

-- what is known of n bytes from `at` on that are a character
pub record Character (l : List ℕ) (at n : ℕ) : Type 0 where
  pub some : 0 < n
  pub few : n ≤ 4
  pub whole : at + n ≤ length l
  pub first : 1 < n → 0 < get_or l at 0

first_byte : (row l : List ℕ) (at n : ℕ) → n ≢ 0 → T (in_ranges row l at 0 n) → get_or row 0 0
    ≤ get_or l at 0
unfolding in_ranges
first_byte row l at zero h t = absurd (h refl)
first_byte row l at (suc n) h t =
    let b : ℕ = get_or l (at + 0) 0 in
    let inner : T (in_range row 0 b) × T (in_ranges row l at 1 n) =
    and_yes (in_range row 0 b) (in_ranges row l at 1 n) t in
    let bounds : T (leb (get_or row 0 0) b) × T (leb b (get_or row 1 0)) =
    and_yes (leb (get_or row 0 0) b) (leb b (get_or row 1 0)) inner.0 in
    rw (← add-zero at) (leb→le (get_or row 0 0) b bounds.0)

of_row : (row l : List ℕ) (at : ℕ) → T (ruled row) → fits_row row l at ≡ true → get_or row 4 0 ≢ 0
    → Character l at (get_or row 4 0)
unfolding fits_row
of_row row l at t e h =
    let n : ℕ = get_or row 4 0 in
    let rule : T (leb n 4) × T (leb n 1 || ltb 0 (get_or row 0 0)) =
    and_yes (leb n 4) (leb n 1 || ltb 0 (get_or row 0 0)) t in
    let stands : T (leb (at + n) (length l)) × T (in_ranges row l at 0 n) =
    and_yes (leb (at + n) (length l)) (in_ranges row l at 0 n) (subst T (sym e) tt)
    in
    let low : get_or row 0 0 ≤ get_or l at 0 = first_byte row l at n h stands.1 in
    record {
      some = omega arith;
      few = leb→le n 4 rule.0;
      whole = leb→le (at + n) (length l) stands.0;
      first = λ g. ⊎_elim (λ x. omega (arith, leb→le n 1 x))
          (λ x. omega (arith, ltb→lt 0 (get_or row 0 0) x))
          (or_yes (leb n 1) (ltb 0 (get_or row 0 0)) rule.1);
    }

by_rows : (rs : List (List ℕ)) (l : List ℕ) (at : ℕ) → T (all_ruled rs) → length_by rs l at ≢ 0
    → Character l at (length_by rs l at)
unfolding length_by
by_rows [] l at t h = absurd (h refl)
by_rows (row ∷ more) l at t h = go (fits_row row l at) refl (by_rows more l at rules.1)
  where
    rules : T (ruled row) × T (all_ruled more)
    rules = and_yes (ruled row) (all_ruled more) t

    go : (b : Bool) → fits_row row l at ≡ b
        → (length_by more l at ≢ 0 → Character l at (length_by more l at))
        → Character l at (length_by (row ∷ more) l at)
    go true e next =
        let q : length_by (row ∷ more) l at ≡ get_or row 4 0 = length_fits row more l at e in
        subst (Character l at) (sym q) (of_row row l at rules.0 e (λ z. h (q ∙ z)))
    go false e next =
        let q : length_by (row ∷ more) l at
        ≡ length_by more l at = length_passes row more l at e in
        subst (Character l at) (sym q) (next (λ z. h (q ∙ z)))

pub character : (l : List ℕ) (at : ℕ) → char_len l at ≢ 0 → Character l at (char_len l at)
unfolding char_len
character l at h = by_rows rows l at tt h

pub char_len_few : (l : List ℕ) (at : ℕ) → char_len l at ≤ 4
char_len_few l at = go (char_len l at) refl
  where
    go : (n : ℕ) → char_len l at ≡ n → char_len l at ≤ 4
    go zero e = omega arith
    go (suc n) e = (character l at (omega arith)).few

pub char_at_lem : (l : List ℕ) (at n : ℕ) → n ≡ char_len l at → char_at l at ≡ field_at l at n
unfolding char_at
char_at_lem l at n e = ap (field_at l at) (sym e)

-- ---- characters with equal numbers are equal

-- a number of n + 1 bytes is at least 256 ^ n if the first byte is not 0
field_low : (l : List ℕ) (at n : ℕ) → 0 < get_or l at 0 → 256 ^ n ≤ field_at l at (suc n)
unfolding field_at
field_low l at zero h = rw (add-zero at) (omega arith)
field_low l at (suc n) h = rw (pow-suc 256 n) (omega (arith, field_low l at n h))

-- of two characters, the one with more bytes is the greater number
greater : (l m : List ℕ) (at bt n k : ℕ) → Bytes l → 0 < n → Character m bt k → n < k
    → field_at l at n < field_at m bt k
greater l m at bt n zero p h d less = omega arith
greater l m at bt n (suc k) p h d less =
    lt_of_lt_of_le (field_bound l at n p)
    (le_trans (pow-le-pow_right (omega arith) (omega arith))
    (field_low m bt k (d.first (omega arith))))

same : (l m : List ℕ) (at bt n k : ℕ) → Bytes l → Bytes m → Character l at n → Character m bt k
    → field_at l at n ≡ field_at m bt k → (n ≡ k) × (take n (drop at l) ≡ take k (drop bt m))
same l m at bt n k p q c d e =
    let less : ¬ (n < k) = λ h. omega (arith, greater l m at bt n k p c.some d h) in
    let more : ¬ (k < n) = λ h. omega (arith, greater m l bt at k n q d.some c h) in
    let w : n ≡ k = omega arith in (
      w,
      same_part l m at bt n p q c.whole (rw w d.whole) (e ∙ ap (field_at m bt) (sym w))
          ∙ ap (λ (j : ℕ). take j (drop bt m)) w,
    )

-- so two characters with one number have the same bytes
pub same_character : (l m : List ℕ) (at bt : ℕ) → Bytes l → Bytes m → char_len l at ≢ 0
    → char_len m bt ≢ 0 → char_at l at ≡ char_at m bt
    → (char_len l at ≡ char_len m bt)
    × (take (char_len l at) (drop at l) ≡ take (char_len m bt) (drop bt m))
same_character l m at bt p q h k e =
    same l m at bt (char_len l at) (char_len m bt) p q (character l at h) (character m bt k)
    (sym (char_at_lem l at _ refl) ∙ e ∙ char_at_lem m bt _ refl)
