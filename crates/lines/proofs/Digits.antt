-- The text of a number in decimal: one digit if it is below ten, otherwise the text of its tenth
-- and the last digit. A leading zero is never written, so steps that are left over change
-- nothing (`step_left`).
use mathlib.Core.Path.{◌≡◌, refl, sym, ap, ◌∙◌}
use Prim.Native.Nat.{ℕ, zero, suc, ◌+◌, ◌*◌, ◌/◌, ◌%◌, ◌^◌, ◌≤◌, ◌<◌}
use native.Mathlib.Nat.{zero-add, suc-add, pow-suc, pow-le-pow_right, mod-eq_of_lt, lt_of_lt_of_le}
use native.Mathlib.Numerals.{add-one}
use native.Mathlib.Omega.{arith}
use native.Mathlib.Decide.{dec_lt}
use mathlib.Core.List.{List, [], ◌∷◌, ◌++◌}
use borrow.Author.Tests.{lt-ltb, le-ltb}
use lib.ListN.{length, length-append}
use Rattle.lines.specs.Lines.{decimal_by, decimal}

-- the same last digit after the same text
with_last : {d e : List ℕ} (v : ℕ) → d ≡ e → d ++ ((48 + v % 10) ∷ []) ≡ e ++ ((48 + v % 10) ∷ [])
with_last v p = ap (λ (d : List ℕ). d ++ ((48 + v % 10) ∷ [])) p

-- ---- step by step

by_one : (n v : ℕ) → v < 10 → decimal_by n v ≡ (48 + v) ∷ []
unfolding decimal_by
by_one zero v h = refl
by_one (suc n) v h = rw (lt-ltb v 10 h)

by_more : (n v : ℕ) → 10 ≤ v → decimal_by (suc n) v ≡ decimal_by n (v / 10) ++ ((48 + v % 10) ∷ [])
unfolding decimal_by
by_more n v h = rw (le-ltb v 10 h)

tenth : (n v : ℕ) → v < 10 ^ suc (suc n) → v / 10 < 10 ^ suc n
tenth n v h = omega (arith, pow-suc 10 (suc n))

step_left : (n v : ℕ) → v < 10 ^ suc n → decimal_by (suc n) v ≡ decimal_by n v
step_left zero v h = by_one 1 v h ∙ sym (by_one 0 v h)
step_left (suc n) v h = go (dec_lt v 10) (step_left n (v / 10) (tenth n v h))
  where
    go : Dec (v < 10) → decimal_by (suc n) (v / 10) ≡ decimal_by n (v / 10)
        → decimal_by (suc (suc n)) v ≡ decimal_by (suc n) v
    go (yes s) e = by_one (suc (suc n)) v s ∙ sym (by_one (suc n) v s)
    go (no b) e = by_more (suc n) v (omega arith) ∙ with_last v e ∙ sym (by_more n v (omega arith))

steps_left : (k n v : ℕ) → v < 10 ^ suc n → decimal_by (k + n) v ≡ decimal_by n v
steps_left zero n v h = rw (zero-add n)
steps_left (suc k) n v h =
    rw (suc-add k n)
    (step_left (k + n) v (lt_of_lt_of_le h (pow-le-pow_right (omega arith) (omega arith)))
    ∙ steps_left k n v h)

-- ---- the whole number

pub decimal_one : (v : ℕ) → v < 10 → decimal v ≡ (48 + v) ∷ []
unfolding decimal
decimal_one v h = by_one 19 v h

pub decimal_more : (v : ℕ) → 10 ≤ v → v < 10 ^ 20 → decimal v ≡ decimal (v / 10)
    ++ ((48 + v % 10) ∷ [])
unfolding decimal
decimal_more v h b = by_more 18 v h ∙ with_last v (sym (step_left 18 (v / 10) (tenth 18 v b)))

pub decimal_two : (v : ℕ) → 10 ≤ v → v < 100 → decimal v ≡ (48 + v / 10) ∷ (48 + v % 10) ∷ []
decimal_two v h b =
    decimal_more v h (omega arith) ∙ with_last v (decimal_one (v / 10) (omega arith))

pub decimal_three : (v : ℕ) → 100 ≤ v → v < 1000 → decimal v ≡ (48 + v / 100) ∷ (48 + v / 10 % 10)
    ∷ (48 + v % 10) ∷ []
decimal_three v h b =
    let e : v / 10 / 10 ≡ v / 100 = omega arith in
    decimal_more v (omega arith) (omega arith)
    ∙ with_last v (decimal_two (v / 10) (omega arith) (omega arith))
    ∙ ap (λ (q : ℕ). (48 + q) ∷ (48 + v / 10 % 10) ∷ (48 + v % 10) ∷ []) e

-- ---- how long it is

long_by : (n v : ℕ) → length (decimal_by n v) ≤ suc n
unfolding decimal_by
long_by zero v = omega arith
long_by (suc n) v = go (dec_lt v 10) (long_by n (v / 10))
  where
    go : Dec (v < 10) → length (decimal_by n (v / 10)) ≤ suc n → length (decimal_by (suc n) v)
        ≤ suc (suc n)
    go (yes s) h = rw (by_one (suc n) v s) (omega arith)
    go (no b) h =
        rw (by_more n v (omega arith), length-append (decimal_by n (v / 10)) ((48 + v % 10) ∷ []))
        (omega arith)

pub decimal_long : (v : ℕ) → length (decimal v) ≤ 20
unfolding decimal
decimal_long v = long_by 19 v

pub letter_long : (v : ℕ) → v < 256 → length (decimal v) ≤ 3
unfolding decimal
letter_long v h = rw (steps_left 17 2 v (omega arith)) (long_by 2 v)

some_power : (k : ℕ) → 1 ≤ 10 ^ k
some_power zero = omega arith
some_power (suc k) = omega (arith, pow-suc 10 k, some_power k)

-- a number from 10 ^ k up to 10 ^ (k + 1) has k + 1 digits
pub digits_of_power : (k v : ℕ) → 10 ^ k ≤ v → v < 10 * 10 ^ k → v < 10 ^ 20
    → length (decimal v) ≡ k + 1
digits_of_power zero v low high b = ap length (decimal_one v (omega arith))
digits_of_power (suc k) v low high b =
    let p : 10 ^ suc k ≡ 10 ^ k * 10 = pow-suc 10 k in
    let rest = digits_of_power k (v / 10) (omega (arith, p)) (omega (arith, p)) (omega arith) in
    ap length (decimal_more v (omega (arith, p, some_power k)) b)
    ∙ length-append (decimal (v / 10)) ((48 + v % 10) ∷ []) ∙ omega (arith, rest)

-- ---- its digits in a width, the last first: how a loop from the end writes

-- the last w digits of a number
unfoldable pub figures : ℕ → ℕ → List ℕ
figures zero v = []
figures (suc w) v = figures w (v / 10) ++ ((48 + v % 10) ∷ [])

pub length_figures : (w v : ℕ) → length (figures w v) ≡ w
unfolding figures
length_figures zero v = refl
length_figures (suc w) v = length-append (figures w (v / 10)) ((48 + v % 10) ∷ [])
    ∙ omega (arith, length_figures w (v / 10))

figures_one : (n v : ℕ) → v < 10 → figures (length (decimal_by n v)) v ≡ decimal_by n v
unfolding figures
figures_one n v h = rw (by_one n v h) (ap (λ (d : ℕ). (48 + d) ∷ []) (mod-eq_of_lt h))

figures_more : (n v : ℕ) → 10 ≤ v → figures (length (decimal_by n (v / 10))) (v / 10)
    ≡ decimal_by n
    (v / 10)
    → figures (length (decimal_by (suc n) v)) v ≡ decimal_by (suc n) v
unfolding figures
figures_more n v h e =
    rw (
      by_more n v h,
      length-append (decimal_by n (v / 10)) ((48 + v % 10) ∷ []),
      add-one (length (decimal_by n (v / 10))),
    )
    (with_last v e)

figures_by : (n v : ℕ) → v < 10 ^ suc n → figures (length (decimal_by n v)) v ≡ decimal_by n v
figures_by zero v h = figures_one zero v h
figures_by (suc n) v h = go (dec_lt v 10) (figures_by n (v / 10) (tenth n v h))
  where
    go : Dec (v < 10)
        → figures (length (decimal_by n (v / 10))) (v / 10) ≡ decimal_by n (v / 10)
        → figures (length (decimal_by (suc n) v)) v ≡ decimal_by (suc n) v
    go (yes s) e = figures_one (suc n) v s
    go (no b) e = figures_more n v (omega arith) e

-- in as many digits as it has, the number is whole
pub figures_all : (v : ℕ) → v < 10 ^ 20 → figures (length (decimal v)) v ≡ decimal v
unfolding decimal
figures_all v h = figures_by 19 v h
