-- How many working numbers are 0. Where one that is 0 receives another number there is one less.
-- Where there is none left no number is 0, and else one is.
use Prim.Native.Nat.{ℕ, zero, suc, ◌+◌, ◌≤◌, ◌<◌}
use mathlib.Core.Path.{◌≡◌, refl, sym, ◌∙◌, ap}
use mathlib.Core.Logic.{◌≢◌}
use mathlib.Core.List.{List}
use native.Mathlib.Decide.{ℕ_discrete}
use native.Mathlib.Omega.{arith}
use lib.ListN.{length, get_or, set}
use lib.Seq.{get_or-set_same, get_or-set_other}
use borrow.Author.Tests.{eq-eqb, ne_eqb}
use Rattle.reaching.specs.Reaching.{Met, vacant}

-- ---- one number more

one_more : (work : List ℕ) (m : ℕ) → get_or work m 0 ≡ 0 → vacant work (suc m) ≡ vacant work m + 1
unfolding vacant
one_more work m z = rw (eq-eqb (get_or work m 0) 0 z)

no_more : (work : List ℕ) (m : ℕ) → Met work m → vacant work (suc m) ≡ vacant work m
unfolding vacant
no_more work m f = rw (ne_eqb (get_or work m 0) 0 f) (omega arith)

-- the same number on both sides
same_more : (work work' : List ℕ) (m k : ℕ) → get_or work m 0 ≡ get_or work' m 0
    → vacant work m ≡ vacant work' m + k
    → vacant work (suc m) ≡ vacant work' (suc m) + k
unfolding vacant
same_more work work' m k s e = rw s (omega arith)

-- ---- all numbers, and none

pub vacant_all : (work : List ℕ) (m : ℕ) → ((x : ℕ) → x < m → get_or work x 0 ≡ 0)
    → vacant work m ≡ m
unfolding vacant
vacant_all work zero z = refl
vacant_all work (suc m) z =
    let rest : vacant work m ≡ m = vacant_all work m (λ x b. z x (omega arith)) in
    omega (arith, one_more work m (z m (omega arith)))

pub vacant_none : (work : List ℕ) (m x : ℕ) → vacant work m ≡ 0 → x < m → Met work x
vacant_none work zero x e b z = absurd (omega arith)
vacant_none work (suc m) x e b z =
    go (ℕ_discrete (get_or work m 0) 0) (λ f c. vacant_none work m x f c z)
  where
    last : Dec (x ≡ m) → Met work m → (x < m → ⊥) → ⊥
    last (yes s) y rest = y (ap (λ (k : ℕ). get_or work k 0) (sym s) ∙ z)
    last (no s) y rest = rest (omega arith)

    go : Dec (get_or work m 0 ≡ 0) → (vacant work m ≡ 0 → x < m → ⊥) → ⊥
    go (yes y) rest = omega (arith, one_more work m y)
    go (no y) rest = last (ℕ_discrete x m) y (rest (sym (no_more work m y) ∙ e))

pub vacant_some : (work : List ℕ) (m : ℕ) → vacant work m ≢ 0
    → (x : ℕ) × (x < m) × (get_or work x 0 ≡ 0)
unfolding vacant
vacant_some work zero f = absurd (f refl)
vacant_some work (suc m) f = go (ℕ_discrete (get_or work m 0) 0) (vacant_some work m)
  where
    go : Dec (get_or work m 0 ≡ 0)
        → (vacant work m ≢ 0 → (x : ℕ) × (x < m) × (get_or work x 0 ≡ 0))
        → (x : ℕ) × (x < suc m) × (get_or work x 0 ≡ 0)
    go (yes y) rest = (m, omega arith, y)
    go (no y) rest =
        let (x, b, z) = rest (λ e. f (no_more work m y ∙ e)) in (x, omega arith, z)

-- ---- a number that is set

-- it is none of the first m
not_among : (work : List ℕ) (m c v : ℕ) → m ≤ c → vacant work m ≡ vacant (set work c v) m + 0
unfolding vacant
not_among work zero c v b = refl
not_among work (suc m) c v b =
    same_more work (set work c v) m 0 (sym (get_or-set_other work c m v 0 (λ w. omega arith)))
    (not_among work m c v (omega arith))

pub vacant_set : (work : List ℕ) (m c v : ℕ) → c < length work → get_or work c 0 ≡ 0 → v ≢ 0
    → c < m
    → vacant work m ≡ vacant (set work c v) m + 1
vacant_set work zero c v room z full b = absurd (omega arith)
vacant_set work (suc m) c v room z full b =
    go (ℕ_discrete c m) (λ d. vacant_set work m c v room z full d)
  where
    met : c ≡ m → Met (set work c v) m
    met s w =
        full (sym (get_or-set_same work c v 0 room)
        ∙ ap (λ (k : ℕ). get_or (set work c v) k 0) s
        ∙ w)

    go : Dec (c ≡ m) → (c < m → vacant work m ≡ vacant (set work c v) m + 1)
        → vacant work (suc m) ≡ vacant (set work c v) (suc m) + 1
    go (yes s) rest =
        let rest : vacant work m ≡ vacant (set work c v) m + 0 =
        not_among work m c v (omega arith) in
        omega (arith, one_more work m (rw s at z), no_more (set work c v) m (met s))
    go (no s) rest =
        same_more work (set work c v) m 1
        (sym (get_or-set_other work c m v 0 (λ w. s (sym w))))
        (rest (omega arith))
