-- The lowest number that passes a test, determined by which numbers pass. Each law goes up from
-- the first number: if it passes, it is the lowest; otherwise the rest is searched. At the end,
-- whether there is one at all.
use Prim.Native.Nat.{ℕ, zero, suc, ◌+◌, ◌≤◌, ◌<◌}
use mathlib.Core.Path.{◌≡◌, refl, sym, ap, ◌∙◌}
use mathlib.Core.Bool.{Bool, true, false, ◌||◌, or-true, false≢true}
use native.Mathlib.Omega.{arith}
use native.Mathlib.Decide.{ℕ_discrete, dec_le}
use Rattle.trie.specs.Lowest.{lowest, any_below}

module _ (p : ℕ → Bool) where
  -- none of the k numbers from a on passes
  abbrev pub NonePasses : ℕ → ℕ → Type 0
  NonePasses a k = (y : ℕ) → a ≤ y → y < a + k → p y ≡ false

  lowest_here : (a k : ℕ) → p a ≡ true → lowest p a (suc k) ≡ a
  unfolding lowest
  lowest_here a k e = rw e

  lowest_on : (a k : ℕ) → p a ≡ false → lowest p a (suc k) ≡ lowest p (suc a) k
  unfolding lowest
  lowest_on a k e = rw e

  -- the lowest is not below the first
  pub lowest_least : (a k : ℕ) → a ≤ lowest p a k
  unfolding lowest
  lowest_least a zero = omega arith
  lowest_least a (suc k) = go (p a) refl (lowest_least (suc a) k)
    where
      go : (b : Bool) → p a ≡ b → suc a ≤ lowest p (suc a) k → a ≤ lowest p a (suc k)
      go true e on = omega (arith, lowest_here a k e)
      go false e on = omega (arith, lowest_on a k e)

  pub lowest_none : (a k : ℕ) → NonePasses a k → lowest p a k ≡ a + k
  unfolding lowest
  lowest_none a zero none = omega arith
  lowest_none a (suc k) none =
      let e : suc a + k ≡ a + suc k = omega arith in
      lowest_on a k (none a (omega arith) (omega arith)) ∙ lowest_none (suc a) k
      (λ y l h. none y (omega arith) (omega arith)) ∙ e

  -- a number that passes is the lowest if none before it passes
  pub lowest_at : (a k y : ℕ) → a ≤ y → y < a + k → p y ≡ true
      → ((z : ℕ) → a ≤ z → z < y → p z ≡ false) → lowest p a k ≡ y
  lowest_at a zero y low high e none = absurd (omega arith)
  lowest_at a (suc k) y low high e none =
      go (ℕ_discrete a y) (λ b. lowest_at (suc a) k y b (omega arith) e
      (λ z c d. none z (omega arith) d))
    where
      go : Dec (a ≡ y) → (suc a ≤ y → lowest p (suc a) k ≡ y) → lowest p a (suc k) ≡ y
      go (yes s) on = lowest_here a k (rw s e) ∙ s
      go (no d) on = lowest_on a k (none a (omega arith) (omega arith)) ∙ on (omega arith)

  -- if the search finds none, none passes
  pub none_lowest : (a k : ℕ) → a + k ≤ lowest p a k → NonePasses a k
  none_lowest a zero h y low high = absurd (omega arith)
  none_lowest a (suc k) h y low high = go (p a) refl (λ e. none_lowest (suc a) k e y)
    where
      go : (b : Bool) → p a ≡ b → (suc a + k ≤ lowest p (suc a) k → suc a ≤ y → y < suc a + k
          → p y ≡ false) → p y ≡ false
      go true e on = absurd (omega (arith, lowest_here a k e))
      go false e on = at (ℕ_discrete a y)
        where
          at : Dec (a ≡ y) → p y ≡ false
          at (yes s) = rw (← s) e
          at (no d) = on (omega (arith, lowest_on a k e)) (omega arith) (omega arith)

-- the lowest number that passes, where there is one: it passes, and none before it does
pub lowest_found : (p : ℕ → Bool) (a k : ℕ) → lowest p a k < a + k
    → (p (lowest p a k) ≡ true) × ((y : ℕ) → a ≤ y → y < lowest p a k → p y ≡ false)
unfolding lowest
lowest_found p a zero h = absurd (omega arith)
lowest_found p a (suc k) h = go (p a) refl (lowest_found p (suc a) k)
  where
    go : (b : Bool) → p a ≡ b
        → (lowest p (suc a) k < suc a + k
        → (p (lowest p (suc a) k) ≡ true)
        × ((y : ℕ) → suc a ≤ y → y < lowest p (suc a) k → p y ≡ false))
        → (p (lowest p a (suc k)) ≡ true)
        × ((y : ℕ) → a ≤ y → y < lowest p a (suc k) → p y ≡ false)
    go true e below =
        let here : lowest p a (suc k) ≡ a = rw e in
        (ap p here ∙ e, λ y low high. absurd (omega arith))
    go false e below =
        let on : lowest p a (suc k) ≡ lowest p (suc a) k = rw e in
        let f = below (omega arith) in
        (ap p on ∙ f.0, λ y low high. before y (dec_le (suc a) y) low (omega arith) (f.1 y))
      where
        before : (y : ℕ) → Dec (suc a ≤ y) → a ≤ y → y < lowest p (suc a) k
            → (suc a ≤ y → y < lowest p (suc a) k → p y ≡ false)
            → p y ≡ false
        before y (yes b) low high f = f b high
        before y (no b) low high f = let same : y ≡ a = omega arith in ap p same ∙ e

-- ---- whether one of the numbers below m passes

module _ (p : ℕ → Bool) where
  pub any_found : (m : ℕ) → any_below p m ≡ true → (i : ℕ) × (i < m) × (p i ≡ true)
  unfolding any_below
  any_found zero e = absurd (false≢true e)
  any_found (suc m) e = go (any_below p m) refl (any_found m) e
    where
      go : (b : Bool) → any_below p m ≡ b
          → (any_below p m ≡ true → (i : ℕ) × (i < m) × (p i ≡ true))
          → (b || p m) ≡ true
          → (i : ℕ) × (i < suc m) × (p i ≡ true)
      go true f below e = let (i, b, h) = below f in (i, omega arith, h)
      go false f below e = (m, omega arith, e)

  pub any_here : (m : ℕ) {i : ℕ} → i < m → p i ≡ true → any_below p m ≡ true
  unfolding any_below
  any_here zero h e = absurd (omega arith)
  any_here (suc m) {i} h e = go (ℕ_discrete i m) (λ b. any_here m b e)
    where
      go : Dec (i ≡ m) → (i < m → any_below p m ≡ true) → (any_below p m || p m) ≡ true
      go (yes s) on = let f : p m ≡ true = rw (← s) e in rw f (or-true (any_below p m))
      go (no d) on = rw (on (omega arith))

  pub any_none : (m : ℕ) → ((i : ℕ) → i < m → p i ≡ false) → any_below p m ≡ false
  unfolding any_below
  any_none zero none = refl
  any_none (suc m) none = rw (any_none m (λ i h. none i (omega arith)), none m (omega arith))

  pub none_any : (m : ℕ) → any_below p m ≡ false → (i : ℕ) → i < m → p i ≡ false
  none_any m e i h = go (p i) refl
    where
      go : (b : Bool) → p i ≡ b → b ≡ false
      go true f = sym (any_here m h f) ∙ e
      go false f = refl
