-- Sums of numbers, part by part. How often an address stands in the links of a node, and in
-- those of all nodes, are such sums. A sum is at least each of its parts, and at least any two
-- of them together. If it is above 0, one of its parts is.
use Prim.Native.Nat.{ℕ, zero, suc, ◌+◌, ◌-◌, ◌≤◌, ◌<◌}
use mathlib.Core.Path.{◌≡◌}
use mathlib.Core.Logic.{◌≢◌}
use native.Mathlib.Omega.{arith}
use native.Mathlib.Nat.{add-zero, add-suc}
use native.Mathlib.Decide.{dec_le, dec_lt}

-- s k is the sum of the first k parts
pub record Sums (s part : ℕ → ℕ) : Type 0 where
  pub start : s 0 ≡ 0
  pub more : (k : ℕ) → s (suc k) ≡ s k + part k

module _ {s part : ℕ → ℕ} (sums : Sums s part) where
  grows : (j d : ℕ) → s j ≤ s (j + d)
  grows j zero = rw (add-zero j) (omega arith)
  grows j (suc d) = rw (add-suc j d) (omega (arith, grows j d, sums.more (j + d)))

  -- the sum of k parts has part i on top of the sum of the first i
  after : (i k : ℕ) → i < k → s i + part i ≤ s k
  after i k h =
      let e : suc i + (k - suc i) ≡ k = omega arith in
      omega (arith, rw e at (grows (suc i) (k - suc i)), sums.more i)

  pub one_part : {i k : ℕ} → i < k → part i ≤ s k
  one_part {i} {k} h = omega (arith, after i k h)

  pub two_parts : {i j k : ℕ} → i < k → j < k → i ≢ j → part i + part j ≤ s k
  two_parts {i} {j} {k} a b d = go (dec_lt i j)
    where
      go : Dec (i < j) → part i + part j ≤ s k
      go (yes h) = omega (arith, after i j h, after j k b)
      go (no h) = omega (arith, after j i (omega arith), after i k a)

  pub some_part : (k : ℕ) → 1 ≤ s k → (i : ℕ) × (i < k) × (1 ≤ part i)
  some_part zero h = absurd (omega (arith, sums.start))
  some_part (suc k) h = go (dec_le 1 (part k)) (λ b. some_part k b)
    where
      go : Dec (1 ≤ part k) → (1 ≤ s k → (i : ℕ) × (i < k) × (1 ≤ part i)) → (i : ℕ) × (i < suc k)
          × (1 ≤ part i)
      go (yes h) on = (k, omega arith, h)
      go (no b) on = let (i, u, v) = on (omega (arith, sums.more k)) in (i, omega arith, v)

  -- if no part is above 1 and no two parts are above 0, the sum is at most 1
  pub one_at_most : (k : ℕ) → ((i : ℕ) → part i ≤ 1)
      → ((i j : ℕ) → 1 ≤ part i → 1 ≤ part j → i ≡ j) → s k ≤ 1
  one_at_most zero small same = omega (arith, sums.start)
  one_at_most (suc k) small same = go (dec_le 1 (part k)) (one_at_most k small same)
    where
      go : Dec (1 ≤ part k) → s k ≤ 1 → s (suc k) ≤ 1
      go (no h) b = omega (arith, sums.more k)
      go (yes h) b = first (dec_le 1 (s k))
        where
          first : Dec (1 ≤ s k) → s (suc k) ≤ 1
          first (yes f) = let (i, u, v) = some_part k f in absurd (omega (arith, same i k v h))
          first (no f) = omega (arith, sums.more k, small k)
