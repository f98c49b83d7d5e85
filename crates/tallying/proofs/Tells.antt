-- What a working number tells of how many links hold its address: 0 of no link, a mark of one
-- link, 67 of more. So it tells the same once it is set for one more link.
use mathlib.Core.Path.{◌≡◌, refl}
use mathlib.Core.Logic.{◌≢◌}
use Prim.Native.Nat.{ℕ, ◌+◌, ◌≤◌}
use native.Mathlib.Decide.{ℕ_discrete, dec_le}
use native.Mathlib.Omega.{arith}
use lib.Dec.{eqb, leb}
use borrow.Author.Tests.{eq-eqb, ne_eqb, le-leb, lt-leb}
use Rattle.reaching.specs.Reaching.{deepest}
use Rattle.tallying.specs.Tallied.{again, Tells}

-- ---- one link more

-- no link was counted
pub tells_start : Tells 0 0
tells_start =
    record { none = λ e. refl; one = λ e. absurd (omega arith); more = λ e. absurd (omega arith) }

module _ {m v : ℕ} (t : Tells m v) where
  -- 0 tells that there is none
  told_none : v ≡ 0 → m ≡ 0
  told_none z = go (ℕ_discrete m 0) (ℕ_discrete m 1)
    where
      go : Dec (m ≡ 0) → Dec (m ≡ 1) → m ≡ 0
      go (yes e) d = e
      go (no e) (yes d) = absurd (omega (arith, (t.one d).0))
      go (no e) (no d) = absurd (omega (arith, t.more (omega arith)))

  -- the first link: the number receives a mark
  pub tells_first : {mark : ℕ} → v ≡ 0 → 1 ≤ mark → mark ≤ deepest → Tells (m + 1) mark
  tells_first z low high =
      let e : m ≡ 0 = told_none z in
      record {
        none = λ f. absurd (omega arith);
        one = λ f. (low, high);
        more = λ f. absurd (omega arith);
      }

  -- one link more
  pub tells_more : v ≢ 0 → Tells (m + 1) again
  tells_more f =
      record {
        none = λ e. absurd (omega arith);
        one = λ e. let z : m ≡ 0 = omega arith in absurd (f (t.none z));
        more = λ e. refl;
      }

  -- ---- what is read off the number

  pub tells_none : eqb v 0 ≡ eqb m 0
  tells_none = go (ℕ_discrete m 0)
    where
      go : Dec (m ≡ 0) → eqb v 0 ≡ eqb m 0
      go (yes e) = rw (t.none e, e)
      go (no e) = rw (ne_eqb m 0 e, ne_eqb v 0 (λ z. e (told_none z)))

  pub tells_again : eqb v again ≡ leb 2 m
  tells_again = go (dec_le 2 m) (ℕ_discrete m 0)
    where
      go : Dec (2 ≤ m) → Dec (m ≡ 0) → eqb v again ≡ leb 2 m
      go (yes b) d = rw (le-leb 2 m b, eq-eqb v again (t.more b))
      go (no b) (yes e) =
          rw (lt-leb 2 m (omega arith), ne_eqb v again (λ z. omega (arith, t.none e)))
      go (no b) (no e) =
          let d : m ≡ 1 = omega arith in
          rw (lt-leb 2 m (omega arith), ne_eqb v again (λ z. omega (arith, (t.one d).1)))
