-- A number within two limits: the test holds exactly if both bounds hold.
use mathlib.Core.Path.{◌≡◌, refl}
use mathlib.Core.Bool.{Bool, true, false, ◌&&◌, false≢true}
use Prim.Native.Nat.{ℕ, ◌≤◌}
use borrow.Author.Tests.{leb-true, le-leb}
use lib.Dec.{leb}
use Rattle.field.specs.Range.{between}

pub both : (a b : Bool) → (a && b) ≡ true → (a ≡ true) × (b ≡ true)
both true b e = (refl, e)
both false b e = absurd (false≢true e)

pub between_true : (x low high : ℕ) → between x low high ≡ true → (low ≤ x) × (x ≤ high)
between_true x low high e =
    let t : (leb low x ≡ true) × (leb x high ≡ true) = both (leb low x) (leb x high) e in
    (leb-true low x t.0, leb-true x high t.1)

pub true_between : (x low high : ℕ) → low ≤ x → x ≤ high → between x low high ≡ true
true_between x low high p q = rw (le-leb low x p, le-leb x high q)
