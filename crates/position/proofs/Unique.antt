-- 01, "Where the written promises must bite", for the calls of Ask 7: "any pair of outcomes
-- allowed by it is equal". The law is that of crate `paper`.
use Prim.Native.Nat.{ℕ}
use mathlib.Core.Path.{◌≡◌}
use mathlib.Core.List.{List}
use Rattle.paper.specs.Hearing.{Numbers}
use Rattle.paper.specs.Given.{Given}
use Rattle.paper.proofs.Unique.{Told, one_outcome, one, two, three}
use Rattle.position.specs.Promises.{WorksOut, ChecksCounts, StoresCounts, GivesKey}
use Rattle.position.specs.Promises.{GivesPosition}

module _ {R : Type 0} {numbers_of : R → Numbers} (told : Told R numbers_of) {r s : R} where
  pub works_out_once : (l work counts : List ℕ) {v w i j : List ℕ}
      → WorksOut l work counts (numbers_of r) v i → WorksOut l work counts (numbers_of s) w j
      → (r ≡ s) × ((v ≡ w) × (i ≡ j))
  works_out_once l work counts p q = let u = one_outcome told r s _ _ _ p q in (u.0, two u.1)

  pub checks_counts_once : (l work counts : List ℕ) {v w : List ℕ} → ChecksCounts l work counts
      (numbers_of r) v
      → ChecksCounts l work counts (numbers_of s) w → (r ≡ s) × (v ≡ w)
  checks_counts_once l work counts p q =
      let u = one_outcome told r s _ _ _ p q in (u.0, one u.1)

  pub stores_counts_once : (l work : List ℕ) (given : Given) (value : ℕ) (counts : List ℕ)
      {i j v w m n : List ℕ}
      → StoresCounts l work given value counts (numbers_of r) i v m
      → StoresCounts l work given value counts (numbers_of s) j w n
      → (r ≡ s) × ((i ≡ j) × ((v ≡ w) × (m ≡ n)))
  stores_counts_once l work given value counts p q =
      let u = one_outcome told r s _ _ _ p q in (u.0, three u.1)

  pub gives_key_once : (l work counts : List ℕ) (position : ℕ) (buffer : List ℕ) {v w i j : List ℕ}
      → GivesKey l work counts position buffer (numbers_of r) v i
      → GivesKey l work counts position buffer (numbers_of s) w j → (r ≡ s) × ((v ≡ w) × (i ≡ j))
  gives_key_once l work counts position buffer p q =
      let u = one_outcome told r s _ _ _ p q in (u.0, two u.1)

  pub gives_position_once : (l work counts : List ℕ) (given : Given) {v w : List ℕ}
      → GivesPosition l work counts given (numbers_of r) v
      → GivesPosition l work counts given (numbers_of s) w → (r ≡ s) × (v ≡ w)
  gives_position_once l work counts given p q =
      let u = one_outcome told r s _ _ _ p q in (u.0, one u.1)
