-- 01's order of keys is strict and total. Keys with the same first letter are ordered by what
-- follows it, others by their first letter (`before_cases`). Each law follows from that, letter
-- by letter.
use Prim.Native.Nat.{ℕ, ◌<◌, ◌≤◌}
use native.Mathlib.Omega.{arith}
use mathlib.Core.Bool.{Bool, true, false, not, true≢false}
use mathlib.Core.List.{List, [], ◌∷◌, ◌++◌}
use mathlib.Core.Logic.{◌↔◌, ◌≢◌, ◌⊎◌, inl, inr}
use mathlib.Core.Path.{◌≡◌, refl, sym, ◌∙◌, ap, ap₂}
use lib.Dec.{eqb}
use borrow.Author.Tests.{eqb-true, eqb-false, ltb-true, ltb-false, lt-ltb, eq-eqb, ne_eqb}
use borrow.Author.Tests.{not-true}
use Rattle.trie.specs.Keys.{before, meets}

-- keys with the same first letter are ordered by what follows it
pub before_cons : (i : ℕ) (k m : List ℕ) → before (i ∷ k) (i ∷ m) ≡ before k m
unfolding before
before_cons i k m = rw (eq-eqb i i refl)

pub before_lower : (x y : ℕ) (k m : List ℕ) → x < y → before (x ∷ k) (y ∷ m) ≡ true
unfolding before
before_lower x y k m h = let ne : x ≡ y → ⊥ = λ e. omega arith in rw (ne_eqb x y ne) (lt-ltb x y h)

-- what decides between two keys that are not empty
pub before_cases : (x y : ℕ) (k m : List ℕ) → before (x ∷ k) (y ∷ m) ≡ true
    → (x < y) ⊎ ((x ≡ y) × (before k m ≡ true))
unfolding before
before_cases x y k m h = go (eqb x y) refl
  where
    go : (b : Bool) → eqb x y ≡ b → (x < y) ⊎ ((x ≡ y) × (before k m ≡ true))
    go true e = inr (eqb-true x y e, rw e at h)
    go false e = inl (ltb-true x y (rw e at h))

pub before_irrefl : (k : List ℕ) → before k k ≡ false
unfolding before
before_irrefl [] = refl
before_irrefl (x ∷ k) = before_cons x k k ∙ before_irrefl k

pub before_apart : (k m : List ℕ) → before k m ≡ true → k ≢ m
before_apart k m h e = true≢false (sym h ∙ ap (before k) (sym e) ∙ before_irrefl k)

pub before_trans : (k m l : List ℕ) → before k m ≡ true → before m l ≡ true → before k l ≡ true
unfolding before
before_trans [] [] l h g = absurd (true≢false (sym h))
before_trans [] (y ∷ m) [] h g = absurd (true≢false (sym g))
before_trans [] (y ∷ m) (z ∷ l) h g = refl
before_trans (x ∷ k) [] l h g = absurd (true≢false (sym h))
before_trans (x ∷ k) (y ∷ m) [] h g = absurd (true≢false (sym g))
before_trans (x ∷ k) (y ∷ m) (z ∷ l) h g =
    go (before_trans k m l) (before_cases x y k m h) (before_cases y z m l g)
  where
    go : (before k m ≡ true → before m l ≡ true → before k l ≡ true)
        → (x < y) ⊎ ((x ≡ y) × (before k m ≡ true))
        → (y < z) ⊎ ((y ≡ z) × (before m l ≡ true))
        → before (x ∷ k) (z ∷ l) ≡ true
    go on (inl a) (inl b) = before_lower x z k l (omega arith)
    go on (inl a) (inr b) = before_lower x z k l (omega arith)
    go on (inr a) (inl b) = before_lower x z k l (omega arith)
    go on (inr a) (inr b) = rw (eq-eqb x z (a.0 ∙ b.0)) (on a.1 b.1)

pub before_asym : (k m : List ℕ) → before k m ≡ true → before m k ≡ false
before_asym k m h = go (before m k) refl
  where
    go : (b : Bool) → before m k ≡ b → before m k ≡ false
    go true e = absurd (before_apart k k (before_trans k m k h e) refl)
    go false e = e

pub before_total : (k m : List ℕ) → before k m ≡ false → before m k ≡ false → k ≡ m
unfolding before
before_total [] [] h g = refl
before_total [] (y ∷ m) h g = absurd (true≢false h)
before_total (x ∷ k) [] h g = absurd (true≢false g)
before_total (x ∷ k) (y ∷ m) h g = go (before_total k m) (eqb x y) refl
  where
    go : (before k m ≡ false → before m k ≡ false → k ≡ m) → (b : Bool) → eqb x y ≡ b
        → x ∷ k ≡ y ∷ m
    go on true e =
        let same : x ≡ y = eqb-true x y e in
        ap₂ ◌∷◌ same (on (rw e at h) (rw (eq-eqb y x (sym same)) at g))
    go on false e =
        let ne : y ≡ x → ⊥ = λ f. eqb-false x y e (sym f) in
        let low : y ≤ x = ltb-false x y (rw e at h) in
        let high : x ≤ y = ltb-false y x (rw (ne_eqb y x ne) at g) in
        absurd (eqb-false x y e (omega arith))

-- "a key comes before its extensions"
pub before_extension : (k : List ℕ) (x : ℕ) (m : List ℕ) → before k (k ++ x ∷ m) ≡ true
unfolding before
before_extension [] x m = refl
before_extension (y ∷ k) x m = before_cons y k (k ++ x ∷ m) ∙ before_extension k x m

-- a key is after another exactly if it is at or after it, and is not the same key
pub meets_after : (given k : List ℕ) → (meets true given k ≡ true)
    ↔ ((meets false given k ≡ true) × (k ≢ given))
unfolding meets
meets_after given k = (
  λ h. (rw (before_asym given k h), λ e. before_apart given k h (sym e)),
  λ h. go h.0 h.1
      (before given k) refl,
)
  where
    go : not (before k given) ≡ true → k ≢ given → (b : Bool) → before given k ≡ b → before given k
        ≡ true
    go at_or_after other true e = e
    go at_or_after other false e =
        absurd (other (before_total k given (not-true (before k given) at_or_after) e))

-- What decides a request, "after" or "at or after", at the first letter of the key given. The
-- empty key does not meet it, and neither does a key with a lower letter. A key with the same
-- letter meets it if what follows does. A key with a higher letter meets it.
pub meets_empty : (after : Bool) (y : ℕ) (k : List ℕ) → meets after (y ∷ k) [] ≡ false
unfolding meets before
meets_empty true y k = refl
meets_empty false y k = refl

pub meets_lower : (after : Bool) (x y : ℕ) (k m : List ℕ) → x < y → meets after (y ∷ k) (x ∷ m)
    ≡ false
unfolding meets
meets_lower true x y k m h = before_asym (x ∷ m) (y ∷ k) (before_lower x y m k h)
meets_lower false x y k m h = ap not (before_lower x y m k h)

pub meets_cons : (after : Bool) (y : ℕ) (k m : List ℕ) → meets after (y ∷ k) (y ∷ m)
    ≡ meets after k m
unfolding meets
meets_cons true y k m = before_cons y k m
meets_cons false y k m = ap not (before_cons y m k)

pub meets_higher : (after : Bool) (x y : ℕ) (k m : List ℕ) → y < x → meets after (y ∷ k) (x ∷ m)
    ≡ true
unfolding meets
meets_higher true x y k m h = before_lower y x k m h
meets_higher false x y k m h = ap not (before_asym (y ∷ k) (x ∷ m) (before_lower y x k m h))

-- every key is at or after the empty key, and every other key after it
pub meets_any : (k : List ℕ) → meets false [] k ≡ true
unfolding meets before
meets_any [] = refl
meets_any (x ∷ k) = refl

pub meets_none : meets true [] [] ≡ false
unfolding meets before
meets_none = refl

pub meets_letter : (x : ℕ) (k : List ℕ) → meets true [] (x ∷ k) ≡ true
unfolding meets before
meets_letter x k = refl

-- a key after one that meets the request meets it too
pub meets_on : (after : Bool) (given k m : List ℕ) → meets after given k ≡ true
    → before k m ≡ true
    → meets after given m ≡ true
unfolding meets
meets_on true given k m h g = before_trans given k m h g
meets_on false given k m h g = go (before m given) refl
  where
    go : (b : Bool) → before m given ≡ b → not (before m given) ≡ true
    go true e =
        absurd (true≢false (sym (before_trans k m given g e) ∙ not-true (before k given) h))
    go false e = ap not e
