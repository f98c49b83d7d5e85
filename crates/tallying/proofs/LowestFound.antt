-- A search upwards for the lowest number that passes a test. From the number reached the lowest
-- is still the same, since no number passed over passes.
use mathlib.Core.Path.{◌≡◌, refl, sym, ap, ◌∙◌, subst}
use mathlib.Core.Bool.{Bool, true, false}
use Prim.Native.Nat.{ℕ, zero, suc, ◌+◌, ◌-◌, ◌≤◌, ◌<◌}
use native.Mathlib.Numerals.{add-one}
use native.Mathlib.Decide.{dec_lt}
use native.Mathlib.Omega.{arith}
use mathlib.Core.List.{List}
use mathlib.Core.Option.{none, some}
use lib.Dec.{ltb}
use lib.ListN.{length, get_or}
use borrow.Author.Tests.{lt-ltb, le-ltb, ltb-true}
use Rattle.std.specs.Prelude.{Option, Some, None}
use Rattle.std.specs.List.{AllWithin, HoldsAt}
use Rattle.std.specs.Option.{MatchOption}
use Rattle.std.proofs.lemmas.Option.{none-some, cond_some}
use Rattle.trie.specs.Lowest.{lowest}
use Rattle.trie.proofs.Lowest.{lowest_none, lowest_at}
use Rattle.paper.specs.Answers.{number_at}
use Rattle.paper.specs.Rows.{row_when_lowest}
use Rattle.paper.proofs.Hearing.{is_given, not_given}
use Rattle.tallying.specs.Tallied.{lowest_in}

-- ---- the answer of a search: the lowest number that passes if it is one of these, else none

module _ (p : ℕ → Bool) (a k : ℕ) where
  pub some_found : {x : ℕ} → x ≡ lowest p a k → x < a + k → Some x ≡ lowest_in p a k
  some_found {x} e b =
      rw (← e) (rw (lt-ltb x (a + k) b))

  pub none_found : a + k ≤ lowest p a k → None ≡ lowest_in p a k
  none_found b = rw (le-ltb (lowest p a k) (a + k) b)

  pub found_some : {r : Option ℕ} {x : ℕ} → r ≡ lowest_in p a k → r ≡ Some x
      → (x ≡ lowest p a k) × (x < a + k)
  found_some {x = x} e s =
      let (b, same) = cond_some (ltb (lowest p a k) (a + k)) (lowest p a k) x (sym e ∙ s) in
      (sym same, rw same at (ltb-true (lowest p a k) (a + k) b))

  pub found_none : {r : Option ℕ} → r ≡ lowest_in p a k → r ≡ None → a + k ≤ lowest p a k
  found_none e n = go (dec_lt (lowest p a k) (a + k))
    where
      go : Dec (lowest p a k < a + k) → a + k ≤ lowest p a k
      go (yes b) = absurd (none-some (lowest p a k) (sym (some_found refl b ∙ sym e ∙ n)))
      go (no b) = omega arith

-- ---- the search

-- of the k numbers from a on, those below x are passed over
pub record Seeking (p : ℕ → Bool) (a k x : ℕ) : Type 0 where
  pub within : x ≤ a + k
  pub same : (j : ℕ) → x + j ≡ a + k → lowest p x j ≡ lowest p a k

pub seeking_none : (p : ℕ → Bool) (a k : ℕ) → Seeking p a k a
seeking_none p a k =
    record { within = omega arith; same = λ j e. let s : j ≡ k = omega arith in ap (lowest p a) s }

module _ {p : ℕ → Bool} {a k x : ℕ} (s : Seeking p a k x) where
  pub seeking_more : x < a + k → p x ≡ false → Seeking p a k (x + 1)
  unfolding lowest
  seeking_more h e =
      record {
        within = omega arith;
        same = λ j q. let z : lowest p x (suc j) ≡ lowest p a k = s.same (suc j) (omega arith) in
            rw (add-one x) (rw e at z);
      }

  pub seeking_found : x < a + k → p x ≡ true → Some x ≡ lowest_in p a k
  unfolding lowest
  seeking_found h e =
      let z : lowest p x (suc (a + k - suc x)) ≡ lowest p a k =
      s.same (suc (a + k - suc x)) (omega arith) in
      some_found p a k (rw e at z) h

  pub seeking_all : a + k ≤ x → None ≡ lowest_in p a k
  unfolding lowest
  seeking_all h = none_found p a k (omega (arith, s.same 0 (omega (arith, s.within))))

-- ---- the same by the first element that `position` finds

-- the numbers from a on stand for the elements of a list, in order
module _ {X : Type 0} (yes no : X → Type 0) (xs : List X) (d : X) (p : ℕ → Bool) (a : ℕ)
    (hit : (i : ℕ) → i < length xs → yes (get_or xs i d) → p (a + i) ≡ true)
    (miss : (i : ℕ) → i < length xs → no (get_or xs i d) → p (a + i) ≡ false) where
  passed_over : (k : ℕ) → k ≤ length xs → AllWithin no xs 0 k → (y : ℕ) → a ≤ y → y < a + k
      → p y ≡ false
  passed_over k b over y low high =
      let e : a + (y - a) ≡ y = omega arith in
      subst (λ (z : ℕ). p z ≡ false) e
      (miss (y - a) (omega arith) (over (y - a) d (omega arith) (omega arith)))

  pub first_element : (o : Option ℕ) → MatchOption o (AllWithin no xs 0 (length xs))
      (λ i. (i < length xs) × HoldsAt yes xs i × AllWithin no xs 0 i)
      → (r : Option ℕ) → MatchOption o (r ≡ None) (λ i. r ≡ Some (a + i))
      → r ≡ lowest_in p a (length xs)
  first_element None over r e =
      e ∙ none_found p a (length xs)
      (omega (arith, lowest_none p a (length xs) (passed_over (length xs) (omega arith) over)))
  first_element (Some i) (b, here, over) r e =
      e ∙ some_found p a (length xs)
      (sym (lowest_at p a (length xs) (a + i) (omega arith) (omega arith) (hit i b (here d))
      (passed_over i (omega arith) over)))
      (omega arith)

-- tests that agree on these numbers have the same lowest number
pub lowest_same : (p r : ℕ → Bool) (a k : ℕ) → ((x : ℕ) → a ≤ x → x < a + k → p x ≡ r x)
    → lowest p a k ≡ lowest r a k
unfolding lowest
lowest_same p r a zero h = refl
lowest_same p r a (suc k) h =
    rw (
      h a (omega arith) (omega arith),
      lowest_same p r (suc a) k
          (λ x low high. h x (omega arith) (omega arith)),
    )

pub found_same : (p r : ℕ → Bool) (a k : ℕ) → ((x : ℕ) → a ≤ x → x < a + k → p x ≡ r x)
    → lowest_in p a k ≡ lowest_in r a k
found_same p r a k h = rw (lowest_same p r a k h)

-- the row for the lowest number that passes
module _ (number : ℕ) (test : ℕ → Bool) (a k : ℕ) where
  pub given_at : {x : ℕ} → Some x ≡ lowest_in test a k
      → row_when_lowest number test a k ≡ some (number_at number x)
  unfolding row_when_lowest
  given_at e =
      let (same, below) = found_some test a k e refl in
      rw (← same) (is_given number _ (lt-ltb _ _ below))

  pub given_nowhere : None ≡ lowest_in test a k → row_when_lowest number test a k ≡ none
  unfolding row_when_lowest
  given_nowhere e = not_given number _ (le-ltb _ _ (found_none test a k e refl))
