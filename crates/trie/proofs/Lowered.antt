-- Two tables that agree on the nodes up to g, where no link of the first leads above g. A walk
-- from one of these nodes stays among them, so it is the same in both tables.
use Prim.Native.Nat.{ℕ, ◌≤◌}
use mathlib.Core.Path.{◌≡◌, refl, sym, ◌∙◌}
use mathlib.Core.Bool.{Bool, false}
use mathlib.Core.Option.{none}
use mathlib.Core.List.{List, [], ◌∷◌}
use native.Mathlib.Decide.{ℕ_discrete}
use native.Mathlib.Omega.{arith}
use Rattle.trie.specs.Table.{Table, descend, value_at, answer, fault}
use Rattle.trie.specs.Rules.{Within}
use Rattle.trie.proofs.Faults.{fault_nil, fault_empty, fault_on, fault_none, value_nil}
use Rattle.trie.proofs.Faults.{value_empty, value_on}

-- the nodes up to g have the same links and data
pub record Agree (s t : Table) (g : ℕ) : Type 0 where
  pub links : (q i : ℕ) → q ≤ g → s.child q i ≡ t.child q i
  pub values : (q : ℕ) → q ≤ g → s.value q ≡ t.value q

module _ {s t : Table} {g : ℕ} (same : Agree s t g) (within : Within s g) where
  walk_alike : (q : ℕ) (k : List ℕ) → q ≤ g → value_at s (descend s q k)
      ≡ value_at t (descend t q k)
  walk_alike q [] b = value_nil s q ∙ same.values q b ∙ sym (value_nil t q)
  walk_alike q (x ∷ xs) b = go (ℕ_discrete c 0) (walk_alike c xs (within q x))
    where
      c : ℕ
      c = s.child q x

      go : Dec (c ≡ 0) → value_at s (descend s c xs) ≡ value_at t (descend t c xs)
          → value_at s (descend s q (x ∷ xs)) ≡ value_at t (descend t q (x ∷ xs))
      go (yes e) rest =
          value_empty s q x xs e ∙ sym (value_empty t q x xs (sym (same.links q x b) ∙ e))
      go (no h) rest =
          value_on s q x xs refl h ∙ rest ∙ sym (value_on t q x xs (sym (same.links q x b)) h)

  pub answer_alike : (k : List ℕ) → answer s k ≡ answer t k
  unfolding answer
  answer_alike k = walk_alike 0 k (omega arith)

  -- a path without a bad link in s has none in t, if every link that is bad for t is bad for s
  pub fault_alike : (bad worse : ℕ → Bool) → ((c : ℕ) → bad c ≡ false → worse c ≡ false)
      → (q : ℕ) (k : List ℕ) → q ≤ g → fault bad s q k ≡ none → fault worse t q k ≡ none
  fault_alike bad worse milder q [] b e = fault_nil worse t q
  fault_alike bad worse milder q (x ∷ xs) b e =
      go (ℕ_discrete c 0) (fault_alike bad worse milder c xs (within q x))
    where
      c : ℕ
      c = s.child q x

      there : t.child q x ≡ c
      there = sym (same.links q x b)

      go : Dec (c ≡ 0) → (fault bad s c xs ≡ none → fault worse t c xs ≡ none)
          → fault worse t q (x ∷ xs) ≡ none
      go (yes z) rest = fault_empty worse t q x xs (there ∙ z)
      go (no h) rest =
          let (fair, on) = fault_none bad s q x xs refl h e in
          fault_on worse t q x xs there h (milder c fair) ∙ rest on
