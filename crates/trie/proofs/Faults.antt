-- A key's walk, one letter at a time: its first bad link, if there is one, and its answer. There
-- is a law for each case: no letter is left, the link is empty, it is bad, or it is neither.
use Prim.Native.Nat.{ℕ}
use mathlib.Core.Path.{◌≡◌, refl, sym, ap, ◌∙◌}
use mathlib.Core.Logic.{◌≢◌}
use mathlib.Core.Bool.{Bool, true, false, cond}
use mathlib.Core.Option.{none, some}
use mathlib.Core.List.{List, [], ◌∷◌}
use native.Mathlib.Omega.{arith}
use Rattle.trie.specs.Table.{Table, descend, value_at, fault}
use Rattle.trie.proofs.Walk.{follow_empty, follow_on, descend_nil, descend_empty}
use Rattle.trie.proofs.Walk.{descend_on}

module _ (bad : ℕ → Bool) (t : Table) (q : ℕ) where
  pub fault_nil : fault bad t q [] ≡ none
  unfolding fault
  fault_nil = refl

  module _ (x : ℕ) (xs : List ℕ) where
    pub fault_empty : t.child q x ≡ 0 → fault bad t q (x ∷ xs) ≡ none
    unfolding fault
    fault_empty e =
        follow_empty (t.child q x) none (λ c. cond (bad c) (some q) (fault bad t c xs)) e

    -- a link that is not empty
    tested : {c : ℕ} → t.child q x ≡ c → c ≢ 0 → fault bad t q (x ∷ xs) ≡ cond (bad c) (some q)
        (fault bad t c xs)
    unfolding fault
    tested {c} e h = rw e (follow_on c none (λ c. cond (bad c) (some q) (fault bad t c xs)) h)

    pub fault_bad : {c : ℕ} → t.child q x ≡ c → c ≢ 0 → bad c ≡ true → fault bad t q (x ∷ xs)
        ≡ some q
    fault_bad e h b = tested e h ∙ rw b

    pub fault_on : {c : ℕ} → t.child q x ≡ c → c ≢ 0 → bad c ≡ false → fault bad t q (x ∷ xs)
        ≡ fault bad t c xs
    fault_on e h b = tested e h ∙ rw b

    -- a link that is not empty, on a path without bad links
    pub fault_none : {c : ℕ} → t.child q x ≡ c → c ≢ 0 → fault bad t q (x ∷ xs) ≡ none
        → (bad c ≡ false) × (fault bad t c xs ≡ none)
    fault_none {c} e h f = go (bad c) refl
      where
        go : (b : Bool) → bad c ≡ b → (bad c ≡ false) × (fault bad t c xs ≡ none)
        go true b = let w : some q ≡ none = sym (fault_bad e h b) ∙ f in let z : ◌≡◌ {A = ℕ} 0 1 =
            cc in absurd (omega arith)
        go false b = (b, sym (fault_on e h b) ∙ f)

-- what the walk from a node answers
module _ (t : Table) (q : ℕ) where
  pub value_nil : value_at t (descend t q []) ≡ t.value q
  unfolding value_at
  value_nil = ap (value_at t) (descend_nil t q)

  pub value_empty : (x : ℕ) (xs : List ℕ) → t.child q x ≡ 0 → value_at t (descend t q (x ∷ xs)) ≡ 0
  unfolding value_at
  value_empty x xs e = ap (value_at t) (descend_empty t q x xs e)

  pub value_on : (x : ℕ) (xs : List ℕ) {c : ℕ} → t.child q x ≡ c → c ≢ 0
      → value_at t (descend t q (x ∷ xs)) ≡ value_at t (descend t c xs)
  value_on x xs {c} e h =
      ap (value_at t) (descend_on t q x xs (λ z. h (sym e ∙ z)) ∙ ap (λ (p : ℕ). descend t p xs) e)
