-- Which keys pass a node. A key passes a node if its first letters walk there, so the laws
-- follow from those on walks: a node has one key, and from the links of a node no key comes to
-- that node again.
use Prim.Native.Nat.{ℕ, ◌<◌, ◌≤◌}
use native.Mathlib.Omega.{arith}
use native.Mathlib.Decide.{ℕ_discrete}
use mathlib.Core.Bool.{Bool, true, false, true≢false}
use mathlib.Core.List.{List, [], ◌∷◌, ◌++◌}
use mathlib.Core.Logic.{◌≢◌}
use mathlib.Core.Path.{◌≡◌, refl, sym, ◌∙◌, ap}
use lib.ListN.{length, length-append}
use borrow.Author.Tests.{eq-eqb, ne_eqb}
use Rattle.trie.specs.Table.{Table, complete, follow, descend}
use Rattle.trie.specs.Rules.{Within, Once}
use Rattle.trie.proofs.Walk.{follow_empty, follow_on, Walk, end, on, walk, descend_nil, descend_on}
use Rattle.trie.proofs.Walk.{descend_append, one_key}
use Rattle.passing.specs.Passing.{passes}

module _ (t : Table) (q : ℕ) where
  -- every key passes the node where it begins
  pub passes_here : (k : List ℕ) → passes t q q k ≡ true
  unfolding passes
  passes_here [] = eq-eqb q q refl
  passes_here (x ∷ k) = rw (eq-eqb q q refl)

  -- if it begins at another node, it needs a letter
  pub passes_nil : (p : ℕ) → p ≢ q → passes t q p [] ≡ false
  unfolding passes
  passes_nil p other = ne_eqb p q other

  pub passes_cons : (p x : ℕ) (k : List ℕ) → p ≢ q → passes t q p (x ∷ k)
      ≡ follow (t.child p x) false (λ c. passes t q c k)
  unfolding passes
  passes_cons p x k other = rw (ne_eqb p q other)

  pub passes_empty : (p x : ℕ) (k : List ℕ) → p ≢ q → t.child p x ≡ 0 → passes t q p (x ∷ k)
      ≡ false
  passes_empty p x k other e =
      passes_cons p x k other ∙ follow_empty (t.child p x) false (λ c. passes t q c k) e

  pub passes_link : (p x : ℕ) (k : List ℕ) → p ≢ q → t.child p x ≢ 0 → passes t q p (x ∷ k)
      ≡ passes t q (t.child p x) k
  passes_link p x k other full =
      passes_cons p x k other ∙ follow_on (t.child p x) false (λ c. passes t q c k) full

  -- the part of a key that walks from p to q, and what follows it
  pub record Passed (p : ℕ) (k : List ℕ) : Type 0 where
    pub path : List ℕ
    pub rest : List ℕ
    pub key : k ≡ path ++ rest
    pub reaches : descend t p path ≡ complete q

  here : (p : ℕ) (k : List ℕ) → p ≡ q → Passed p k
  here p k e =
      record { path = []; rest = k; key = refl; reaches = descend_nil t p ∙ ap complete e }

  through : (p x : ℕ) (k : List ℕ) → t.child p x ≢ 0 → Passed (t.child p x) k → Passed p (x ∷ k)
  through p x k full f =
      record {
        path = x ∷ f.path;
        rest = f.rest;
        key = ap (x ∷◌) f.key;
        reaches = descend_on t p x f.path full ∙ f.reaches;
      }

  pub passes_prefix : (p : ℕ) (k : List ℕ) → passes t q p k ≡ true → Passed p k
  passes_prefix p [] e = go (ℕ_discrete p q)
    where
      go : Dec (p ≡ q) → Passed p []
      go (yes same) = here p [] same
      go (no other) = absurd (true≢false (sym e ∙ passes_nil p other))
  passes_prefix p (x ∷ k) e =
      go (ℕ_discrete p q) (ℕ_discrete (t.child p x) 0) (λ c. passes_prefix c k)
    where
      go : Dec (p ≡ q) → Dec (t.child p x ≡ 0) → ((c : ℕ) → passes t q c k ≡ true → Passed c k)
          → Passed p (x ∷ k)
      go (yes same) b below = here p (x ∷ k) same
      go (no other) (yes z) below = absurd (true≢false (sym e ∙ passes_empty p x k other z))
      go (no other) (no full) below =
          through p x k full (below (t.child p x) (sym (passes_link p x k other full) ∙ e))

  -- the converse
  along : {p : ℕ} {m : List ℕ} → Walk t p m (complete q) → (r : List ℕ) → passes t q p (m ++ r)
      ≡ true
  along end r = passes_here r
  along (on {q = p} {x} {xs} full w) r = go (ℕ_discrete p q) (along w r)
    where
      go : Dec (p ≡ q) → passes t q (t.child p x) (xs ++ r) ≡ true → passes t q p (x ∷ (xs ++ r))
          ≡ true
      go (yes e) below = rw e (passes_here (x ∷ (xs ++ r)))
      go (no other) below = passes_link p x (xs ++ r) other full ∙ below

  pub prefix_passes : (p : ℕ) (m r : List ℕ) → descend t p m ≡ complete q → passes t q p (m ++ r)
      ≡ true
  prefix_passes p m r e = along (walk t p m e) r

-- a test is false if it cannot be true
pub refuted : (b : Bool) → ¬ (b ≡ true) → b ≡ false
refuted true h = absurd (h refl)
refuted false h = refl

-- the node of a link is reached by one letter more
pub child_reached : (t : Table) (k : List ℕ) (x : ℕ) {p : ℕ} → descend t 0 k ≡ complete p
    → t.child p x ≢ 0
    → descend t 0 (k ++ (x ∷ [])) ≡ complete (t.child p x)
child_reached t k x {p} e full =
    descend_append t 0 k (x ∷ []) e ∙ descend_on t p x [] full ∙ descend_nil t (t.child p x)

-- a key that passes a node extends that node's own key
pub passes_extends : (t : Table) (k : List ℕ) {p : ℕ} → Once t → descend t 0 k ≡ complete p
    → (j : List ℕ) → passes t p 0 j ≡ true → (r : List ℕ) × (j ≡ k ++ r)
passes_extends t k {p} once e j f =
    let s = passes_prefix t p 0 j f in
    (s.rest, s.key ∙ ap (◌++ s.rest) (one_key t s.path k once s.reaches e))

-- no key comes back to a node
pub never_again : (t : Table) (k : List ℕ) (x : ℕ) {p : ℕ} → Once t → descend t 0 k ≡ complete p
    → t.child p x ≢ 0
    → (j : List ℕ) → passes t p (t.child p x) j ≡ false
never_again t k x {p} once e full j = refuted _ (λ f. apart (passes_prefix t p (t.child p x) j f))
  where
    apart : Passed t p (t.child p x) j → ⊥
    apart s =
        let m : List ℕ = s.path in
        let again : descend t 0 (k ++ (x ∷ m)) ≡ complete p =
        descend_append t 0 k (x ∷ m) e ∙ descend_on t p x m full ∙ s.reaches in
        omega (arith, ap length (one_key t k (k ++ (x ∷ m)) once e again), length-append k (x ∷ m))

-- no key comes to a node outside the table
pub passes_within : (t : Table) (g q p : ℕ) (k : List ℕ) → Within t g → p ≤ g → g < q
    → passes t q p k ≡ false
passes_within t g q p [] within low high = passes_nil t q p (λ e. omega arith)
passes_within t g q p (x ∷ k) within low high =
    go (ℕ_discrete (t.child p x) 0)
    (passes_within t g q (t.child p x) k within (within p x) high)
  where
    other : p ≢ q
    other e = omega arith

    go : Dec (t.child p x ≡ 0) → passes t q (t.child p x) k ≡ false → passes t q p (x ∷ k)
        ≡ false
    go (yes e) below = passes_empty t q p x k other e
    go (no full) below = passes_link t q p x k other full ∙ below
