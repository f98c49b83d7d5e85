-- What the nodes at or under a node add to a count, letter by letter as in trie's `Beyond`. The
-- sums are the counts: a key passes the node that is counted at once or by one link, and from
-- the links of a node no key comes to that node again.
use Prim.Native.Nat.{ℕ, zero, suc, pred, ◌+◌, ◌-◌, ◌<◌, ◌≤◌}
use native.Mathlib.Omega.{arith}
use native.Mathlib.Decide.{ℕ_discrete}
use native.Mathlib.Nat.{sub-zero}
use mathlib.Core.Bool.{Bool, true, false, cond}
use mathlib.Core.List.{List, [], ◌∷◌, ◌++◌, map}
use mathlib.Core.Logic.{◌≢◌}
use mathlib.Core.Path.{◌≡◌, refl, sym, ◌∙◌, ap, subst}
use lib.Dec.{eqb}
use lib.ListN.{length, length-append, length-map}
use borrow.Author.Tests.{eq-eqb, ne_eqb}
use Rattle.trie.specs.Table.{Table, complete, follow, descend}
use Rattle.trie.specs.Keys.{own_key, by_letter, keys_under, filter}
use Rattle.trie.specs.Rules.{Once, Linked}
use Rattle.trie.specs.Beyond.{keys_from}
use Rattle.trie.proofs.Walk.{descend_nil, follow_empty, follow_on}
use Rattle.trie.proofs.Listing.{under, own_cases}
use Rattle.trie.proofs.Beyond.{under_split}
use Rattle.trie.proofs.Filter.{filter_append, filter_map, filter_none, filter_every}
use Rattle.passing.specs.Passing.{passes, count_at}
use Rattle.passing.specs.Weights.{sum_from, weight_at, weight_from}
use Rattle.passing.proofs.Passing.{passes_here, passes_nil, passes_link, never_again}
use Rattle.passing.proofs.Passing.{child_reached}

no_length : (l : List (List ℕ)) → length l ≡ 0 → l ≡ []
no_length [] z = refl
no_length (k ∷ l) z = absurd (omega arith)

cond_same : (b : Bool) → ◌≡◌ {A = ℕ} (cond b 0 0) 0
cond_same true = refl
cond_same false = refl

-- if there is no key with any of the letters, nothing is added
sum_none : (keys : ℕ → List (List ℕ)) (f : ℕ → ℕ) → ((i : ℕ) → keys i ≡ [] → f i ≡ 0)
    → (x m : ℕ) → by_letter keys x m ≡ [] → sum_from f x m ≡ 0
unfolding sum_from by_letter
sum_none keys f h x zero e = refl
sum_none keys f h x (suc m) e =
    let size : length (keys x) + length (by_letter keys (suc x) m) ≡ 0 =
    omega (
      arith,
      length-map (keys x) (x ∷◌),
      length-append (map (x ∷◌) (keys x))
          (by_letter keys (suc x) m),
      ap length e,
    ) in
    let rest = sum_none keys f h (suc x) m (no_length (by_letter keys (suc x) m) (omega arith)) in
    omega (arith, h x (no_length (keys x) (omega arith)), rest)

module _ (t : Table) (n : ℕ) where
  -- what the link of letter i at node p adds
  abbrev adds : ℕ → ℕ → ℕ → ℕ → ℕ → ℕ
  adds short left q p i = follow (t.child p i) 0 (λ c. weight_at t n (pred short) left q c)

  pub weight_split : (short left q p : ℕ)
      → weight_at t n short left q p ≡ cond (eqb p q) (length (keys_under t n short left p)) 0
      + weight_from t n short left q p 0
  unfolding weight_at weight_from
  weight_split short zero q p = omega arith
  weight_split short (suc left) q p = rw (sub-zero n)

  -- nothing after the last letter
  pub weight_none : (short left q p x : ℕ) → n ≤ x → weight_from t n short left q p x ≡ 0
  unfolding weight_from sum_from
  weight_none short zero q p x h = refl
  weight_none short (suc left) q p x h = let e : n - x ≡ 0 = omega arith in rw e

  -- nothing if no letter is allowed
  pub weight_shallow : (short q p x : ℕ) → weight_from t n short 0 q p x ≡ 0
  unfolding weight_from
  weight_shallow short q p x = refl

  weight_letter : (short left q p x : ℕ) → x < n
      → weight_from t n short (suc left) q p x ≡ adds short left q p x + weight_from t n short
      (suc left) q p (suc x)
  unfolding weight_from sum_from
  weight_letter short left q p x h = let e : n - x ≡ suc (n - suc x) = omega arith in rw e

  -- an empty link adds nothing
  pub weight_empty : (short left q p x : ℕ) → x < n → t.child p x ≡ 0
      → weight_from t n short left q p x ≡ weight_from t n short left q p (suc x)
  unfolding weight_from
  weight_empty short zero q p x h e = refl
  weight_empty short (suc left) q p x h e =
      omega (
        arith,
        weight_letter short left q p x h,
        follow_empty (t.child p x) 0
            (λ c. weight_at t n (pred short) left q c) e,
      )

  -- any other link adds what its node adds
  pub weight_link : (short left q p x : ℕ) → x < n → 0 < left → t.child p x ≢ 0
      → weight_from t n short left q p x
      ≡ weight_at t n (pred short) (pred left) q (t.child p x) + weight_from t n short left q p
      (suc x)
  weight_link short zero q p x h room full = absurd (omega arith)
  weight_link short (suc left) q p x h room full =
      omega (
        arith,
        weight_letter short left q p x h,
        follow_on (t.child p x) 0
            (λ c. weight_at t n (pred short) left q c) full,
      )

  -- a link without keys adds nothing
  link_blank : (short left q c : ℕ)
      → ((p : ℕ) → keys_under t n short left p ≡ [] → weight_at t n short left q p ≡ 0)
      → follow c [] (λ p. keys_under t n short left p) ≡ []
      → follow c 0 (λ p. weight_at t n short left q p) ≡ 0
  unfolding follow
  link_blank short left q zero on e = refl
  link_blank short left q (suc c) on e = on (suc c) e

  -- if there is no key below a node, no node there adds anything
  below_blank : (short left q p : ℕ)
      → ((c : ℕ) → keys_under t n (pred short) (pred left) c ≡ [] → weight_at t n (pred short)
      (pred left) q c ≡ 0)
      → keys_from t n short left p 0 ≡ []
      → weight_from t n short left q p 0 ≡ 0
  unfolding keys_from weight_from
  below_blank short zero q p on e = refl
  below_blank short (suc left) q p on e =
      sum_none
      (under t n short left p)
      (adds short left q p)
      (λ i. link_blank (pred short) left q (t.child p i) on)
      0
      (n - 0)
      e

  all_blank : (short left q p : ℕ) → keys_under t n short left p ≡ []
      → weight_from t n short left q p 0 ≡ 0 → weight_at t n short left q p ≡ 0
  all_blank short left q p e below =
      weight_split short left q p ∙ rw (e, below, cond_same (eqb p q))

  none_below : (short left p : ℕ) → keys_under t n short left p ≡ [] → keys_from t n short left p 0
      ≡ []
  none_below short left p e =
      no_length
      (keys_from t n short left p 0)
      (omega (
        arith,
        ap length (sym (under_split t n short left p) ∙ e),
        length-append (own_key t short p) (keys_from t n short left p 0),
      ))

  weight_blank : (short left q p : ℕ) → keys_under t n short left p ≡ []
      → weight_at t n short left q p ≡ 0
  weight_blank short zero q p e = all_blank short 0 q p e (weight_shallow short q p 0)
  weight_blank short (suc left) q p e =
      all_blank
      short
      (suc left)
      q
      p
      e
      (below_blank short (suc left) q p (λ c. weight_blank (pred short) left q c)
      (none_below short (suc left) p e))

  pub weight_no_keys : (short left p : ℕ) → ((x : ℕ) → keys_from t n short left p x ≡ []) → (q : ℕ)
      → weight_from t n short left q p 0 ≡ 0
  weight_no_keys short left p none q =
      below_blank short left q p (λ c. weight_blank (pred short) (pred left) q c) (none 0)

-- ---- the sums are the counts

sum_filter : (test : List ℕ → Bool) (keys : ℕ → List (List ℕ)) (f : ℕ → ℕ)
    → ((i : ℕ) → f i ≡ length (filter test (map (i ∷◌) (keys i))))
    → (x m : ℕ)
    → sum_from f x m ≡ length (filter test (by_letter keys x m))
unfolding sum_from by_letter filter
sum_filter test keys f h x zero = refl
sum_filter test keys f h x (suc m) =
    omega (
      arith,
      h x,
      sum_filter test keys f h (suc x) m,
      ap length (filter_append test (map (x ∷◌) (keys x)) (by_letter keys (suc x) m)),
      length-append (filter test (map (x ∷◌) (keys x))) (filter test (by_letter keys (suc x) m)),
    )

module _ (t : Table) (n : ℕ) (once : Once t) (q : ℕ) where
  -- what is to be shown for node p
  abbrev Weighed : ℕ → ℕ → ℕ → Type 0
  Weighed short left p =
      weight_at t n short left q p ≡ length (filter (passes t q p) (keys_under t n short left p))

  -- one link, if a test for the keys with its letter is the test of its node for what follows
  link_weighed : (test : List ℕ → Bool) (short left i c : ℕ)
      → (c ≢ 0 → Weighed short left c)
      → (c ≢ 0 → (k : List ℕ) → test (i ∷ k) ≡ passes t q c k)
      → follow c 0 (λ p. weight_at t n short left q p)
      ≡ length (filter test (map (i ∷◌) (follow c [] (λ p. keys_under t n short left p))))
  unfolding follow filter
  link_weighed test short left i zero below asks = refl
  link_weighed test short left i (suc c) below asks =
      let full : suc c ≢ 0 = λ e. omega arith in
      let keys : List (List ℕ) = keys_under t n short left (suc c) in
      below full
      ∙ sym (length-map (filter (passes t q (suc c)) keys) (i ∷◌))
      ∙ ap length (sym (filter_map test (passes t q (suc c)) i keys (asks full)))

  weighed_below : (test : List ℕ → Bool) (short left p : ℕ)
      → ((x : ℕ) → t.child p x ≢ 0 → 0 < left → Weighed (pred short) (pred left) (t.child p x))
      → ((x : ℕ) → t.child p x ≢ 0 → (k : List ℕ) → test (x ∷ k) ≡ passes t q (t.child p x) k)
      → weight_from t n short left q p 0 ≡ length (filter test (keys_from t n short left p 0))
  unfolding weight_from keys_from filter
  weighed_below test short zero p below asks = refl
  weighed_below test short (suc left) p below asks =
      sum_filter
      test
      (under t n short left p)
      (adds t n short left q p)
      (λ i. link_weighed test (pred short) left i (t.child p i)
      (λ full. below i full (omega arith)) (asks i))
      0
      (n - 0)

  -- at a node that a key reaches
  weighed_node : (short left p : ℕ) (k : List ℕ) → descend t 0 k ≡ complete p
      → ((x : ℕ) → t.child p x ≢ 0 → 0 < left → Weighed (pred short) (pred left) (t.child p x))
      → Weighed short left p
  weighed_node short left p k e below = go (ℕ_discrete p q)
    where
      own : List (List ℕ)
      own = own_key t short p

      from : List (List ℕ)
      from = keys_from t n short left p 0

      go : Dec (p ≡ q) → Weighed short left p
      go (yes same) =
          let every : filter (passes t q p) (keys_under t n short left p)
          ≡ keys_under t n short left p =
          filter_every _ _ (λ j a. subst (λ (z : ℕ). passes t q z j ≡ true) (sym same)
          (passes_here t q j)) in
          let again : (x : ℕ) → t.child p x ≢ 0 → (j : List ℕ)
          → false ≡ passes t q (t.child p x) j =
          λ x full j. sym (subst (λ (z : ℕ). passes t z (t.child p x) j ≡ false) same
          (never_again t k x once e full j)) in
          let nothing : weight_from t n short left q p 0 ≡ 0 =
          weighed_below (λ j. false) short left p below again
          ∙ ap length (filter_none (λ j. false) from (λ j a. refl)) in
          let met : cond (eqb p q) (length (keys_under t n short left p)) 0
          ≡ length (keys_under t n short left p) = rw (eq-eqb p q same) in
          omega (arith, weight_split t n short left q p, nothing, met, ap length every)
      go (no other) =
          let unmet : cond (eqb p q) (length (keys_under t n short left p)) 0 ≡ 0 =
          rw (ne_eqb p q other) in
          let out : filter (passes t q p) own ≡ [] =
          filter_none (passes t q p) own (λ j a. ap (passes t q p) (own_cases t short p a).0
          ∙ passes_nil t q p other) in
          omega (
            arith,
            weight_split t n short left q p,
            unmet,
            weighed_below (passes t q p) short left p below
                (λ x full j. passes_link t q p x j other full),
            ap (λ (l : List (List ℕ)). length (filter (passes t q p) l))
                (under_split t n short left p),
            ap length (filter_append (passes t q p) own from),
            length-append (filter (passes t q p) own) (filter (passes t q p) from),
            ap length out,
          )

  weighed : (short left p : ℕ) (k : List ℕ) → descend t 0 k ≡ complete p → Weighed short left p
  weighed short zero p k e = weighed_node short 0 p k e (λ x full room. absurd (omega arith))
  weighed short (suc left) p k e =
      weighed_node
      short
      (suc left)
      p
      k
      e
      (λ x full room. weighed (pred short) left (t.child p x) (k ++ (x ∷ []))
      (child_reached t k x e full))

pub weight_count : {t : Table} {g n : ℕ} → Linked t g n → (least most q : ℕ)
    → weight_at t n least most q 0 ≡ count_at t n least most q
unfolding count_at
weight_count {t} {g} {n} linked least most q =
    weighed t n linked.once q least most 0 [] (descend_nil t 0)
