-- What a store does to the counts. A link that is not empty stays, so a stored key passes the
-- same nodes as before. So the keys that pass a node are the same before and after, except for
-- the key that the store is for: it is among them if it is stored and passes the node.
use Prim.Native.Nat.{ℕ, zero, suc, ◌+◌, ◌≤◌}
use native.Mathlib.Decide.{dec_le}
use native.Mathlib.Omega.{arith}
use mathlib.Core.Bool.{Bool, true, false, ◌||◌, cond, true≢false}
use mathlib.Core.List.{List, ◌∷◌, Memᴰ}
use mathlib.Core.Logic.{◌↔◌, ◌≢◌}
use mathlib.Core.Path.{◌≡◌, refl, sym, ◌∙◌, ap}
use lib.Dec.{eqb}
use lib.ListN.{length}
use Rattle.trie.specs.Table.{Table, Descent, complete, stopped, descend, answer, LettersBelow}
use Rattle.trie.specs.Keys.{listing, filter, Ascending}
use Rattle.trie.specs.Rules.{Framed, Linked}
use Rattle.trie.specs.Storing.{stored}
use Rattle.trie.proofs.Walk.{Walk, end, on, walk, follow_on, answer_stopped, where_stopped}
use Rattle.trie.proofs.Listing.{listing_holds, keys_under_ascending}
use Rattle.trie.proofs.Filter.{filter_holds, filter_ascending}
use Rattle.trie.proofs.Count.{Alike, one_more, same_but, listed_others, stored_alike}
use Rattle.trie.proofs.Storing.{stored_child, stored_answer}
use Rattle.passing.specs.Passing.{passes, count_at, one}

-- ---- walks that stay

-- a walk passes its first node, or a later one
passes_on : (t : Table) (q p x : ℕ) (xs : List ℕ) → t.child p x ≢ 0 → passes t q p (x ∷ xs)
    ≡ eqb p q || passes t q (t.child p x) xs
unfolding passes
passes_on t q p x xs h = ap (eqb p q ||◌) (follow_on (t.child p x) false (λ c. passes t q c xs) h)

-- if s has every link of t that is not empty, a complete walk passes the same nodes in both
walk_passes : (t s : Table) (q : ℕ) {p r : ℕ} {j : List ℕ}
    → ((p i : ℕ) → t.child p i ≢ 0 → s.child p i ≡ t.child p i)
    → Walk t p j (complete r) → passes s q p j ≡ passes t q p j
unfolding passes
walk_passes t s q same end = refl
walk_passes t s q same (on {q = p} {x} {xs} h w) =
    let e : s.child p x ≡ t.child p x = same p x h in
    passes_on s q p x xs (rw e h) ∙ rw e (ap (eqb p q ||◌) (walk_passes t s q same w))
    ∙ sym (passes_on t q p x xs h)

-- a store changes no link but an empty one
link_stays : {t : Table} {g n : ℕ} → Framed t g n → (k : List ℕ) (v p i : ℕ) → t.child p i ≢ 0
    → (stored t g k v).child p i ≡ t.child p i
link_stays {t} {g} f k v p i full =
    stored_child t g k v p i (inside (dec_le p g)) (λ xs e. full (where_stopped t 0 k e).empty)
  where
    inside : Dec (p ≤ g) → p ≤ g
    inside (yes h) = h
    inside (no h) = absurd (full (f.no_node p i (omega arith)))

-- a key with a complete walk passes the same nodes as before
pub complete_passes : {t : Table} {g n : ℕ} → Framed t g n → (k : List ℕ) (v q : ℕ) (j : List ℕ)
    {r : ℕ} → descend t 0 j ≡ complete r
    → passes (stored t g k v) q 0 j ≡ passes t q 0 j
complete_passes {t} {g} f k v q j e =
    walk_passes t (stored t g k v) q (link_stays f k v) (walk t 0 j e)

-- so does a stored key
pub stored_passes : {t : Table} {g n : ℕ} → Framed t g n → (k : List ℕ) (v q : ℕ) (j : List ℕ)
    → answer t j ≢ 0
    → passes (stored t g k v) q 0 j ≡ passes t q 0 j
stored_passes {t} {g} f k v q j full = go (descend t 0 j) refl
  where
    go : (d : Descent) → descend t 0 j ≡ d → passes (stored t g k v) q 0 j ≡ passes t q 0 j
    go (complete r) e = complete_passes f k v q j e
    go (stopped p x xs) e = absurd (full (answer_stopped t j e))

-- ---- counts

-- Lists in order that differ at most in k. It is in l if x is not 0 and b is true, and in m if y
-- is not 0 and b is true.
counted : (l m : List (List ℕ)) (k : List ℕ) (b : Bool) (x y : ℕ) → Ascending l → Ascending m
    → (Memᴰ k l ↔ ((x ≢ 0) × (b ≡ true)))
    → (Memᴰ k m ↔ ((y ≢ 0) × (b ≡ true)))
    → ((j : List ℕ) → j ≢ k → Memᴰ j l ↔ Memᴰ j m)
    → length m + cond b (one x) 0 ≡ length l + cond b (one y) 0
unfolding one
counted l m k false x y hl hm in_l in_m others =
    let own : Memᴰ k l ↔ Memᴰ k m =
    (λ a. absurd (true≢false (sym (in_l.0 a).1)), λ a. absurd (true≢false (sym (in_m.0 a).1)))
    in
    ap (λ (l : List (List ℕ)). length l + 0) (sym (same_but l m k hl hm own others))
counted l m k true zero zero hl hm in_l in_m others =
    let own : Memᴰ k l ↔ Memᴰ k m =
    (λ a. absurd ((in_l.0 a).0 refl), λ a. absurd ((in_m.0 a).0 refl)) in
    ap (λ (l : List (List ℕ)). length l + 0) (sym (same_but l m k hl hm own others))
counted l m k true zero (suc y) hl hm in_l in_m others =
    let e = one_more l m k hl hm (λ a. (in_l.0 a).0 refl) (in_m.1 (omega arith, refl)) others in
    omega arith
counted l m k true (suc x) zero hl hm in_l in_m others =
    let e = one_more m l k hm hl (λ a. (in_m.0 a).0 refl) (in_l.1 (omega arith, refl))
    (λ j other. ((others j other).1, (others j other).0)) in
    omega arith
counted l m k true (suc x) (suc y) hl hm in_l in_m others =
    let own : Memᴰ k l ↔ Memᴰ k m =
    (λ a. in_m.1 (omega arith, refl), λ a. in_l.1 (omega arith, refl)) in
    ap (λ (l : List (List ℕ)). length l + 1) (sym (same_but l m k hl hm own others))

-- two tables that answer alike for every key but k, and a test for each; for the keys that are
-- present in the first table the tests agree
shift : {t s : Table} {g h n least most : ℕ} {k : List ℕ} → Alike t s g h n least most k
    → (p r : List ℕ → Bool)
    → ((j : List ℕ) → answer t j ≢ 0 → r j ≡ p j)
    → length (filter r (listing s n least most)) + cond (r k) (one (answer t k)) 0
    ≡ length (filter p (listing t n least most)) + cond (r k) (one (answer s k)) 0
shift {t} {s} {n = n} {least} {most} {k} a p r same =
    counted
    (filter p (listing t n least most))
    (filter r (listing s n least most))
    k
    (r k)
    (answer t k)
    (answer s k)
    (filter_ascending p _ (keys_under_ascending t n least most 0))
    (filter_ascending r _ (keys_under_ascending s n least most 0)) (
      λ b. let (c, e) = (passed k).0 b in (full k c, e),
      λ f. (passed k).1 ((listing_holds a.from least most k).1 (a.low, a.high, f.0), f.1),
    ) (
      λ b. let (c, e) = (filter_holds r (listing s n least most) k).0 b in
          (((listing_holds a.to least most k).0 c).2, e),
      λ f. (filter_holds r (listing s n least most) k).1
          ((listing_holds a.to least most k).1 (a.low, a.high, f.0), f.1),
    )
    (λ j other. (
      λ b. let (c, e) = (passed j).0 b in (filter_holds r (listing s n least most) j).1
          ((listed_others a j other).0 c, e),
      λ b. let (c, e) = (filter_holds r (listing s n least most) j).0 b in
          (passed j).1 ((listed_others a j other).1 c, e),
    ))
  where
    full : (j : List ℕ) → Memᴰ j (listing t n least most) → answer t j ≢ 0
    full j c = ((listing_holds a.from least most j).0 c).2

    -- in the first listing too, the second test decides
    passed : (j : List ℕ) → Memᴰ j (filter p (listing t n least most))
        ↔ (Memᴰ j (listing t n least most) × (r j ≡ true))
    passed j = (
      λ b. let (c, e) =
          (filter_holds p (listing t n least most) j).0 b in (c, same j (full j c) ∙ e),
      λ f. (filter_holds p (listing t n least most) j).1
          (f.0, sym (same j (full j f.0)) ∙ f.1),
    )

-- the count of a node that the key passes goes down by one if the key was stored, and up by one
-- if it is stored now
pub stored_counts : {t : Table} {g n : ℕ} → Linked t g n → (k : List ℕ) → LettersBelow n k
    → (v least most : ℕ) → least ≤ length k → length k ≤ most → (q : ℕ)
    → count_at (stored t g k v) n least most q + cond (passes (stored t g k v) q 0 k)
    (one (answer t k)) 0
    ≡ count_at t n least most q + cond (passes (stored t g k v) q 0 k) (one v) 0
unfolding count_at
stored_counts {t} {g} l k letters v least most low high q =
    let a = stored_alike l k letters v least most low high in
    rw (stored_answer l k letters v) at
    (shift a (passes t q 0) (passes (stored t g k v) q 0) (stored_passes l.framed k v q))

-- off the key's path the counts stay
pub stored_counts_off : {t : Table} {g n : ℕ} → Linked t g n → (k : List ℕ) → LettersBelow n k
    → (v least most : ℕ) → least ≤ length k → length k ≤ most → (q : ℕ)
    → passes (stored t g k v) q 0 k ≡ false
    → count_at (stored t g k v) n least most q ≡ count_at t n least most q
stored_counts_off l k letters v least most low high q off =
    let e = rw off at (stored_counts l k letters v least most low high q) in
    omega arith
