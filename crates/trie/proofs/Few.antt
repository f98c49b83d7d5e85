-- A table has at most as many stored keys as nodes: each key ends at a node, and two keys that
-- end at one node are equal (`one_key`). At most g keys can have different numbers below g, by
-- induction on g: at most one key has the greatest number.
use Prim.Native.Nat.{ℕ, zero, suc, ◌<◌, ◌≤◌}
use native.Mathlib.Omega.{arith}
use mathlib.Core.Bool.{Bool, true, false, not}
use mathlib.Core.List.{List, [], ◌∷◌, Memᴰ}
use mathlib.Core.Path.{◌≡◌, refl, sym, ◌∙◌, ap}
use lib.Dec.{eqb}
use lib.ListN.{length}
use borrow.Author.Tests.{eqb-true, eqb-false, not-true, not-false}
use Rattle.trie.specs.Table.{Table, Descent, complete, stopped, descend}
use Rattle.trie.specs.Keys.{listing, filter, Ascending}
use Rattle.trie.specs.Rules.{Linked}
use Rattle.trie.proofs.Before.{before_apart}
use Rattle.trie.proofs.Filter.{by_test, filter_every, filter_holds, filter_ascending}
use Rattle.trie.proofs.Listing.{under_listed, keys_under_ascending}
use Rattle.trie.proofs.Walk.{one_key, complete_within}

-- a test that at most one key fails removes at most one key
one_out : (p : List ℕ → Bool) (l : List (List ℕ)) → Ascending l
    → ((j k : List ℕ) → Memᴰ j l → Memᴰ k l → p j ≡ false → p k ≡ false → j ≡ k)
    → length l ≤ suc (length (filter p l))
unfolding filter
one_out p [] up alone = omega arith
one_out p (x ∷ l) up alone =
    let on = one_out p l up.1 (λ j k a b. alone j k (Memᴰ.tail a) (Memᴰ.tail b)) in
    by_test _ p x (λ e. rw e (omega arith))
    (λ e. rw (e, filter_every p l (others e)) (omega arith))
  where
    others : p x ≡ false → (k : List ℕ) → Memᴰ k l → p k ≡ true
    others e k a =
        by_test _ p k
        (λ f. f)
        (λ f. absurd (before_apart x k (up.0 k a)
        (alone x k (Memᴰ.head refl) (Memᴰ.tail a) e f)))

-- keys in order, each with a different number below g
few : (node : List ℕ → ℕ) (g : ℕ) (l : List (List ℕ)) → Ascending l
    → ((k : List ℕ) → Memᴰ k l → node k < g)
    → ((j k : List ℕ) → Memᴰ j l → Memᴰ k l → node j ≡ node k → j ≡ k)
    → length l ≤ g
few node zero [] up low alone = omega arith
few node zero (x ∷ l) up low alone = absurd (omega (arith, low x (Memᴰ.head refl)))
few node (suc g) l up low alone =
    let on = few node g (filter p l) (filter_ascending p l up) lower
    (λ j k a b. alone j k (held j a).0 (held k b).0) in
    omega (arith, one_out p l up (λ j k a b e f. alone j k a b (top j e ∙ sym (top k f))))
  where
    p : List ℕ → Bool
    p k = not (eqb (node k) g)

    held : (k : List ℕ) → Memᴰ k (filter p l) → Memᴰ k l × (p k ≡ true)
    held k = (filter_holds p l k).0

    lower : (k : List ℕ) → Memᴰ k (filter p l) → node k < g
    lower k a =
        let h = held k a in
        let other : node k ≡ g → ⊥ = eqb-false (node k) g (not-true _ h.1) in
        omega (arith, low k h.0)

    top : (k : List ℕ) → p k ≡ false → node k ≡ g
    top k e = eqb-true (node k) g (not-false _ e)

-- where a complete walk ends
abbrev reached : Descent → ℕ
reached (complete q) = q
reached (stopped q x xs) = 0

pub listing_few : {t : Table} {g n : ℕ} → Linked t g n → (least most : ℕ)
    → length (listing t n least most) ≤ suc g
listing_few {t} {g} {n} linked least most =
    few node (suc g) (listing t n least most) (keys_under_ascending t n least most 0) low alone
  where
    node : List ℕ → ℕ
    node k = reached (descend t 0 k)

    ends : (k : List ℕ) → Memᴰ k (listing t n least most) → descend t 0 k ≡ complete (node k)
    ends k a = let f = under_listed t n least most 0 k a in
        f.reaches ∙ ap complete (sym (ap reached f.reaches))

    low : (k : List ℕ) → Memᴰ k (listing t n least most) → node k < suc g
    low k a = omega (arith, complete_within t g k linked.within (ends k a))

    alone : (j k : List ℕ) → Memᴰ j (listing t n least most)
        → Memᴰ k (listing t n least most) → node j ≡ node k → j ≡ k
    alone j k a b e = one_key t j k linked.once (ends j a ∙ ap complete e) (ends k b)
