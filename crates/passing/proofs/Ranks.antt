-- Positions among keys. If the keys are in order, those that come before a key are those before
-- it in the list, so its rank is its position. Keys that begin with one letter all come before a
-- key with a later first letter, and none comes before a key with an earlier one.
use Prim.Native.Nat.{ℕ, zero, suc, ◌+◌, ◌-◌, ◌≤◌, ◌<◌}
use native.Mathlib.Omega.{arith}
use mathlib.Core.Bool.{true, false}
use mathlib.Core.List.Memᴰ
use mathlib.Core.List.{List, [], ◌∷◌, ◌++◌, map, Memᴰ}
use mathlib.Core.Logic.{⊎_elim}
use mathlib.Core.Option.{none, some, some-injective, some-ne-none}
use mathlib.Core.Path.{◌≡◌, refl, sym, ◌∙◌, ap, subst}
use lib.ListN.{length, length-append, length-map}
use Rattle.trie.specs.Table.{Table}
use Rattle.trie.specs.Keys.{own_key, before, meets, first_meeting, filter, Ascending}
use Rattle.trie.specs.Beyond.{first_of}
use Rattle.trie.proofs.Before.{before_cons, before_lower, before_irrefl, before_asym}
use Rattle.trie.proofs.Listing.{own_cases}
use Rattle.trie.proofs.Filter.{filter_in, filter_out, filter_append, filter_map, filter_none}
use Rattle.trie.proofs.Filter.{filter_every, filter_length, filter_all, first_filter}
use Rattle.passing.specs.Passing.{key_at, rank_in}

-- ---- the key at a position

pub at_left : (xs ys : List (List ℕ)) (i : ℕ) → i < length xs → key_at (xs ++ ys) i ≡ key_at xs i
unfolding key_at
at_left [] ys i h = absurd (omega arith)
at_left (x ∷ xs) ys zero h = refl
at_left (x ∷ xs) ys (suc i) h = at_left xs ys i (omega arith)

pub at_right : (xs ys : List (List ℕ)) (i : ℕ) → length xs ≤ i → key_at (xs ++ ys) i
    ≡ key_at ys (i - length xs)
unfolding key_at
at_right [] ys i h = let e : i - 0 ≡ i = omega arith in rw e
at_right (x ∷ xs) ys zero h = absurd (omega arith)
at_right (x ∷ xs) ys (suc i) h = let e : suc i - suc (length xs) ≡ i - length xs = omega arith in
    rw e (at_right xs ys i (omega arith))

pub at_map : (x : ℕ) (keys : List (List ℕ)) (i : ℕ) {k : List ℕ} → key_at keys i ≡ some k
    → key_at (map (x ∷◌) keys) i ≡ some (x ∷ k)
unfolding key_at
at_map x [] i {k} e = absurd (some-ne-none k (sym e))
at_map x (m ∷ keys) zero {k} e = ap (λ (j : List ℕ). some (x ∷ j)) (some-injective m k e)
at_map x (m ∷ keys) (suc i) e = at_map x keys i e

pub at_some : (keys : List (List ℕ)) (i : ℕ) → i < length keys → (k : List ℕ)
    × (key_at keys i ≡ some k)
unfolding key_at
at_some [] i h = absurd (omega arith)
at_some (k ∷ keys) zero h = (k, refl)
at_some (k ∷ keys) (suc i) h = at_some keys i (omega arith)

pub at_none : (keys : List (List ℕ)) (i : ℕ) → length keys ≤ i → key_at keys i ≡ none
unfolding key_at
at_none [] i h = refl
at_none (k ∷ keys) zero h = absurd (omega arith)
at_none (k ∷ keys) (suc i) h = at_none keys i (omega arith)

pub at_held : (keys : List (List ℕ)) (i : ℕ) {k : List ℕ} → key_at keys i ≡ some k
    → Memᴰ k keys
unfolding key_at
at_held [] i {k} e = absurd (some-ne-none k (sym e))
at_held (m ∷ keys) zero {k} e = Memᴰ.head (sym (some-injective m k e))
at_held (m ∷ keys) (suc i) e = Memᴰ.tail (at_held keys i e)

pub at_below : (keys : List (List ℕ)) (i : ℕ) {k : List ℕ} → key_at keys i ≡ some k
    → i < length keys
unfolding key_at
at_below [] i {k} e = absurd (some-ne-none k (sym e))
at_below (m ∷ keys) zero e = omega arith
at_below (m ∷ keys) (suc i) e = let h = at_below keys i e in omega arith

-- ---- how many keys come before a key

pub rank_few : (keys : List (List ℕ)) (k : List ℕ) → rank_in keys k ≤ length keys
unfolding rank_in
rank_few keys k = filter_length (λ m. before m k) keys

pub rank_append : (xs ys : List (List ℕ)) (k : List ℕ) → rank_in (xs ++ ys) k ≡ rank_in xs k
    + rank_in ys k
unfolding rank_in
rank_append xs ys k =
    ap length (filter_append (λ m. before m k) xs ys) ∙ length-append (filter (λ m. before m k) xs)
    (filter (λ m. before m k) ys)

-- if none does, and if all do
rank_none : (keys : List (List ℕ)) (k : List ℕ)
    → ((m : List ℕ) → Memᴰ m keys → before m k ≡ false) → rank_in keys k ≡ 0
unfolding rank_in
rank_none keys k h = ap length (filter_none (λ m. before m k) keys h)

rank_every : (keys : List (List ℕ)) (k : List ℕ)
    → ((m : List ℕ) → Memᴰ m keys → before m k ≡ true) → rank_in keys k ≡ length keys
unfolding rank_in
rank_every keys k h = ap length (filter_every (λ m. before m k) keys h)

-- no key comes before the empty key
pub rank_nil : (keys : List (List ℕ)) → rank_in keys [] ≡ 0
unfolding before
rank_nil keys = rank_none keys [] (λ m a. first m)
  where
    first : (m : List ℕ) → before m [] ≡ false
    first [] = refl
    first (x ∷ m) = refl

-- keys that begin with a lower letter, with the same letter, and with a higher one
pub rank_lower : (i x : ℕ) (keys : List (List ℕ)) (k : List ℕ) → i < x
    → rank_in (map (i ∷◌) keys) (x ∷ k) ≡ length keys
rank_lower i x keys k h =
    rank_every (map (i ∷◌) keys) (x ∷ k) (λ m a.
    let (r, hr, e) = Memᴰ.of_map (i ∷◌) keys a in
    ap (λ (j : List ℕ). before j (x ∷ k)) (sym e) ∙ before_lower i x r k h)
    ∙ length-map keys (i ∷◌)

pub rank_same : (x : ℕ) (keys : List (List ℕ)) (k : List ℕ) → rank_in (map (x ∷◌) keys) (x ∷ k)
    ≡ rank_in keys k
unfolding rank_in
rank_same x keys k =
    ap length (filter_map (λ m. before m (x ∷ k)) (λ m. before m k) x keys
    (λ m. before_cons x m k))
    ∙ length-map (filter (λ m. before m k) keys) (x ∷◌)

pub rank_higher : (i x : ℕ) (keys : List (List ℕ)) (k : List ℕ) → x < i
    → rank_in (map (i ∷◌) keys) (x ∷ k) ≡ 0
rank_higher i x keys k h =
    rank_none (map (i ∷◌) keys) (x ∷ k) (λ m a.
    let (r, hr, e) = Memᴰ.of_map (i ∷◌) keys a in
    ap (λ (j : List ℕ). before j (x ∷ k)) (sym e) ∙ before_asym (x ∷ k) (i ∷ r)
    (before_lower x i k r h))

-- a node's own key comes before all keys that extend it
pub rank_own : (t : Table) (short q x : ℕ) (k : List ℕ) → rank_in (own_key t short q) (x ∷ k)
    ≡ length (own_key t short q)
unfolding before
rank_own t short q x k =
    rank_every (own_key t short q) (x ∷ k)
    (λ m a. ap (λ (j : List ℕ). before j (x ∷ k)) (own_cases t short q a).0)

-- ---- rank and position are the same

-- at the first key, and after it
rank_here : (m : List ℕ) (keys : List (List ℕ)) → Ascending (m ∷ keys) → rank_in (m ∷ keys) m ≡ 0
rank_here m keys up =
    rank_none (m ∷ keys) m (λ j a.
    ⊎_elim
    (λ e. ap (λ (i : List ℕ). before i m) e ∙ before_irrefl m)
    (λ b. before_asym m j (up.0 j b))
    (Memᴰ.cases_cons a))

rank_after : (m : List ℕ) (keys : List (List ℕ)) (k : List ℕ) → before m k ≡ true
    → rank_in (m ∷ keys) k ≡ suc (rank_in keys k)
unfolding rank_in
rank_after m keys k h = ap length (filter_in (λ j. before j k) m keys h)

pub at_rank : (keys : List (List ℕ)) (i : ℕ) {k : List ℕ} → Ascending keys → key_at keys i ≡ some k
    → rank_in keys k ≡ i
unfolding key_at
at_rank [] i {k} up e = absurd (some-ne-none k (sym e))
at_rank (m ∷ keys) zero {k} up e =
    subst (λ (j : List ℕ). rank_in (m ∷ keys) j ≡ 0) (some-injective m k e)
    (rank_here m keys up)
at_rank (m ∷ keys) (suc i) {k} up e =
    rank_after m keys k (up.0 k (at_held keys i e)) ∙ ap (λ (r : ℕ). suc r)
    (at_rank keys i up.1 e)

pub rank_at : (keys : List (List ℕ)) (k : List ℕ) → Ascending keys → Memᴰ k keys
    → key_at keys (rank_in keys k) ≡ some k
unfolding key_at
rank_at [] k up a = absurd (Memᴰ.not-nil a)
rank_at (m ∷ keys) k up a =
    ⊎_elim
    (λ e. subst (λ (j : List ℕ). key_at (m ∷ keys) (rank_in (m ∷ keys) j) ≡ some j) (sym e)
    (rw (rank_here m keys up)))
    (λ b. rw (rank_after m keys k (up.0 k b)) (rank_at keys k up.1 b))
    (Memᴰ.cases_cons a)

pub rank_below : (keys : List (List ℕ)) (k : List ℕ) → Ascending keys → Memᴰ k keys
    → rank_in keys k < length keys
rank_below keys k up a = at_below keys (rank_in keys k) (rank_at keys k up a)

-- ---- positions as steps of next key

first_at : (keys : List (List ℕ)) → first_of keys ≡ key_at keys 0
unfolding first_of key_at
first_at [] = refl
first_at (k ∷ keys) = refl

pub at_first : (keys : List (List ℕ)) → first_meeting (meets false []) keys ≡ key_at keys 0
at_first keys = first_filter (meets false []) keys ∙ ap first_of (filter_all keys) ∙ first_at keys

-- the first of the keys after the key at a position
after_at : (keys : List (List ℕ)) (i : ℕ) {k : List ℕ} → Ascending keys → key_at keys i ≡ some k
    → first_of (filter (meets true k) keys) ≡ key_at keys (suc i)
unfolding key_at meets
after_at [] i {k} up e = absurd (some-ne-none k (sym e))
after_at (m ∷ keys) zero {k} up e =
    subst
    (λ (j : List ℕ). first_of (filter (meets true j) (m ∷ keys)) ≡ key_at keys 0)
    (some-injective m k e)
    (ap first_of (filter_out (meets true m) m keys (before_irrefl m) ∙ filter_every (meets true m)
    keys up.0) ∙ first_at keys)
after_at (m ∷ keys) (suc i) {k} up e =
    ap first_of (filter_out (meets true k) m keys (before_asym m k (up.0 k (at_held keys i e))))
    ∙ after_at keys i up.1 e

pub at_next : (keys : List (List ℕ)) (i : ℕ) {k : List ℕ} → Ascending keys → key_at keys i ≡ some k
    → first_meeting (meets true k) keys ≡ key_at keys (suc i)
at_next keys i {k} up e = first_filter (meets true k) keys ∙ after_at keys i up e
