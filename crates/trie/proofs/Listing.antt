-- Which keys are in a listing, and in which order. A node's own key comes before all keys that
-- extend it, the keys under a node go letter by letter, and both hold at every node on the way
-- down. Lists in order that hold the same keys are then equal.
use Prim.Native.Nat.{ℕ, zero, suc, pred, ◌+◌, ◌<◌, ◌≤◌}
use native.Mathlib.Omega.{arith}
use native.Mathlib.Decide.{ℕ_discrete}
use mathlib.Core.Bool.{Bool, true, false, true≢false}
use mathlib.Core.List.{List, [], ◌∷◌, ◌++◌, map, Memᴰ}
use mathlib.Core.Logic.{◌↔◌, ◌≢◌, ◌⊎◌, inl, inr, ⊎_elim}
use mathlib.Core.Option.{none, some, some-injective, some-ne-none}
use mathlib.Core.Path.{◌≡◌, refl, sym, ◌∙◌, ap, ap₂, subst}
use lib.ListN.{length}
use Rattle.trie.specs.Table.{Table, complete, stopped, follow, descend, value_at, answer}
use Rattle.trie.specs.Table.{LettersBelow}
use Rattle.trie.specs.Keys.{present, own_key, by_letter, keys_under, listing, before}
use Rattle.trie.specs.Keys.{first_meeting, Ascending}
use Rattle.trie.specs.Rules.{Framed}
use Rattle.trie.proofs.Walk.{descend_nil, descend_on}
use Rattle.trie.proofs.Before.{before_cons, before_lower, before_extension, before_apart}
use Rattle.trie.proofs.Before.{before_asym}

-- ---- which keys are listed

-- a key of these begins with one of the letters, x, and `keys x` has what follows
pub by_letter_cases : {k : List ℕ} (keys : ℕ → List (List ℕ)) (i m : ℕ)
    → Memᴰ k (by_letter keys i m)
    → (x : ℕ) × (r : List ℕ) × (k ≡ x ∷ r) × (i ≤ x) × (x < i + m) × Memᴰ r (keys x)
unfolding by_letter
by_letter_cases keys i zero h = absurd (mathlib.Core.List.Memᴰ.not-nil h)
by_letter_cases {k} keys i (suc m) h =
    ⊎_elim
    (λ here. let (r, hr, e) = mathlib.Core.List.Memᴰ.of_map (i ∷◌) (keys i) here in
    (i, r, sym e, omega arith, omega arith, hr))
    (λ there. let (x, r, e, low, high, hr) = by_letter_cases {k = k} keys (suc i) m there in
    (x, r, e, omega arith, omega arith, hr))
    (mathlib.Core.List.Memᴰ.append_cases (map (i ∷◌) (keys i)) h)

by_letter_holds : (keys : ℕ → List (List ℕ)) (i m x : ℕ) {r : List ℕ}
    → i ≤ x → x < i + m → Memᴰ r (keys x)
    → Memᴰ (x ∷ r) (by_letter keys i m)
unfolding by_letter
by_letter_holds keys i zero x low high h = absurd (omega arith)
by_letter_holds keys i (suc m) x {r} low high h =
    go (ℕ_discrete i x) (λ above. by_letter_holds keys (suc i) m x above (omega arith) h)
  where
    go : Dec (i ≡ x) → (i < x → Memᴰ (x ∷ r) (by_letter keys (suc i) m))
        → Memᴰ (x ∷ r) (by_letter keys i (suc m))
    go (yes e) on =
        mathlib.Core.List.Memᴰ.append_left (by_letter keys (suc i) m)
        (subst (λ (j : ℕ). Memᴰ (x ∷ r) (map (j ∷◌) (keys j))) (sym e)
        (mathlib.Core.List.Memᴰ.map (x ∷◌) h))
    go (no other) on = mathlib.Core.List.Memᴰ.append_right (map (i ∷◌) (keys i)) (on (omega arith))

-- what a key needs to be listed at a node: its length is within the limits, and its walk from
-- there ends at a node whose data is not 0
abbrev pub Found : Table → ℕ → ℕ → ℕ → List ℕ → Type 0
Found t short left q k = (short ≤ length k) × (length k ≤ left) × (value_at t (descend t q k) ≢ 0)

pub own_cases : {k : List ℕ} (t : Table) (short q : ℕ) → Memᴰ k (own_key t short q)
    → (k ≡ []) × (short ≤ 0) × (t.value q ≢ 0)
unfolding own_key
own_cases {k} t zero q h = go (t.value q) h
  where
    go : (v : ℕ) → Memᴰ k (present v) → (k ≡ []) × (0 ≤ 0) × (v ≢ 0)
    go zero h = absurd (mathlib.Core.List.Memᴰ.not-nil h)
    go (suc v) h = (mathlib.Core.List.Memᴰ.eq_of_singleton h, omega arith, omega arith)
own_cases t (suc short) q h = absurd (mathlib.Core.List.Memᴰ.not-nil h)

own_holds : (t : Table) (short q : ℕ) → short ≤ 0 → t.value q ≢ 0
    → Memᴰ [] (own_key t short q)
unfolding own_key
own_holds t zero q low h = go (t.value q) h
  where
    go : (v : ℕ) → v ≢ 0 → Memᴰ [] (present v)
    go zero h = absurd (h refl)
    go (suc v) h = mathlib.Core.List.Memᴰ.head refl
own_holds t (suc short) q low h = absurd (omega arith)

-- a link that leads to keys is not empty
pub follow_cases : {r : List ℕ} (c : ℕ) (keys : ℕ → List (List ℕ)) → Memᴰ r (follow c [] keys)
    → (c ≢ 0) × Memᴰ r (keys c)
unfolding follow
follow_cases zero keys a = absurd (mathlib.Core.List.Memᴰ.not-nil a)
follow_cases (suc c) keys a = (omega arith, a)

module _ (t : Table) (n : ℕ) where
  -- what follows letter i in the keys under node q
  abbrev pub under : ℕ → ℕ → ℕ → ℕ → List (List ℕ)
  under short left q i = follow (t.child q i) [] (λ c. keys_under t n (pred short) left c)

  -- a key of letter x and then r, where c is the link of x
  link_holds : (short left q x : ℕ) (r : List ℕ) (c : ℕ)
      → (n ≤ x → c ≡ 0)
      → ((p : ℕ) → Found t short left p r → Memᴰ r (keys_under t n short left p))
      → short ≤ length r
      → length r ≤ left
      → value_at t (follow c (stopped q x r) (λ p. descend t p r)) ≢ 0
      → (x < n) × Memᴰ r (follow c [] (λ p. keys_under t n short left p))
  unfolding follow value_at
  link_holds short left q x r zero none_above on low high h = absurd (h refl)
  link_holds short left q x r (suc c) none_above on low high h =
      let within : ¬ (n ≤ x) = λ l. omega (arith, none_above l) in
      (omega arith, on (suc c) (low, high, h))

  pub keys_under_holds : ((p i : ℕ) → n ≤ i → t.child p i ≡ 0)
      → (short left q : ℕ) (k : List ℕ)
      → Found t short left q k
      → Memᴰ k (keys_under t n short left q)
  unfolding keys_under descend value_at
  keys_under_holds none_above short zero q [] h = own_holds t short q h.0 h.2
  keys_under_holds none_above short zero q (x ∷ r) h = absurd (omega arith)
  keys_under_holds none_above short (suc left) q [] h =
      mathlib.Core.List.Memᴰ.append_left _ (own_holds t short q h.0 h.2)
  keys_under_holds none_above short (suc left) q (x ∷ r) h =
      let on : (p : ℕ) → Found t (pred short) left p r
      → Memᴰ r (keys_under t n (pred short) left p) =
      λ p. keys_under_holds none_above (pred short) left p r in
      let f = link_holds (pred short) left q x r (t.child q x) (none_above q x) on (omega arith)
      (omega arith) h.2 in
      mathlib.Core.List.Memᴰ.append_right (own_key t short q)
      (by_letter_holds _ 0 n x (omega arith) (omega (arith, f.0)) f.1)

  -- what is known of a key that is listed at node q
  pub record Listed (short left q : ℕ) (k : List ℕ) : Type 0 where
    pub node : ℕ
    pub reaches : descend t q k ≡ complete node
    pub full : t.value node ≢ 0
    pub long : short ≤ length k
    pub deep : length k ≤ left
    pub letters : LettersBelow n k

  own_listed : {k : List ℕ} (short left q : ℕ) → Memᴰ k (own_key t short q)
      → Listed short left q k
  own_listed short left q a =
      let (e, low, full) = own_cases t short q a in
      subst
      (Listed short left q)
      (sym e)
      (record {
        node = q;
        reaches = descend_nil t q;
        full = full;
        long = low;
        deep = omega arith;
        letters = tt;
      })

  -- a letter before a key that is listed at the node of its link
  pub link_listed : {r : List ℕ} (short left q x : ℕ) → x < n → 0 < left → t.child q x ≢ 0
      → Listed (pred short) (pred left) (t.child q x) r
      → Listed short left q (x ∷ r)
  link_listed {r} short left q x low room linked f =
      record {
        node = f.node;
        reaches = descend_on t q x r linked ∙ f.reaches;
        full = f.full;
        long = omega arith;
        deep = omega arith;
        letters = (low, f.letters);
      }

  pub under_listed : (short left q : ℕ) (k : List ℕ) → Memᴰ k (keys_under t n short left q)
      → Listed short left q k
  unfolding keys_under
  under_listed short zero q k h = own_listed short 0 q h
  under_listed short (suc left) q k h =
      ⊎_elim
      (own_listed short (suc left) q)
      (λ below.
      let (x, r, e, low, high, hr) = by_letter_cases (under short left q) 0 n below in
      let (linked, a) = follow_cases (t.child q x) _ hr in
      let f : Listed (pred short) left (t.child q x) r =
      under_listed (pred short) left (t.child q x) r a in
      subst (Listed short (suc left) q) (sym e)
      (link_listed short (suc left) q x (omega arith) (omega arith) linked f))
      (mathlib.Core.List.Memᴰ.append_cases (own_key t short q) h)

  pub keys_under_found : (short left q : ℕ) (k : List ℕ) → Memᴰ k (keys_under t n short left q)
      → Found t short left q k
  unfolding value_at
  keys_under_found short left q k h =
      let f = under_listed short left q k h in (f.long, f.deep, rw f.reaches f.full)

-- "A stored key is one with length in min..max whose data is not 0"
pub listing_holds : {t : Table} {g n : ℕ} → Framed t g n → (least most : ℕ) (k : List ℕ)
    → Memᴰ k (listing t n least most)
    ↔ ((least ≤ length k) × (length k ≤ most) × (answer t k ≢ 0))
unfolding answer
listing_holds {t} {n = n} f least most k =
    (keys_under_found t n least most 0 k, keys_under_holds t n f.no_letter least most 0 k)

-- ---- in which order they are listed

append_ascending : (l m : List (List ℕ)) → Ascending l → Ascending m
    → ((j k : List ℕ) → Memᴰ j l → Memᴰ k m → before j k ≡ true)
    → Ascending (l ++ m)
append_ascending [] m hl hm across = hm
append_ascending (x ∷ l) m hl hm across = (
  λ k h. ⊎_elim (hl.0 k) (across x k (mathlib.Core.List.Memᴰ.head refl))
      (mathlib.Core.List.Memᴰ.append_cases l h),
  append_ascending l m hl.1 hm (λ j k a. across j k (mathlib.Core.List.Memᴰ.tail a)),
)

map_ascending : (i : ℕ) (l : List (List ℕ)) → Ascending l → Ascending (map (i ∷◌) l)
map_ascending i [] h = tt
map_ascending i (k ∷ l) h = (
  λ m a. let (r, hr, e) =
      mathlib.Core.List.Memᴰ.of_map (i ∷◌) l a in ap (before (i ∷ k)) (sym e) ∙ before_cons i k r
      ∙ h.0 r hr,
  map_ascending i l h.1,
)

by_letter_ascending : (keys : ℕ → List (List ℕ)) (i m : ℕ) → ((x : ℕ) → Ascending (keys x))
    → Ascending (by_letter keys i m)
unfolding by_letter
by_letter_ascending keys i zero h = tt
by_letter_ascending keys i (suc m) h =
    append_ascending
    (map (i ∷◌) (keys i))
    (by_letter keys (suc i) m)
    (map_ascending i (keys i) (h i))
    (by_letter_ascending keys (suc i) m h)
    (λ j k a b.
    let (r, hr, e) = mathlib.Core.List.Memᴰ.of_map (i ∷◌) (keys i) a in
    let (x, s, f, low, high, hs) = by_letter_cases keys (suc i) m b in
    ap₂ before (sym e) f ∙ before_lower i x r s low)

own_ascending : (t : Table) (short q : ℕ) → Ascending (own_key t short q)
unfolding own_key
own_ascending t zero q = go (t.value q)
  where
    go : (v : ℕ) → Ascending (present v)
    go zero = tt
    go (suc v) = (λ m h. absurd (mathlib.Core.List.Memᴰ.not-nil h), tt)
own_ascending t (suc short) q = tt

link_ascending : (keys : ℕ → List (List ℕ)) → ((c : ℕ) → Ascending (keys c)) → (c : ℕ)
    → Ascending (follow c [] keys)
unfolding follow
link_ascending keys h zero = tt
link_ascending keys h (suc c) = h (suc c)

-- "Order: a key comes before its extensions; otherwise the first different letter number decides"
pub keys_under_ascending : (t : Table) (n short left q : ℕ)
    → Ascending (keys_under t n short left q)
unfolding keys_under
keys_under_ascending t n short zero q = own_ascending t short q
keys_under_ascending t n short (suc left) q =
    append_ascending
    (own_key t short q)
    (by_letter (under t n short left q) 0 n)
    (own_ascending t short q)
    (by_letter_ascending _ 0 n (λ x. link_ascending _ (keys_under_ascending t n (pred short) left)
    (t.child q x)))
    (λ j k a b.
    let (e, low, full) = own_cases t short q a in
    let (x, s, f, above, below, hs) = by_letter_cases (under t n short left q) 0 n b in
    ap₂ before e f ∙ before_extension [] x s)

-- ---- lists in order

-- such a list holds each key once
pub held_once : (l m : List (List ℕ)) (k : List ℕ) → Ascending (l ++ k ∷ m)
    → ¬ Memᴰ k (l ++ m)
held_once [] m k h a = before_apart k k (h.0 k a) refl
held_once (x ∷ l) m k h a =
    ⊎_elim
    (λ e. before_apart x k (h.0 k (mathlib.Core.List.Memᴰ.append_right l
    (mathlib.Core.List.Memᴰ.head refl))) (sym e))
    (held_once l m k h.1)
    (mathlib.Core.List.Memᴰ.cases_cons a)

tail_keys : (x y : List ℕ) (l m : List (List ℕ)) → x ≡ y → Ascending (x ∷ l)
    → ((k : List ℕ) → Memᴰ k (x ∷ l) → Memᴰ k (y ∷ m))
    → (k : List ℕ) → Memᴰ k l → Memᴰ k m
tail_keys x y l m e h to k a =
    ⊎_elim
    (λ f. absurd (before_apart x k (h.0 k a) (e ∙ sym f)))
    (λ b. b)
    (mathlib.Core.List.Memᴰ.cases_cons (to k (mathlib.Core.List.Memᴰ.tail a)))

-- and is determined by its keys
pub same_keys : (l m : List (List ℕ)) → Ascending l → Ascending m
    → ((k : List ℕ) → Memᴰ k l → Memᴰ k m)
    → ((k : List ℕ) → Memᴰ k m → Memᴰ k l)
    → l ≡ m
same_keys [] [] hl hm to from = refl
same_keys [] (y ∷ m) hl hm to from = absurd (mathlib.Core.List.Memᴰ.not-nil
    (from y (mathlib.Core.List.Memᴰ.head refl)))
same_keys (x ∷ l) [] hl hm to from = absurd (mathlib.Core.List.Memᴰ.not-nil
    (to x (mathlib.Core.List.Memᴰ.head refl)))
same_keys (x ∷ l) (y ∷ m) hl hm to from =
    let e = heads (mathlib.Core.List.Memᴰ.cases_cons (to x (mathlib.Core.List.Memᴰ.head refl)))
    (mathlib.Core.List.Memᴰ.cases_cons (from y (mathlib.Core.List.Memᴰ.head refl))) in
    ap₂ ◌∷◌ e (same_keys l m hl.1 hm.1 (tail_keys x y l m e hl to)
    (tail_keys y x m l (sym e) hm from))
  where
    heads : (x ≡ y) ⊎ Memᴰ x m → (y ≡ x) ⊎ Memᴰ y l → x ≡ y
    heads (inl e) b = e
    heads (inr a) (inl e) = sym e
    heads (inr a) (inr b) = absurd (true≢false (sym (hm.0 x a) ∙ before_asym x y (hl.0 y b)))

-- ---- the first key that meets a request

-- there is none exactly if no key passes
pub first_none : (p : List ℕ → Bool) (l : List (List ℕ))
    → (first_meeting p l ≡ none) ↔ ((k : List ℕ) → Memᴰ k l → p k ≡ false)
unfolding first_meeting
first_none p [] = (λ h k a. absurd (mathlib.Core.List.Memᴰ.not-nil a), λ h. refl)
first_none p (k ∷ l) = go (p k) refl (first_none p l)
  where
    go : (b : Bool) → p k ≡ b
        → (first_meeting p l ≡ none) ↔ ((m : List ℕ) → Memᴰ m l → p m ≡ false)
        → (first_meeting p (k ∷ l) ≡ none) ↔ ((m : List ℕ) → Memᴰ m (k ∷ l) → p m ≡ false)
    go true e on = (
      λ h. absurd (some-ne-none k (rw e at h)),
      λ h. absurd (true≢false (sym e ∙ h k (mathlib.Core.List.Memᴰ.head refl))),
    )
    go false e on = (
      λ h m a. ⊎_elim (λ f. ap p f ∙ e) (on.0 (rw e at h) m) (mathlib.Core.List.Memᴰ.cases_cons a),
      λ h. rw e (on.1 (λ m a. h m (mathlib.Core.List.Memᴰ.tail a))),
    )

-- k is in the list and passes, and every other key that passes comes after it
pub record First (p : List ℕ → Bool) (l : List (List ℕ)) (k : List ℕ) : Type 0 where
  pub listed : Memᴰ k l
  pub passes : p k ≡ true
  pub least : (m : List ℕ) → Memᴰ m l → p m ≡ true → m ≢ k → before k m ≡ true

pub first_some : (p : List ℕ → Bool) (l : List (List ℕ)) (k : List ℕ) → Ascending l
    → first_meeting p l ≡ some k → First p l k
unfolding first_meeting
first_some p [] k up h = absurd (some-ne-none k (sym h))
first_some p (x ∷ l) k up h = go (p x) refl (first_some p l k up.1)
  where
    go : (b : Bool) → p x ≡ b → (first_meeting p l ≡ some k → First p l k) → First p (x ∷ l) k
    go true e on =
        let same : x ≡ k = some-injective x k (rw e at h) in
        let after : (m : List ℕ) → Memᴰ m l → before k m ≡ true =
        λ m a. ap (λ (z : List ℕ). before z m) (sym same) ∙ up.0 m a in
        record {
          listed = mathlib.Core.List.Memᴰ.head (sym same);
          passes = ap p (sym same) ∙ e;
          least = λ m a q other. ⊎_elim (λ f. absurd (other (f ∙ same))) (after m)
              (mathlib.Core.List.Memᴰ.cases_cons a);
        }
    go false e on =
        let f = on (rw e at h) in
        record {
          listed = mathlib.Core.List.Memᴰ.tail f.listed;
          passes = f.passes;
          least = λ m a q other.
              ⊎_elim (λ g. absurd (true≢false (sym q ∙ ap p g ∙ e))) (λ b. f.least m b q other)
              (mathlib.Core.List.Memᴰ.cases_cons a);
        }
