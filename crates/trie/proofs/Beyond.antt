-- What of a listing is still to come, letter by letter and node by node. What comes after a path
-- is exactly what comes after its key: at each node of the path the keys with a lower letter come
-- before that key, and those with a higher letter after it.
use Prim.Native.Nat.{ℕ, zero, suc, pred, ◌+◌, ◌-◌, ◌<◌, ◌≤◌}
use native.Mathlib.Omega.{arith}
use native.Mathlib.Decide.{ℕ_discrete}
use native.Mathlib.Nat.{sub-zero}
use mathlib.Core.Bool.{Bool, true, false}
use mathlib.Core.List.{List, [], ◌∷◌, ◌++◌, map, append-nil, append_assoc, map-id, map-map}
use mathlib.Core.List.{map-append, Memᴰ}
use mathlib.Core.List.Memᴰ
use mathlib.Core.Logic.{◌≢◌}
use mathlib.Core.Option.{some}
use mathlib.Core.Path.{◌≡◌, refl, sym, ◌∙◌, ap, ap₂}
use lib.ListN.{length, length-append}
use Rattle.trie.specs.Table.{Table, complete, descend, LettersBelow}
use Rattle.trie.specs.Keys.{present, own_key, by_letter, keys_under, first_meeting, meets}
use Rattle.trie.specs.Keys.{filter}
use Rattle.trie.specs.Beyond.{first_of, keys_from, beyond}
use Rattle.trie.proofs.LettersBelow.{letters_before, letters_after}
use Rattle.trie.proofs.Before.{meets_empty, meets_lower, meets_cons, meets_higher}
use Rattle.trie.proofs.Before.{meets_none, meets_letter}
use Rattle.trie.proofs.Filter.{filter_append, filter_map, filter_none, filter_every}
use Rattle.trie.proofs.Filter.{filter_all, first_filter}
use Rattle.trie.proofs.Listing.{under, by_letter_cases, own_cases, follow_cases}
use Rattle.trie.proofs.Walk.{Walk, end, on, walk, follow_empty, follow_on}

-- a letter put before the keys of a path and what follows them; c comes after both
lead : (y : ℕ) (k : List ℕ) (a b c : List (List ℕ)) {l : List (List ℕ)} → l ≡ map (k ++◌) a ++ b
    → map (y ∷◌) l ++ c ≡ map ((y ∷ k) ++◌) a ++ (map (y ∷◌) b ++ c)
lead y k a b c e =
    ap (λ (m : List (List ℕ)). map (y ∷◌) m ++ c) e
    ∙ ap (◌++ c) (map-append (y ∷◌) (map (k ++◌) a) b ∙ ap (◌++ map (y ∷◌) b)
    (map-map (y ∷◌) (k ++◌) a))
    ∙ append_assoc (map ((y ∷ k) ++◌) a) (map (y ∷◌) b) c

-- ---- a node's own key

pub own_none : (t : Table) (short q : ℕ) → t.value q ≡ 0 → own_key t short q ≡ []
unfolding own_key
own_none t zero q e = ap present e
own_none t (suc short) q e = refl

pub own_short : (t : Table) (short q : ℕ) → 0 < short → own_key t short q ≡ []
unfolding own_key
own_short t zero q h = absurd (omega arith)
own_short t (suc short) q h = refl

pub own_there : (t : Table) (short q : ℕ) → short ≤ 0 → t.value q ≢ 0 → own_key t short q ≡ [] ∷ []
unfolding own_key
own_there t zero q low full = go (t.value q) full
  where
    go : (v : ℕ) → v ≢ 0 → present v ≡ [] ∷ []
    go zero h = absurd (h refl)
    go (suc v) h = refl
own_there t (suc short) q low full = absurd (omega arith)

by_letter_none : (keys : ℕ → List (List ℕ)) (i m : ℕ) → ((x : ℕ) → keys x ≡ [])
    → by_letter keys i m
    ≡ []
unfolding by_letter
by_letter_none keys i zero h = refl
by_letter_none keys i (suc m) h = rw (h i) (by_letter_none keys (suc i) m h)

-- What meets a request among keys that go letter by letter: those that begin with the request's
-- first letter and meet in what follows, and all that begin with a later letter.

filter_later : (after : Bool) (y : ℕ) (k : List ℕ) (keys : ℕ → List (List ℕ)) (i m : ℕ) → y < i
    → filter (meets after (y ∷ k)) (by_letter keys i m) ≡ by_letter keys i m
filter_later after y k keys i m h =
    filter_every _ _ (λ j a.
    let (x, r, e, low, high, hr) = by_letter_cases keys i m a in
    ap (meets after (y ∷ k)) e ∙ meets_higher after x y k r (omega arith))

filter_letter : (after : Bool) (y : ℕ) (k : List ℕ) (keys : ℕ → List (List ℕ)) (n i m : ℕ)
    → i + m ≡ n → i ≤ y → y < n
    → filter (meets after (y ∷ k)) (by_letter keys i m)
    ≡ map (y ∷◌) (filter (meets after k) (keys y)) ++ by_letter keys (suc y) (n - suc y)
unfolding by_letter
filter_letter after y k keys n i zero size low high = absurd (omega arith)
filter_letter after y k keys n i (suc m) size low high =
    go (ℕ_discrete y i) (λ h. filter_letter after y k keys n (suc i) m (omega arith) h high)
  where
    Met : ℕ → ℕ → Type 0
    Met i m =
        filter (meets after (y ∷ k)) (by_letter keys i m)
        ≡ map (y ∷◌) (filter (meets after k) (keys y)) ++ by_letter keys (suc y) (n - suc y)

    go : Dec (y ≡ i) → (i < y → Met (suc i) m) → Met i (suc m)
    go (yes e) rest =
        let later : n - suc y ≡ m = omega arith in
        rw (later, ← e)
        (filter_append _ (map (y ∷◌) (keys y)) (by_letter keys (suc y) m)
        ∙ ap₂ ◌++◌ (filter_map _ _ y (keys y) (meets_cons after y k))
        (filter_later after y k keys (suc y) m (omega arith)))
    go (no other) rest =
        let lower : filter (meets after (y ∷ k)) (map (i ∷◌) (keys i)) ≡ [] =
        filter_none _ _ (λ j a.
        let (r, hr, e) = Memᴰ.of_map (i ∷◌) (keys i) a in
        ap (meets after (y ∷ k)) (sym e) ∙ meets_lower after i y k r (omega arith)) in
        filter_append _ (map (i ∷◌) (keys i)) (by_letter keys (suc i) m) ∙ ap₂ ◌++◌ lower
        (rest (omega arith))

module _ (t : Table) (n : ℕ) where
  -- ---- the keys below a node from a letter on

  -- the keys at or under a node: its own, then those from letter 0 on
  pub under_split : (short left q : ℕ) → keys_under t n short left q ≡ own_key t short q
      ++ keys_from t n short left q 0
  unfolding keys_under keys_from
  under_split short zero q = sym (append-nil (own_key t short q))
  under_split short (suc left) q = rw (sub-zero n)

  -- none after the last letter
  pub from_none : (short left q x : ℕ) → n ≤ x → keys_from t n short left q x ≡ []
  unfolding keys_from by_letter
  from_none short zero q x h = refl
  from_none short (suc left) q x h = let e : n - x ≡ 0 = omega arith in rw e

  -- none if no letter is allowed
  pub from_shallow : (short q x : ℕ) → keys_from t n short 0 q x ≡ []
  unfolding keys_from
  from_shallow short q x = refl

  from_letter : (short left q x : ℕ) → x < n
      → keys_from t n short (suc left) q x ≡ map (x ∷◌) (under t n short left q x)
      ++ keys_from t n short (suc left) q (suc x)
  unfolding keys_from by_letter
  from_letter short left q x h = let e : n - x ≡ suc (n - suc x) = omega arith in rw e

  -- an empty link adds none
  pub from_empty : (short left q x : ℕ) → x < n → t.child q x ≡ 0 → keys_from t n short left q x
      ≡ keys_from t n short left q (suc x)
  unfolding keys_from
  from_empty short zero q x h e = refl
  from_empty short (suc left) q x h e =
      from_letter short left q x h
      ∙ ap
      (λ (l : List (List ℕ)). map (x ∷◌) l ++ keys_from t n short (suc left) q (suc x))
      (follow_empty (t.child q x) [] (λ c. keys_under t n (pred short) left c) e)

  -- any other link adds the keys at or under its node
  pub from_on : (short left q x : ℕ) {c : ℕ} → x < n → t.child q x ≡ c → c ≢ 0
      → keys_from t n short (suc left) q x
      ≡ map (x ∷◌) (keys_under t n (pred short) left c) ++ keys_from t n short (suc left) q (suc x)
  from_on short left q x {c} h e full =
      let on : under t n short left q x ≡ keys_under t n (pred short) left c =
      rw e (follow_on c [] _ full) in
      from_letter short left q x h
      ∙ ap (λ (l : List (List ℕ)). map (x ∷◌) l ++ keys_from t n short (suc left) q (suc x)) on

  pub from_childless : (short left q x : ℕ) → ((i : ℕ) → t.child q i ≡ 0)
      → keys_from t n short left q x ≡ []
  unfolding keys_from
  from_childless short zero q x h = refl
  from_childless short (suc left) q x h =
      by_letter_none _ x (n - x) (λ i. follow_empty (t.child q i) [] _ (h i))

  -- such a key begins with a letter whose link is not empty, and what follows is listed there
  from_cases : {k : List ℕ} (short left q x : ℕ) → Memᴰ k (keys_from t n short left q x)
      → (y : ℕ) × (r : List ℕ) × (k ≡ y ∷ r) × (y < n) × (0 < left) × (t.child q y ≢ 0)
      × Memᴰ r (keys_under t n (pred short) (pred left) (t.child q y))
  unfolding keys_from
  from_cases short zero q x a = absurd (Memᴰ.not-nil a)
  from_cases short (suc left) q x a =
      let (y, r, e, low, high, b) = by_letter_cases (under t n short left q) x (n - x) a in
      let (full, c) = follow_cases (t.child q y) _ b in
      (y, r, e, omega arith, omega arith, full, c)

  -- ---- the keys after a path

  pub beyond_nil : (short left q x : ℕ) → beyond t n short left q [] x ≡ keys_from t n short left q
      x
  unfolding beyond
  beyond_nil short left q x = refl

  -- if nothing is left below a link, the later letters of the node that holds it come next
  up : {q p : ℕ} {k : List ℕ} → Walk t q k (complete p) → (short left x y : ℕ)
      → keys_from t n (short - suc (length k)) (left - suc (length k)) (t.child p y) x ≡ []
      → beyond t n short left q (k ++ (y ∷ [])) x ≡ beyond t n short left q k (suc y)
  unfolding beyond
  up (end {q}) short left x y empty =
      let s : short - 1 ≡ pred short = omega arith in
      let l : left - 1 ≡ pred left = omega arith in
      ap (λ (m : List (List ℕ)). map (y ∷◌) m ++ keys_from t n short left q (suc y))
      (rw (s, l) at empty)
  up (on {q} {x = z} {xs = k} h w) short left x y empty =
      let s : short - suc (suc (length k)) ≡ pred short - suc (length k) = omega arith in
      let l : left - suc (suc (length k)) ≡ pred left - suc (length k) = omega arith in
      ap
      (λ (m : List (List ℕ)). map (z ∷◌) m ++ keys_from t n short left q (suc z))
      (up w (pred short) (pred left) x y (rw (s, l) at empty))

  pub beyond_up : (short left q : ℕ) (k : List ℕ) (x y : ℕ) {p c : ℕ} → descend t q k ≡ complete p
      → t.child p y ≡ c
      → keys_from t n (short - suc (length k)) (left - suc (length k)) c x ≡ []
      → beyond t n short left q (k ++ (y ∷ [])) x ≡ beyond t n short left q k (suc y)
  beyond_up short left q k x y e f empty = up (walk t q k e) short left x y (rw f empty)

  -- all of them: what is below the path's end from letter x on, then what is left once all
  -- letters are done there
  split : {q p : ℕ} {k : List ℕ} → Walk t q k (complete p) → (short left x : ℕ)
      → beyond t n short left q k x
      ≡ map (k ++◌) (keys_from t n (short - length k) (left - length k) p x)
      ++ beyond t n short left q k n
  unfolding beyond
  split (end {q}) short left x =
      rw (
        sub-zero short,
        sub-zero left,
        map-id,
        from_none short left q n (omega arith),
        append-nil,
      )
  split {p = p} (on {q} {x = y} {xs = k} h w) short left x =
      let s : pred short - length k ≡ short - suc (length k) = omega arith in
      let l : pred left - length k ≡ left - suc (length k) = omega arith in
      lead
      y
      k
      (keys_from t n (short - suc (length k)) (left - suc (length k)) p x)
      (beyond t n (pred short) (pred left) (t.child q y) k n)
      (keys_from t n short left q (suc y))
      (rw (s, l) at (split w (pred short) (pred left) x))

  -- if there is a key below the path's end, it is next
  pub beyond_found : (short left q : ℕ) (k : List ℕ) (x : ℕ) {p : ℕ} {m : List ℕ}
      {ms : List (List ℕ)} → descend t q k ≡ complete p
      → keys_from t n (short - length k) (left - length k) p x ≡ m ∷ ms
      → first_of (beyond t n short left q k x) ≡ some (k ++ m)
  unfolding first_of
  beyond_found short left q k x e f = rw (split (walk t q k e) short left x, f)

  -- ---- what meets a request

  -- at a node with a letter left, by the request's first letter; its own key comes before
  filter_node : (after : Bool) (y : ℕ) (k : List ℕ) (short left q : ℕ) → y < n
      → filter (meets after (y ∷ k)) (keys_under t n short (suc left) q)
      ≡ map (y ∷◌) (filter (meets after k) (under t n short left q y)) ++ keys_from t n short
      (suc left) q (suc y)
  unfolding keys_under keys_from
  filter_node after y k short left q h =
      filter_append _ (own_key t short q) (by_letter (under t n short left q) 0 n)
      ∙ ap₂ ◌++◌ own (filter_letter after y k (under t n short left q) n 0 n (omega arith)
      (omega arith) h)
    where
      own : filter (meets after (y ∷ k)) (own_key t short q) ≡ []
      own = filter_none _ _ (λ j a. ap (meets after (y ∷ k)) (own_cases t short q a).0
          ∙ meets_empty after y k)

  -- along a path: what meets below its end, then all that comes after the path
  filter_path : {q p : ℕ} {k : List ℕ} → Walk t q k (complete p) → (after : Bool) (s : List ℕ)
      (short left : ℕ)
      → LettersBelow n k → length k ≤ left
      → filter (meets after (k ++ s)) (keys_under t n short left q)
      ≡ map (k ++◌) (filter (meets after s) (keys_under t n (short - length k) (left - length k)
      p))
      ++ beyond t n short left q k n
  unfolding beyond
  filter_path (end {q}) after s short left letters deep =
      rw (
        sub-zero short,
        sub-zero left,
        map-id,
        from_none short left q n (omega arith),
        append-nil,
      )
  filter_path (on h w) after s short zero letters deep = absurd (omega arith)
  filter_path {p = p} (on {q} {x = y} {xs = k} h w) after s short (suc left) letters deep =
      let e : pred short - length k ≡ short - suc (length k) = omega arith in
      let f : left - length k ≡ suc left - suc (length k) = omega arith in
      filter_node after y (k ++ s) short left q letters.0
      ∙ lead
      y
      k
      (filter (meets after s) (keys_under t n (short - suc (length k)) (suc left - suc (length k))
      p))
      (beyond t n (pred short) left (t.child q y) k n)
      (keys_from t n short (suc left) q (suc y))
      (ap (filter (meets after (k ++ s))) (follow_on (t.child q y) [] _ h)
      ∙ (rw (e, f) at (filter_path w after s (pred short) left letters.1 (omega arith))))

  -- at the path's end: all keys but the node's own are after the empty key
  filter_below : (short left q : ℕ) → filter (meets true []) (keys_under t n short left q)
      ≡ keys_from t n short left q 0
  filter_below short left q =
      ap (filter (meets true [])) (under_split short left q)
      ∙ filter_append _ (own_key t short q) (keys_from t n short left q 0)
      ∙ ap₂ ◌++◌ own below
    where
      own : filter (meets true []) (own_key t short q) ≡ []
      own = filter_none _ _ (λ j a. ap (meets true []) (own_cases t short q a).0 ∙ meets_none)

      below : filter (meets true []) (keys_from t n short left q 0) ≡ keys_from t n short left q 0
      below =
          filter_every _ _ (λ j a. let f = from_cases short left q 0 a in
          ap (meets true []) f.2 ∙ meets_letter f.0 f.1)

  -- "after" the path's own key
  pub filter_after : (short left q : ℕ) (k : List ℕ) {p : ℕ} → descend t q k ≡ complete p
      → LettersBelow n k → length k ≤ left
      → filter (meets true k) (keys_under t n short left q) ≡ beyond t n short left q k 0
  filter_after short left q k {p} e letters deep =
      let w : Walk t q k (complete p) = walk t q k e in
      (rw (append-nil k) at (filter_path w true [] short left letters deep))
      ∙ ap (λ (l : List (List ℕ)). map (k ++◌) l ++ beyond t n short left q k n)
      (filter_below (short - length k) (left - length k) p)
      ∙ sym (split w short left 0)

  -- "at or after" it
  pub filter_at : (short left q : ℕ) (k : List ℕ) {p : ℕ} → descend t q k ≡ complete p
      → LettersBelow n k → length k ≤ left
      → filter (meets false k) (keys_under t n short left q)
      ≡ map (k ++◌) (own_key t (short - length k) p) ++ beyond t n short left q k 0
  filter_at short left q k {p} e letters deep =
      let w : Walk t q k (complete p) = walk t q k e in
      let s = short - length k in
      let l = left - length k in
      (rw (append-nil k, filter_all, under_split s l p, map-append, append_assoc) at
      (filter_path w false [] short left letters deep))
      ∙ ap (map (k ++◌) (own_key t s p) ++◌) (sym (split w short left 0))

  -- either one, if the key goes on at an empty link
  filter_stop : (after : Bool) (y : ℕ) (ys : List ℕ) (short left q : ℕ) → 0 < left → y < n
      → t.child q y ≡ 0
      → filter (meets after (y ∷ ys)) (keys_under t n short left q) ≡ keys_from t n short left q
      (suc y)
  unfolding filter
  filter_stop after y ys short zero q deep h e = absurd (omega arith)
  filter_stop after y ys short (suc left) q deep h e =
      let empty : under t n short left q y ≡ [] = follow_empty (t.child q y) [] _ e in
      rw (filter_node after y ys short left q h, empty, filter)

  pub filter_stopped : (after : Bool) (short left q : ℕ) (k : List ℕ) (y : ℕ) (ys : List ℕ) {p : ℕ}
      → descend t q k ≡ complete p
      → t.child p y ≡ 0 → LettersBelow n (k ++ (y ∷ ys)) → length (k ++ (y ∷ ys)) ≤ left
      → filter (meets after (k ++ (y ∷ ys))) (keys_under t n short left q)
      ≡ beyond t n short left q k (suc y)
  filter_stopped after short left q k y ys {p} e f letters deep =
      let w : Walk t q k (complete p) = walk t q k e in
      let room : length k < left = omega (arith, length-append k (y ∷ ys)) in
      let low : y < n = (letters_after n k (y ∷ ys) letters).0 in
      filter_path w after (y ∷ ys) short left (letters_before n k (y ∷ ys) letters) (omega arith)
      ∙ ap
      (λ (l : List (List ℕ)). map (k ++◌) l ++ beyond t n short left q k n)
      (filter_stop after y ys (short - length k) (left - length k) p (omega arith) low f)
      ∙ sym (split w short left (suc y))

  -- the first key that meets
  pub meets_after_path : (short left q : ℕ) (k : List ℕ) {p : ℕ} → descend t q k ≡ complete p
      → LettersBelow n k → length k ≤ left
      → first_meeting (meets true k) (keys_under t n short left q)
      ≡ first_of (beyond t n short left q k 0)
  meets_after_path short left q k e letters deep =
      first_filter _ _ ∙ ap first_of (filter_after short left q k e letters deep)

  pub meets_at_path : (short left q : ℕ) (k : List ℕ) {p : ℕ} → descend t q k ≡ complete p
      → LettersBelow n k → length k ≤ left
      → first_meeting (meets false k) (keys_under t n short left q)
      ≡ first_of (map (k ++◌) (own_key t (short - length k) p) ++ beyond t n short left q k 0)
  meets_at_path short left q k e letters deep =
      first_filter _ _ ∙ ap first_of (filter_at short left q k e letters deep)

  pub meets_at_none : (short left q : ℕ) (k : List ℕ) {p : ℕ} → descend t q k ≡ complete p
      → LettersBelow n k → length k ≤ left
      → own_key t (short - length k) p ≡ []
      → first_meeting (meets false k) (keys_under t n short left q)
      ≡ first_of (beyond t n short left q k 0)
  meets_at_none short left q k e letters deep own =
      rw (meets_at_path short left q k e letters deep, own)

  pub meets_at_own : (short left q : ℕ) (k : List ℕ) {p : ℕ} → descend t q k ≡ complete p
      → LettersBelow n k → length k ≤ left
      → short ≤ length k → t.value p ≢ 0
      → first_meeting (meets false k) (keys_under t n short left q) ≡ some k
  unfolding first_of
  meets_at_own short left q k {p} e letters deep long full =
      rw (
        meets_at_path short left q k e letters deep,
        own_there t (short - length k) p
            (omega arith) full,
        append-nil k,
      )

  pub meets_stopped : (after : Bool) (short left q : ℕ) (k : List ℕ) (y : ℕ) (ys : List ℕ) {p : ℕ}
      → descend t q k ≡ complete p
      → t.child p y ≡ 0 → LettersBelow n (k ++ (y ∷ ys)) → length (k ++ (y ∷ ys)) ≤ left
      → first_meeting (meets after (k ++ (y ∷ ys))) (keys_under t n short left q)
      ≡ first_of (beyond t n short left q k (suc y))
  meets_stopped after short left q k y ys e f letters deep =
      first_filter _ _ ∙ ap first_of (filter_stopped after short left q k y ys e f letters deep)
