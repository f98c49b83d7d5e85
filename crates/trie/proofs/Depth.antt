-- How many links lead from the root to a node. A walk of k letters that ends at a node is k links
-- that lead there, and the other way round. The least number is at most G: for each number up to
-- it there is a node that is met first with so many links, and these are different nodes.
use Prim.Native.Nat.{ℕ, zero, suc, ◌+◌, ◌≤◌, ◌<◌}
use mathlib.Core.Path.{◌≡◌, refl, sym, ap, ◌∙◌}
use mathlib.Core.Bool.{Bool, true, false, ◌&&◌, ◌||◌, cond, false≢true}
use mathlib.Core.List.{List, [], ◌∷◌, ◌++◌, reverse, reverse-cons, reverse-reverse}
use native.Mathlib.Omega.{arith}
use native.Mathlib.Decide.{ℕ_discrete, dec_le}
use lib.Dec.{eqb, leb}
use lib.ListN.{length, length-append, length-reverse}
use borrow.Author.Tests.{eq-eqb, eqb-true, le-leb, leb-true}
use Rattle.trie.specs.Table.{Table, complete, descend}
use Rattle.trie.specs.Lowest.{any_below, lowest}
use Rattle.trie.specs.Rules.{Framed}
use Rattle.trie.specs.Tree.{Parent, Reachable, holds_address, at_depth, depth_of}
use Rattle.trie.specs.Tree.{depth_within}
use Rattle.trie.proofs.Lowest.{lowest_found, none_lowest, any_found, any_here}
use Rattle.trie.proofs.Tree.{link_on, parent_within}
use Rattle.trie.proofs.Walk.{descend_nil, descend_append, last_link}

-- ---- sums of parts, compared

total : (ℕ → ℕ) → ℕ → ℕ
total part zero = 0
total part (suc m) = total part m + part m

total_most : (part : ℕ → ℕ) → ((y : ℕ) → part y ≤ 1) → (m : ℕ) → total part m ≤ m
unfolding total
total_most part small zero = omega arith
total_most part small (suc m) = omega (arith, total_most part small m, small m)

total_grows : (a b : ℕ → ℕ) → ((y : ℕ) → a y ≤ b y) → (m : ℕ) → total a m ≤ total b m
unfolding total
total_grows a b less zero = omega arith
total_grows a b less (suc m) = omega (arith, total_grows a b less m, less m)

-- where one part is greater, so is the sum
total_more : (a b : ℕ → ℕ) → ((y : ℕ) → a y ≤ b y) → (m y : ℕ) → y < m → a y < b y
    → total a m < total b m
unfolding total
total_more a b less zero y high more = absurd (omega arith)
total_more a b less (suc m) y high more = go (ℕ_discrete y m) (total_more a b less m y)
  where
    go : Dec (y ≡ m) → (y < m → a y < b y → total a m < total b m)
        → total a m + a m < total b m + b m
    go (yes s) on =
        let here : a m < b m = rw (← s) more in omega (arith, total_grows a b less m)
    go (no d) on = omega (arith, on (omega arith) more, less m)

-- ---- links and walks

both : (a b : Bool) → (a && b) ≡ true → (a ≡ true) × (b ≡ true)
both true true e = (refl, refl)
both true false e = absurd (false≢true e)
both false b e = absurd (false≢true e)

module _ (t : Table) (n g : ℕ) where
  held : (q x : ℕ) → holds_address t n q (suc x) ≡ true → Parent t q (suc x)
  unfolding holds_address
  held q x e =
      let (i, b, f) = any_found (λ i. eqb (t.child q i) (suc x)) n e in
      record { letter = i; link = eqb-true _ _ f; full = λ z. omega arith }

  -- the last of the links that lead to a node is one of its parent
  parent_at : (k x : ℕ) → at_depth t n g (suc k) x ≡ true
      → (q : ℕ) × (q ≤ g) × Parent t q x × (at_depth t n g k q ≡ true)
  unfolding at_depth
  parent_at k zero e = absurd (false≢true e)
  parent_at k (suc x) e =
      let (q, b, f) = any_found (λ q. holds_address t n q (suc x) && at_depth t n g k q) (g + 1) e
      in
      let (c, d) = both (holds_address t n q (suc x)) (at_depth t n g k q) f in
      (q, omega arith, held q x c, d)

  -- a node that k links lead to is reached by a key of k letters
  pub at_walk : (k x : ℕ) → at_depth t n g k x ≡ true
      → (m : List ℕ) × (length m ≡ k) × (descend t 0 m ≡ complete x)
  unfolding at_depth
  at_walk zero x e =
      let z : x ≡ 0 = eqb-true x 0 e in ([], refl, descend_nil t 0 ∙ ap complete (sym z))
  at_walk (suc k) x e =
      let (q, b, a, d) = parent_at k x e in
      let (m, l, w) = at_walk k q d in (
        m ++ (a.letter ∷ []),
        omega (arith, length-append m (a.letter ∷ []), l),
        descend_append t 0 m (a.letter ∷ []) w ∙ link_on a [] (descend_nil t x),
      )

  module _ (framed : Framed t g n) where
    holds : (q x : ℕ) → Parent t q x → holds_address t n q x ≡ true
    unfolding holds_address
    holds q x a = any_here (λ i. eqb (t.child q i) x) n (go (dec_le n a.letter))
        (eq-eqb (t.child q a.letter) x a.link)
      where
        go : Dec (n ≤ a.letter) → a.letter < n
        go (no b) = omega arith
        go (yes b) = absurd (a.full (sym a.link ∙ framed.no_letter q a.letter b))

    -- one link more
    at_child : (k q x : ℕ) → Parent t q x → at_depth t n g k q ≡ true
        → at_depth t n g (suc k) x ≡ true
    unfolding at_depth
    at_child k q zero a e = absurd (a.full refl)
    at_child k q (suc x) a e =
        let b : q < g + 1 = omega (arith, parent_within framed a) in
        any_here (λ p. holds_address t n p (suc x) && at_depth t n g k p) (g + 1) b
        (rw (holds q (suc x) a, e))

    from_end : (m : List ℕ) {x : ℕ} → descend t 0 (reverse m) ≡ complete x
        → at_depth t n g (length m) x ≡ true
    unfolding at_depth
    from_end [] {x} e =
        let f : complete 0 ≡ complete x = sym (descend_nil t 0) ∙ e in
        let z : 0 ≡ x = cc in
        eq-eqb x 0 (sym z)
    from_end (y ∷ m) {x} e =
        let (q, w, f, h) = last_link t 0 (reverse m) y (rw (reverse-cons y m) at e) in
        at_child (length m) q x (record { letter = y; link = f; full = h }) (from_end m w)

    -- a key's walk is as many links as the key has letters
    pub walk_at : (x : ℕ) (m : List ℕ) → descend t 0 m ≡ complete x
        → at_depth t n g (length m) x ≡ true
    walk_at x m e =
        let back : descend t 0 (reverse (reverse m)) ≡ complete x = rw reverse-reverse e in
        rw (length-reverse m) at (from_end (reverse m) back)

    -- ---- depths from `least` to `most`

    -- a node at such a depth is reached by a key of so many letters, and the other way round
    pub walk_within : (least most x : ℕ) (m : List ℕ) → descend t 0 m ≡ complete x
        → least ≤ length m → length m ≤ most
        → depth_within t n g least most x ≡ true
    unfolding depth_within
    walk_within least most x m e low high =
        any_here (λ d. leb least d && at_depth t n g d x) (most + 1) {i = length m} (omega arith)
        (rw (le-leb least (length m) low, walk_at x m e))

    -- ---- the least number of links

    -- k links lead to node x, and no fewer
    record First (k x : ℕ) : Type 0 where
      node : x ≤ g
      at : at_depth t n g k x ≡ true
      least : (j : ℕ) → j < k → at_depth t n g j x ≡ false

    -- for each number up to the least there is such a node: the parents on the way
    layer : (k x : ℕ) → First k x → (j : ℕ) → j ≤ k → (y : ℕ) × First j y
    layer zero x f j low = let z : j ≡ 0 = omega arith in (x, rw z f)
    layer (suc k) x f j low = go (ℕ_discrete j (suc k)) (layer k)
      where
        go : Dec (j ≡ suc k) → ((x : ℕ) → First k x → (j : ℕ) → j ≤ k → (y : ℕ) × First j y)
            → (y : ℕ) × First j y
        go (yes s) on = (x, rw s f)
        go (no d) on =
            let (q, b, a, e) = parent_at k x f.at in
            on q
            (record { node = b; at = e; least = λ i h. earlier q a i h (at_depth t n g i q) refl })
            j (omega arith)
          where
            earlier : (q : ℕ) → Parent t q x → (i : ℕ) → i < k → (b : Bool)
                → at_depth t n g i q ≡ b
                → b ≡ false
            earlier q a i h true e =
                absurd (false≢true (sym (f.least (suc i) (omega arith)) ∙ at_child i q x a e))
            earlier q a i h false e = refl

    -- is node y met with fewer than j links?
    met : ℕ → ℕ → ℕ
    met j y = cond (any_below (λ k. at_depth t n g k y) j) 1 0

    met_most : (j y : ℕ) → met j y ≤ 1
    unfolding met
    met_most j y = go (any_below (λ k. at_depth t n g k y) j)
      where
        go : (b : Bool) → cond b 1 0 ≤ 1
        go true = omega arith
        go false = omega arith

    met_on : (j y : ℕ) → met j y ≤ met (suc j) y
    unfolding met any_below
    met_on j y = go (any_below (λ k. at_depth t n g k y) j) (at_depth t n g j y)
      where
        go : (a b : Bool) → cond a 1 0 ≤ cond (a || b) 1 0
        go true b = omega arith
        go false true = omega arith
        go false false = omega arith

    met_first : (j y : ℕ) → First j y → met j y < met (suc j) y
    unfolding met any_below
    met_first j y f = go (any_below (λ k. at_depth t n g k y) j) refl
      where
        go : (b : Bool) → any_below (λ k. at_depth t n g k y) j ≡ b
            → cond b 1 0 < cond (b || at_depth t n g j y) 1 0
        go true e =
            let (k, h, d) = any_found (λ k. at_depth t n g k y) j e in
            absurd (false≢true (sym (f.least k h) ∙ d))
        go false e = rw f.at (omega arith)

    -- with fewer than j links, j nodes or more are met
    met_many : (k x : ℕ) → First k x → (j : ℕ) → j ≤ suc k → j ≤ total (met j) (g + 1)
    met_many k x f zero low = omega arith
    met_many k x f (suc j) low =
        let (y, first) = layer k x f j (omega arith) in
        let b : y < g + 1 = omega (arith, first.node) in
        omega (
          arith,
          met_many k x f j (omega arith),
          total_more (met j) (met (suc j)) (met_on j) (g + 1) y b (met_first j y first),
        )

    few : (k x : ℕ) → First k x → k ≤ g
    few k x f = omega (
      arith,
      met_many k x f (suc k) (omega arith),
      total_most (met (suc k)) (met_most (suc k)) (g + 1),
    )

    least : (k x : ℕ) → x ≤ g → at_depth t n g k x ≡ true → (j : ℕ) × First j x
    least k x node e = go (dec_le (suc k) (lowest here 0 (suc k)))
      where
        here : ℕ → Bool
        here j = at_depth t n g j x

        go : Dec (suc k ≤ lowest here 0 (suc k)) → (j : ℕ) × First j x
        go (yes b) = absurd (false≢true
            (sym (none_lowest here 0 (suc k) (omega arith) k (omega arith) (omega arith)) ∙ e))
        go (no b) =
            let (f, before) = lowest_found here 0 (suc k) (omega arith) in (
              lowest here 0 (suc k),
              record { node = node; at = f; least = λ j h. before j (omega arith) h },
            )

    -- a node is reached exactly if no more than g links lead to it
    pub reached_depth : (x : ℕ) → x ≤ g → Reachable t x → depth_of t n g x ≤ g
    unfolding depth_of
    reached_depth x node r =
        let (j, f) = least (length r.0) x node (walk_at x r.0 r.1) in
        go j f (dec_le (lowest here 0 (g + 1)) g)
      where
        here : ℕ → Bool
        here k = at_depth t n g k x

        go : (j : ℕ) → First j x → Dec (lowest here 0 (g + 1) ≤ g) → lowest here 0 (g + 1) ≤ g
        go j f (yes b) = b
        go j f (no b) =
            let low : j < 0 + (g + 1) = omega (arith, few j x f) in
            absurd (false≢true
            (sym (none_lowest here 0 (g + 1) (omega arith) j (omega arith) low) ∙ f.at))

  pub depth_reached : (x : ℕ) → depth_of t n g x ≤ g → Reachable t x
  unfolding depth_of
  depth_reached x b =
      let (e, f) = lowest_found (λ k. at_depth t n g k x) 0 (g + 1) (omega arith) in
      let (m, l, w) = at_walk (lowest (λ k. at_depth t n g k x) 0 (g + 1)) x e in
      (m, w)

  pub within_walk : (least most x : ℕ) → depth_within t n g least most x ≡ true
      → (m : List ℕ) × (descend t 0 m ≡ complete x) × (least ≤ length m) × (length m ≤ most)
  unfolding depth_within
  within_walk least most x e =
      let (d, b, f) = any_found (λ d. leb least d && at_depth t n g d x) (most + 1) e in
      let (c, a) = both (leb least d) (at_depth t n g d x) f in
      let (m, l, w) = at_walk d x a in
      (m, w, omega (arith, leb-true least d c, l), omega (arith, b, l))
