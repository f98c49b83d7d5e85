-- The new nodes of a store are on the key's path. A new path links each node to the next by the
-- key's letters, so the key passes all of them. The letters before the empty link still lead to
-- its node.
use Prim.Native.Nat.{ℕ, suc, ◌+◌, ◌≤◌, ◌<◌}
use native.Mathlib.Decide.{ℕ_discrete}
use native.Mathlib.Omega.{arith}
use mathlib.Core.Bool.{true, false, ◌||◌}
use mathlib.Core.List.{List, [], ◌∷◌, ◌++◌, append_assoc}
use mathlib.Core.Path.{◌≡◌, refl, sym, ◌∙◌, ap}
use lib.Dec.{eqb}
use lib.ListN.{length}
use Rattle.trie.specs.Table.{Table, complete, follow, descend, missing, LettersBelow}
use Rattle.trie.specs.Rules.{Linked}
use Rattle.trie.specs.Storing.{put, grow, grow_path, stored, added}
use Rattle.trie.proofs.Walk.{descend_append, where_stopped}
use Rattle.trie.proofs.Grow.{Room, room, room_next, grow_descend, grow_path_child}
use Rattle.trie.proofs.Storing.{Store, over, unchanged, longer, store}
use Rattle.passing.specs.Passing.{passes}
use Rattle.passing.proofs.Passing.{passes_here, passes_link, passes_prefix, prefix_passes}

-- putting a value changes no walk
put_passes : (t : Table) (p v q r : ℕ) (k : List ℕ) → passes (put t p v) q r k ≡ passes t q r k
unfolding passes put
put_passes t p v q r [] = refl
put_passes t p v q r (x ∷ k) =
    λ i. eqb r q || follow (t.child r x) false (λ c. put_passes t p v q c k i)

-- a key that comes to a node passes what is passed from there on
passes_from : (t : Table) (q p : ℕ) {r : ℕ} (k m : List ℕ) → descend t p k ≡ complete r
    → passes t q r m ≡ true
    → passes t q p (k ++ m) ≡ true
passes_from t q p {r} k m e f =
    let s = passes_prefix t q r m f in
    let whole : k ++ m ≡ (k ++ s.path) ++ s.rest =
    ap (k ++◌) s.key ∙ sym (append_assoc k s.path s.rest) in
    ap (passes t q p) whole ∙ prefix_passes t q p (k ++ s.path) s.rest
    (descend_append t p k s.path e ∙ s.reaches)

-- one letter on, by a link to a node that is not above the one sought
passes_step : (t : Table) (q p x c : ℕ) (xs : List ℕ) → t.child p x ≡ c → p < c → c ≤ q
    → passes t q p (x ∷ xs) ≡ passes t q c xs
passes_step t q p x c xs e h low =
    passes_link t q p x xs (omega arith) (λ z. omega arith) ∙ ap (λ (d : ℕ). passes t q d xs) e

-- the letters of a new path pass each of its nodes
path_passes : (t : Table) (q x : ℕ) (xs : List ℕ) (c node : ℕ) → q < c → c ≤ node
    → node ≤ c + length xs
    → passes (grow_path t q x xs c) node q (x ∷ xs) ≡ true
unfolding grow_path
path_passes t q x [] c node h low high =
    let same : c ≡ node = omega arith in
    let s = grow_path t q x [] c in
    passes_step s node q x c [] (grow_path_child t q x [] c h) h low
    ∙ ap (λ (d : ℕ). passes s node d []) same
    ∙ passes_here s node []
path_passes t q x (y ∷ ys) c node h low high =
    passes_step s node q x c (y ∷ ys) (grow_path_child t q x (y ∷ ys) c h) h low
    ∙ go (ℕ_discrete c node) (λ b. path_passes (grow t q x c) c y ys (suc c) node (omega arith) b
    (omega arith))
  where
    s : Table
    s = grow_path t q x (y ∷ ys) c

    go : Dec (c ≡ node) → (suc c ≤ node → passes s node c (y ∷ ys) ≡ true)
        → passes s node c (y ∷ ys) ≡ true
    go (yes same) below =
        ap (λ (d : ℕ). passes s node d (y ∷ ys)) same ∙ passes_here s node (y ∷ ys)
    go (no other) below = below (omega arith)

-- a complete walk stays as it is
path_descend : {t : Table} {g n q x : ℕ} (xs k : List ℕ) {r : ℕ} → Room t g n q x xs
    → descend t 0 k ≡ complete r
    → descend (grow_path t q x xs (suc g)) 0 k ≡ complete r
unfolding grow_path
path_descend {t} {g} {n} {q} {x} [] k b e = grow_descend t q x (suc g) 0 k b.empty e
path_descend {t} {g} {n} {q} {x} (y ∷ ys) k b e =
    path_descend {t = grow t q x (suc g)} {g = suc g} {q = suc g} {x = y} ys k (room_next b)
    (grow_descend t q x (suc g) 0 k b.empty e)

module _ {t : Table} {g n : ℕ} (l : Linked t g n) (k : List ℕ) (letters : LettersBelow n k) where
  new_passes : {v : ℕ} {s : Table} {g' : ℕ} → Store t g k v s g' → (q : ℕ) → g < q → q ≤ g'
      → passes s q 0 k ≡ true
  new_passes (over e) q low high = absurd (omega arith)
  new_passes (unchanged e) q low high = absurd (omega arith)
  new_passes (longer {q = p} {x} {xs} {v} e) q low high =
      let w = where_stopped t 0 k e in
      let b = room k l letters e in
      let s = grow_path t p x xs (suc g) in
      put_passes s (g + suc (length xs)) (suc v) q 0 k
      ∙ ap (passes s q 0) w.key
      ∙ passes_from s q 0 w.path (x ∷ xs) (path_descend xs w.path b w.reaches)
      (path_passes t p x xs (suc g) q (omega (arith, b.node)) (omega arith) (omega arith))

  -- the key passes every node that its store adds
  pub stored_new_passes : (v q : ℕ) → g < q → q ≤ g + added (missing (descend t 0 k)) v
      → passes (stored t g k v) q 0 k ≡ true
  stored_new_passes v q low high = new_passes (store t g k v) q low high
