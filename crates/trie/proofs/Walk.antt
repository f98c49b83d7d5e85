-- Walks through a table. A walk follows links that are not empty, so it is known link by link
-- (`Walk`). A walk that ends at a node came through the only link to that node. So two keys that
-- end at one node are equal (`one_key`), link by link from the last.
use Prim.Native.Nat.{ℕ, zero, suc, ◌≤◌, ◌<◌}
use mathlib.Core.List.{List, [], ◌∷◌, ◌++◌, reverse, reverse-cons, reverse-reverse}
use mathlib.Core.Path.{◌≡◌, refl, sym, ◌∙◌, ap, ap₂, subst}
use mathlib.Core.Logic.{◌≢◌}
use native.Mathlib.Decide.{ℕ_discrete, dec_lt}
use native.Mathlib.Omega.{arith}
use Rattle.trie.specs.Table.{Table, Descent, complete, stopped, follow, descend, value_at}
use Rattle.trie.specs.Table.{answer, LettersBelow}
use Rattle.trie.specs.Rules.{Framed, Within, Once}

-- `follow` for an empty link, and for any other
pub follow_empty {ℓ} : {X : Type ℓ} (c : ℕ) (empty : X) (on : ℕ → X) → c ≡ 0 → follow c empty on
    ≡ empty
unfolding follow
follow_empty c empty on e = rw e

pub follow_on {ℓ} : {X : Type ℓ} (c : ℕ) (empty : X) (on : ℕ → X) → c ≢ 0 → follow c empty on
    ≡ on c
unfolding follow
follow_on zero empty on h = absurd (h refl)
follow_on (suc c) empty on h = refl

pub descend_nil : (t : Table) (q : ℕ) → descend t q [] ≡ complete q
unfolding descend
descend_nil t q = refl

pub descend_empty : (t : Table) (q x : ℕ) (xs : List ℕ) → t.child q x ≡ 0 → descend t q (x ∷ xs)
    ≡ stopped q x xs
unfolding descend
descend_empty t q x xs e = follow_empty (t.child q x) (stopped q x xs) (λ c. descend t c xs) e

pub descend_on : (t : Table) (q x : ℕ) (xs : List ℕ) → t.child q x ≢ 0 → descend t q (x ∷ xs)
    ≡ descend t (t.child q x) xs
unfolding descend
descend_on t q x xs h = follow_on (t.child q x) (stopped q x xs) (λ c. descend t c xs) h

-- a walk, link by link
pub data Walk (t : Table) : ℕ → List ℕ → Descent → Type 0 where
  end : {q : ℕ} → Walk t q [] (complete q)
  stop : {q x : ℕ} {xs : List ℕ} → t.child q x ≡ 0 → Walk t q (x ∷ xs) (stopped q x xs)
  on : {q x : ℕ} {xs : List ℕ} {d : Descent} → t.child q x ≢ 0 → Walk t (t.child q x) xs d
      → Walk t q (x ∷ xs) d

pub descended : {t : Table} {q : ℕ} {k : List ℕ} {d : Descent} → Walk t q k d → descend t q k ≡ d
descended {t} (end {q}) = descend_nil t q
descended {t} (stop {q} {x} {xs} e) = descend_empty t q x xs e
descended {t} (on {q} {x} {xs} h w) = descend_on t q x xs h ∙ descended w

-- one link, and the walk from its node on
next : (t : Table) (q x : ℕ) (xs : List ℕ) → ((c : ℕ) → Walk t c xs (descend t c xs))
    → Walk t q (x ∷ xs) (descend t q (x ∷ xs))
next t q x xs rest = go (ℕ_discrete (t.child q x) 0)
  where
    go : Dec (t.child q x ≡ 0) → Walk t q (x ∷ xs) (descend t q (x ∷ xs))
    go (yes e) = rw (descend_empty t q x xs e) (stop e)
    go (no h) = rw (descend_on t q x xs h) (on h (rest (t.child q x)))

descent : (t : Table) (q : ℕ) (k : List ℕ) → Walk t q k (descend t q k)
descent t q [] = rw (descend_nil t q) end
descent t q (x ∷ xs) = next t q x xs (λ c. descent t c xs)

pub walk : (t : Table) (q : ℕ) (k : List ℕ) {d : Descent} → descend t q k ≡ d → Walk t q k d
walk t q k e = subst (λ (d : Descent). Walk t q k d) e (descent t q k)

-- a complete walk can go on from its last node
append : {t : Table} {a q : ℕ} {k m : List ℕ} {d : Descent} → Walk t a k (complete q)
    → Walk t q m d → Walk t a (k ++ m) d
append end w = w
append (on h v) w = on h (append v w)

pub descend_append : (t : Table) (a : ℕ) (k m : List ℕ) {q : ℕ} → descend t a k ≡ complete q
    → descend t a (k ++ m) ≡ descend t q m
descend_append t a k m {q} e = descended (append (walk t a k e) (descent t q m))

-- a key whose walk is complete answers its node's data, any other key 0
pub answer_complete : (t : Table) (k : List ℕ) {q : ℕ} → descend t 0 k ≡ complete q
    → answer t k ≡ t.value q
unfolding answer value_at
answer_complete t k e = ap (value_at t) e

pub answer_stopped : (t : Table) (k : List ℕ) {q x : ℕ} {xs : List ℕ} → descend t 0 k
    ≡ stopped q x xs → answer t k ≡ 0
unfolding answer value_at
answer_stopped t k e = ap (value_at t) e

-- the last link of a complete walk
last : {t : Table} {a q : ℕ} (k : List ℕ) (x : ℕ) → Walk t a (k ++ (x ∷ [])) (complete q)
    → (p : ℕ) × Walk t a k (complete p) × (t.child p x ≡ q) × (q ≢ 0)
last {a = a} [] x (on h end) = (a, end, refl, h)
last (y ∷ k) x (on h w) = let (p, v, e, f) = last k x w in (p, on h v, e, f)

pub last_link : (t : Table) (a : ℕ) (k : List ℕ) (x : ℕ) {q : ℕ} → descend t a (k ++ (x ∷ []))
    ≡ complete q
    → (p : ℕ) × (descend t a k ≡ complete p) × (t.child p x ≡ q) × (q ≢ 0)
last_link t a k x e =
    let (p, w, f, h) = last k x (walk t a (k ++ (x ∷ [])) e) in (p, descended w, f, h)

-- two complete walks from the root to one node, with their keys read from the last letter
unique : {t : Table} {q : ℕ} (k m : List ℕ) → Once t → Walk t 0 (reverse k) (complete q)
    → Walk t 0 (reverse m) (complete q) → k ≡ m
unique [] [] once v w = refl
unique {t} [] (y ∷ m) once end w = absurd ((last (reverse m) y (rw (reverse-cons y m) at w)).3
    refl)
unique (x ∷ k) [] once v end = absurd ((last (reverse k) x (rw (reverse-cons x k) at v)).3 refl)
unique {t} {q = q} (x ∷ k) (y ∷ m) once v w =
    let (p, v', e, h) = last (reverse k) x (rw (reverse-cons x k) at v) in
    let (p', w', e', h') = last (reverse m) y (rw (reverse-cons y m) at w) in
    let both : (p ≡ p') × (x ≡ y) = once p x p' y (rw e h) (e ∙ sym e') in
    ap₂ ◌∷◌ both.1 (unique {t = t} {q = p} k m once v' (rw both.0 w'))

-- two keys whose walks end at one node are equal
pub one_key : (t : Table) (k m : List ℕ) {q : ℕ} → Once t → descend t 0 k ≡ complete q
    → descend t 0 m ≡ complete q → k ≡ m
one_key t k m {q} once e f = sym (reverse-reverse k) ∙ ap reverse same ∙ reverse-reverse m
  where
    same : reverse k ≡ reverse m
    same =
        unique {t = t} {q = q} (reverse k) (reverse m) once (rw reverse-reverse (walk t 0 k e))
        (rw reverse-reverse (walk t 0 m f))

-- a complete walk from a node up to g ends at a node up to g
inside : {t : Table} {a q : ℕ} {k : List ℕ} (g : ℕ) → Within t g → a ≤ g → Walk t a k (complete q)
    → q ≤ g
inside g within h end = h
inside g within h (on {q} {x} f w) = inside g within (within q x) w

pub complete_within : (t : Table) (g : ℕ) (k : List ℕ) {q : ℕ} → Within t g → descend t 0 k
    ≡ complete q → q ≤ g
complete_within t g k within e = inside g within (omega arith) (walk t 0 k e)

-- a walk that stopped: the link is empty, and the letters before it lead to its node
pub record Stopped (t : Table) (a : ℕ) (k : List ℕ) (q x : ℕ) (xs : List ℕ) : Type 0 where
  pub path : List ℕ
  pub key : k ≡ path ++ (x ∷ xs)
  pub reaches : descend t a path ≡ complete q
  pub empty : t.child q x ≡ 0

halt : {t : Table} {a q x : ℕ} {k xs : List ℕ} → Walk t a k (stopped q x xs) → Stopped t a k q x xs
halt {t} {a} (stop e) = record { path = []; key = refl; reaches = descend_nil t a; empty = e }
halt {t} (on {q} {x} h w) =
    let s = halt w in
    record {
      path = x ∷ s.path;
      key = ap (λ (l : List ℕ). x ∷ l) s.key;
      reaches = descend_on t q x s.path h ∙ s.reaches;
      empty = s.empty;
    }

pub where_stopped : (t : Table) (a : ℕ) (k : List ℕ) {q x : ℕ} {xs : List ℕ} → descend t a k
    ≡ stopped q x xs → Stopped t a k q x xs
where_stopped t a k e = halt (walk t a k e)

pub stopped_within : (t : Table) (g : ℕ) (k : List ℕ) {q x : ℕ} {xs : List ℕ} → Within t g
    → descend t 0 k ≡ stopped q x xs → q ≤ g
stopped_within t g k within e =
    let s = where_stopped t 0 k e in complete_within t g s.path within s.reaches

-- a complete walk has no letter outside the table
short : {t : Table} {g n a q : ℕ} {k : List ℕ} → Framed t g n → Walk t a k (complete q)
    → LettersBelow n k
short framed end = tt
short {n = n} framed (on {q} {x} h w) = (go (dec_lt x n), short framed w)
  where
    go : Dec (x < n) → x < n
    go (yes l) = l
    go (no l) = absurd (h (framed.no_letter q x (omega arith)))
