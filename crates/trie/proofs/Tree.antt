-- A table that meets the rules on links is a tree as 002 describes it. A node's only parent is
-- the node of the only link that holds its address. A node that is its own ancestor would be
-- reached by two keys, which `one_key` excludes.
use Prim.Native.Nat.{ℕ, ◌≤◌}
use mathlib.Core.Path.{◌≡◌, refl, sym, ◌∙◌, ap}
use mathlib.Core.List.{List, [], ◌∷◌, ◌++◌}
use native.Mathlib.Decide.{dec_le}
use native.Mathlib.Omega.{arith}
use lib.ListN.{length, length-append}
use Rattle.trie.specs.Table.{Table, complete, descend}
use Rattle.trie.specs.Rules.{Framed, Within, Named, Once, LinkRules}
use Rattle.trie.specs.Tree.{Parent, Ancestor, parent, above, Reachable}
use Rattle.trie.proofs.Walk.{descend_nil, descend_on, descend_append, one_key}

-- ---- parents

pub has_parent : {t : Table} {g c : ℕ} → Named t g → 1 ≤ c → c ≤ g → (q : ℕ) × Parent t q c
has_parent {c = c} named low high =
    let (q, i, e) = named c low high in
    (q, record { letter = i; link = e; full = λ z. omega arith })

-- two parents of a node are the same node, and the same letter of it leads there
pub one_parent : {t : Table} {q p c : ℕ} → Once t → (a : Parent t q c) (b : Parent t p c)
    → (q ≡ p) × (a.letter ≡ b.letter)
one_parent {q = q} {p = p} once a b =
    once q a.letter p b.letter (λ z. a.full (sym a.link ∙ z)) (a.link ∙ sym b.link)

-- "It has no parent": no link that is not empty refers to the root
pub root_parentless : {t : Table} {q : ℕ} → ¬ Parent t q 0
root_parentless a = a.full refl

-- a parent is a node of the table, and so is its child
pub parent_within : {t : Table} {g n q c : ℕ} → Framed t g n → Parent t q c → q ≤ g
parent_within {g = g} {q = q} framed a = go (dec_le q g)
  where
    go : Dec (q ≤ g) → q ≤ g
    go (yes b) = b
    go (no b) = absurd (a.full (sym a.link ∙ framed.no_node q a.letter (omega arith)))

pub child_within : {t : Table} {g q c : ℕ} → Within t g → Parent t q c → c ≤ g
child_within {q = q} within a = rw a.link at (within q a.letter)

-- ---- reached

-- one link, and the walk from its node on
pub link_on : {t : Table} {q p c : ℕ} (a : Parent t q p) (xs : List ℕ)
    → descend t p xs ≡ complete c
    → descend t q (a.letter ∷ xs) ≡ complete c
link_on {t} {q} a xs e =
    descend_on t q a.letter xs (λ z. a.full (sym a.link ∙ z))
    ∙ ap (λ (c : ℕ). descend t c xs) a.link
    ∙ e

-- from a node that is reached its children are
pub reached_on : {t : Table} {q c : ℕ} → Reachable t q → Parent t q c → Reachable t c
reached_on {t} {q} {c} (k, e) a = (
  k ++ (a.letter ∷ []),
  descend_append t 0 k (a.letter ∷ []) e ∙ link_on a [] (descend_nil t c),
)

-- ---- ancestors

-- a walk of one letter or more leads from an ancestor to the node
pub from_ancestor : {t : Table} {q c : ℕ} → Ancestor t q c
    → (x : ℕ) × (xs : List ℕ) × (descend t q (x ∷ xs) ≡ complete c)
from_ancestor {t} (parent {c = c} a) = (a.letter, [], link_on a [] (descend_nil t c))
from_ancestor (above a rest) =
    let (y, ys, e) = from_ancestor rest in (a.letter, y ∷ ys, link_on a (y ∷ ys) e)

-- a node that is reached is not its own ancestor
pub not_around : {t : Table} {c : ℕ} → Once t → Reachable t c → ¬ Ancestor t c c
not_around {t} once (k, e) a =
    let (x, xs, f) = from_ancestor a in
    let same : k ≡ k ++ (x ∷ xs) =
    one_key t k (k ++ (x ∷ xs)) once e (descend_append t 0 k (x ∷ xs) e ∙ f) in
    omega (arith, ap length same, length-append k (x ∷ xs))

-- the last link on the way from an ancestor
last_parent : {t : Table} {q c : ℕ} → Ancestor t q c → (p : ℕ) × Parent t p c
last_parent (parent {q} a) = (q, a)
last_parent (above a rest) = last_parent rest

-- "Node can't be its own ancestor"
pub not_own_ancestor : {t : Table} {g c : ℕ} → LinkRules t g → ¬ Ancestor t c c
not_own_ancestor r a =
    not_around r.once (r.reached _ (child_within r.within (last_parent a).1)) a
