-- Marks. That of the root is 1, and that of a child follows from its parent's, since the key that
-- leads to the child has one letter more. A working number holds a node and a mark side by side:
-- each is read back from it.
use Prim.Native.Nat.{ℕ, ◌+◌, ◌*◌, ◌/◌, ◌%◌, ◌<◌}
use mathlib.Core.Path.{◌≡◌, refl, ◌∙◌}
use mathlib.Core.List.{List, [], ◌∷◌, ◌++◌}
use native.Mathlib.Omega.{arith}
use lib.ListN.{get_or, length-append}
use Rattle.trie.specs.Table.{Table}
use Rattle.trie.specs.Tree.{Parent}
use Rattle.trie.proofs.Walk.{descend_nil, descend_append}
use Rattle.trie.proofs.Tree.{link_on}
use Rattle.reaching.specs.Reaching.{marks, deeper_of, Marked, below_in}

-- ---- the marks of nodes

pub marked_root : (t : Table) → Marked t 0 1
marked_root t = record { key = []; leads = descend_nil t 0; told = refl }

pub marked_on : {t : Table} {q c mark : ℕ} → Marked t q mark → Parent t q c
    → Marked t c (deeper_of mark)
marked_on {t} {c = c} m a =
    record {
      key = m.key ++ (a.letter ∷ []);
      leads =
          descend_append t 0 m.key (a.letter ∷ []) m.leads
          ∙ link_on a [] (descend_nil t c);
      told = omega (arith, m.told, length-append m.key (a.letter ∷ []));
    }

-- ---- a node and a mark in a number

pub next_of : (a m : ℕ) → m < marks → (a * marks + m) / marks ≡ a
next_of a m b = omega arith

pub mark_of : (a m : ℕ) → m < marks → (a * marks + m) % marks ≡ m
mark_of a m b = omega arith

-- number 0 names no node
pub next_none : (work : List ℕ) (x : ℕ) → get_or work x 0 ≡ 0 → below_in work x ≡ 0
next_none work x z = omega arith
