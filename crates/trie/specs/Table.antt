-- A trie as a table of nodes, and the walk through it (01, "Walking, storing, listing"). A table
-- has no bytes; the crate `node` makes a table of an image. A node is known by its address, the
-- root is 0, and link 0 is empty.
use Rattle.std.specs.Prelude.{ℕ, zero, suc, ◌<◌, Bool, cond, List, [], ◌∷◌, length}
use Rattle.std.proofs.Math.Option.{Option, none, some}

-- a node's link for each letter number, and a node's data
pub record Table : Type 0 where
  pub child : ℕ → ℕ → ℕ
  pub value : ℕ → ℕ

-- `empty` for an empty link; for any other link, what `on` gives for its address
unfoldable pub follow {ℓ} : {X : Type ℓ} → ℕ → X → (ℕ → X) → X
follow zero empty on = empty
follow (suc c) empty on = on (suc c)

-- How a key's walk ends: at the key's own node, or at an empty link. `stopped` has the node that
-- holds the empty link, the letter of this link and the letters after it.
pub data Descent : Type 0 where
  complete : ℕ → Descent
  stopped : ℕ → ℕ → List ℕ → Descent

-- "each letter gives the next position"
unfoldable pub descend : Table → ℕ → List ℕ → Descent
unfolding follow
descend t q [] = complete q
descend t q (x ∷ xs) = follow (t.child q x) (stopped q x xs) (λ c. descend t c xs)

-- "An empty link means absent: number 0, value 0. At the end the node's data is the value"
unfoldable pub value_at : Table → Descent → ℕ
value_at t (complete q) = t.value q
value_at t (stopped q x xs) = 0

-- what a key answers: its value, or 0 for absent. "The empty key, where min is 0, is the root's
-- data."
unfoldable pub answer : Table → List ℕ → ℕ
unfolding value_at descend
answer t k = value_at t (descend t 0 k)

-- every letter of a key is one of the n letters
abbrev pub LettersBelow : ℕ → List ℕ → Type 0
LettersBelow n [] = Unit {0}
LettersBelow n (x ∷ xs) = (x < n) × LettersBelow n xs

-- "the number of nodes missing on the key's path"
unfoldable pub missing : Descent → ℕ
missing (complete q) = 0
missing (stopped q x xs) = suc (length xs)

-- "the first refusal met on the way down is the answer, and its place is the node that holds
-- that link": the node that holds the first bad link on the key's path, if there is one. An
-- empty link ends the path.
unfoldable pub fault : (ℕ → Bool) → Table → ℕ → List ℕ → Option ℕ
unfolding follow
fault bad t q [] = none
fault bad t q (x ∷ xs) =
    follow (t.child q x) none (λ c. cond (bad c) (some q) (fault bad t c xs))
