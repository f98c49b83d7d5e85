-- Keys whose letters are all below n. The type computes letter by letter, so each law is by
-- induction on the key.
use Prim.Native.Nat.{ℕ, zero, suc, ◌≤◌, ◌<◌}
use mathlib.Core.List.{List, [], ◌∷◌, ◌++◌}
use native.Mathlib.Omega.{arith}
use lib.ListN.{length, get_or}
use Rattle.trie.specs.Table.{LettersBelow}

pub letters_at : (n : ℕ) (k : List ℕ) → LettersBelow n k → (i : ℕ) → i < length k
    → get_or k i 0 < n
letters_at n [] l i h = omega arith
letters_at n (x ∷ k) l zero h = l.0
letters_at n (x ∷ k) l (suc i) h = letters_at n k l.1 i (omega arith)

pub letters_of_lem : (n : ℕ) (k : List ℕ) → ((i : ℕ) → i < length k → get_or k i 0 < n)
    → LettersBelow n k
letters_of_lem n [] f = tt
letters_of_lem n (x ∷ k) f = (
  f 0 (omega arith),
  letters_of_lem n k
      (λ i h. f (suc i) (omega arith)),
)

pub letters_after : (n : ℕ) (k m : List ℕ) → LettersBelow n (k ++ m) → LettersBelow n m
letters_after n [] m l = l
letters_after n (x ∷ k) m l = letters_after n k m l.1

pub letters_before : (n : ℕ) (k m : List ℕ) → LettersBelow n (k ++ m) → LettersBelow n k
letters_before n [] m l = tt
letters_before n (x ∷ k) m l = (l.0, letters_before n k m l.1)

pub letters_more : (m n : ℕ) (k : List ℕ) → m ≤ n → LettersBelow m k → LettersBelow n k
letters_more m n [] b s = tt
letters_more m n (x ∷ k) b s = (omega (arith, s.0), letters_more m n k b s.1)
