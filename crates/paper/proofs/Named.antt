-- The letters of a key that a text names are letters of the alphabet: a letter is added to the
-- key only if its number is below the alphabet's length.
use Prim.Native.Nat.{ℕ}
use mathlib.Core.Path.{◌≡◌, refl, subst}
use mathlib.Core.Bool.{Bool, true, false}
use mathlib.Core.Option.{Option, none, some}
use mathlib.Core.List.{List, [], ◌∷◌}
use native.Mathlib.Omega.{arith}
use lib.Dec.{ltb}
use lib.ListN.{length}
use borrow.Author.Tests.{ltb-true}
use Rattle.utf8.specs.Text.{chars}
use Rattle.trie.specs.Table.{LettersBelow}
use Rattle.alphabet.specs.Letters.{letter_of, with_letter, letters_of_chars, key_of_chars}
use Rattle.alphabet.specs.Letters.{key_of_text}

-- one letter added at the front
in_front_lem : (n x : ℕ) (o : Option (List ℕ)) {k : List ℕ}
    → ((m : List ℕ) → o ≡ some m → LettersBelow n m)
    → with_letter n x o ≡ some k → LettersBelow n k
unfolding with_letter
in_front_lem n x none rest e = let z : ◌≡◌ {A = ℕ} 0 1 = cc in absurd (omega arith)
in_front_lem n x (some xs) {k} rest e = go (ltb x n) refl
  where
    go : (b : Bool) → ltb x n ≡ b → LettersBelow n k
    go true b =
        let f : some (x ∷ xs) ≡ some k = rw b at e in
        let same : x ∷ xs ≡ k = cc in
        subst (λ (l : List ℕ). LettersBelow n l) same (ltb-true x n b, rest xs refl)
    go false b =
        let f : none ≡ some k = rw b at e in let z : ◌≡◌ {A = ℕ} 0 1 = cc in absurd (omega arith)

of_characters : (alphabet cs k : List ℕ) → letters_of_chars alphabet cs ≡ some k
    → LettersBelow (length alphabet) k
unfolding letters_of_chars
of_characters alphabet [] k e =
    let same : [] ≡ k = cc in subst (λ (l : List ℕ). LettersBelow (length alphabet) l) same tt
of_characters alphabet (c ∷ cs) k e = in_front_lem (length alphabet) (letter_of alphabet c)
    (letters_of_chars alphabet cs) (of_characters alphabet cs) e

named : (alphabet : List ℕ) (o : Option (List ℕ)) {k : List ℕ} → key_of_chars alphabet o ≡ some k
    → LettersBelow (length alphabet) k
unfolding key_of_chars
named alphabet none e = let z : ◌≡◌ {A = ℕ} 0 1 = cc in absurd (omega arith)
named alphabet (some cs) {k} e = of_characters alphabet cs k e

pub named_letters : (alphabet text : List ℕ) {k : List ℕ} → key_of_text alphabet text ≡ some k
    → LettersBelow (length alphabet) k
unfolding key_of_text
named_letters alphabet text e = named alphabet (chars text) e
