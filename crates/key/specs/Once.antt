-- That letters are all below N has at most one proof, as a fact that a struct keeps must have.
use Rattle.std.specs.Prelude.{ℕ, List, [], ◌∷◌}
use Rattle.std.specs.Coded.{×_prop, Unit-prop, le_prop}
use Rattle.trie.specs.Table.{LettersBelow}

pub LettersBelow-prop : (n : ℕ) (k : List ℕ) → IsProp (LettersBelow n k)
LettersBelow-prop n [] = Unit-prop
LettersBelow-prop n (x ∷ k) = ×_prop le_prop (LettersBelow-prop n k)
