-- `storing::replace` meets its contract: the data is read before it is written over, and the same
-- data once more changes no byte. Assumes nothing.
use mathlib.Core.Path.{◌≡◌, refl, sym, ap, ◌∙◌}
use mathlib.Core.List.{[], List, ◌∷◌}
use Prim.Native.Nat.{ℕ, zero, suc}
use mir.Facts.{to_z-of_z}
use mir.Syntax.{w32}
use borrow.Author.Rules.{rules, sfits_of}
use lib.IntN.{pos}
use Rattle.trie.specs.Storing.{change_of}
use Rattle.node.specs.Image.{table_of}
use Rattle.node.specs.Writes.{carried_out, data_write}
use Rattle.node.proofs.Writes.{data_again}
use Rattle.storing.proofs.replace.Goals as goal
use Rattle.storing.proofs.replace.Goals.{After-data-old}

-- the number of stored keys does not change
no_change : (v : ℕ) → change_of v v ≡ pos 0
unfolding change_of
no_change zero = refl
no_change (suc v) = refl

-- the data that was read
read : (c : After-data-old) →
    let a = c.args in c.data-old.result ≡ (table_of a.h a.image.now).value a.node
read c = rw (c.of.ensures.head, c.of.ensures.bytes) at c.data-old.ensures

pub returns-then-old-value : goal.returns-then-old-value
returns-then-old-value c =
    let a = c.args in
    let l : List ℕ = a.image.now in
    let same : a.value ≡ (table_of a.h l).value a.node =
    sym c.if-old-value.true ∙ read (goal.at.returns-then-old-value c).After-data-old in
    let again = data_again a.h l a.node
    (λ k. search rules) c.requires.open c.requires.node in record {
      image_after = sym (ap (λ (v : ℕ). carried_out l (data_write a.h a.node v ∷ [])) same
          ∙ again);
      value = sym (no_change a.value) ∙ ap (λ (old : ℕ). change_of old a.value) same;
    }

pub returns : goal.returns
returns c =
    let a = c.args in record {
      image_after = c.set_data.ensures.bytes;
      value = to_z-of_z {w = w32} (sfits_of c.change.type_inv) ∙ c.change.ensures
          ∙ ap (λ (old : ℕ). change_of old a.value) (read (goal.at.returns c).After-data-old);
    }
