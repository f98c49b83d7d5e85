-- `field::load_masked` meets its contract: two halves of four bytes are the eight bytes that end
-- at `end`, and the mask leaves the last w of them. Assumes nothing.
use mathlib.Core.Path.{ap, ap₂, ◌∙◌}
use Prim.Native.Nat.{ℕ, ◌+◌, ◌*◌}
use lib.Bits.{bit_and}
use Rattle.std.proofs.lemmas.Nat.{and_le_r}
use Rattle.field.proofs.Field.{field_masked, field_halves}
use Rattle.field.proofs.load_masked.Goals as goal

pub returns : goal.returns
returns c =
    let a = c.args in
    let pre = c.requires in
    record {
      field = λ w h e. ap₂ (λ (x y : ℕ). bit_and (x * 4294967296 + y) a.mask) c.read4-high.ensures
          c.read4-low.ensures
          ∙ ap (λ (x : ℕ). bit_and x a.mask) (field_halves a.s.now a.end pre.0)
          ∙ field_masked a.s.now a.end 8 w a.mask
          (λ k. (c.type_inv.s k).fits) h pre.0 e;
      most = and_le_r _ _;
    }
