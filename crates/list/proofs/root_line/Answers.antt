-- `list::root_line` meets its contract: the value 0 has no line, any other has the line of the
-- empty key. Assumes nothing.
use mathlib.Core.Path.{refl, sym}
use native.Mathlib.Omega.{arith}
use Rattle.lines.proofs.TextsAt.{laid_as}
use Rattle.list.proofs.Telling.{root_none, root_stored}
use Rattle.list.proofs.root_line.Goals as goal

pub returns-then-value-eq0 : goal.returns-then-value-eq0
returns-then-value-eq0 c = record {
  text_at = laid_as (sym (root_none c.if-value-eq0.true))
      (record { bytes = refl; ends = omega arith });
  upper_bound = omega arith;
}

pub returns : goal.returns
returns c =
    record {
      text_at = laid_as (sym (root_stored c.args.value c.if-value-eq0.false))
          c.entry.ensures.text_at;
      upper_bound = c.entry.ensures.upper_bound;
    }
