-- `lines::entry` meets its contract: the key, a blank, the value and the line's end, written one
-- after another, are the line. Assumes nothing.
use mathlib.Core.Path.{◌≡◌, refl, ◌∙◌}
use Prim.Native.Nat.{◌+◌, ◌≤◌}
use native.Mathlib.Omega.{arith}
use lib.ListN.{length, length-set}
use Rattle.lines.specs.Lines.{TextAt, key_text, entry_line}
use Rattle.lines.proofs.TextsAt.{laid_long, laid_one, laid_join}
use Rattle.lines.proofs.LineTexts.{decimal_end, key_long, entry_long}
use Rattle.lines.proofs.entry.Goals as goal
use Rattle.lines.proofs.entry.Goals.{After-letters-end, After-number-end}

key : (c : After-letters-end)
    → TextAt c.args.out.now
    c.args.at
    (key_text c.args.key.now)
    c.letters-end.result c.letters-end.new.out
key c = c.letters-end.ensures

room : (c : After-letters-end) → c.letters-end.result + 31 ≤ length c.letters-end.new.out
room c =
    let a = c.args in
    omega (
      arith,
      (key c).ends,
      laid_long (key c),
      key_long a.key.now (λ k. (c.type_inv.key k).fits),
    )

long : (c : After-number-end) → length c.number-end.new.out
    ≡ length c.letters-end.new.out
long c =
    laid_long c.number-end.ensures ∙ length-set c.letters-end.new.out c.letters-end.result 32

end : (c : After-number-end)
    → c.letters-end.result + 31 ≤ length c.letters-end.new.out
    → c.number-end.result + 10 ≤ length c.number-end.new.out
end c r = omega (arith, r, long c, decimal_end _ c.number-end.ensures)

pub bounds-out-end : goal.bounds-out-end
bounds-out-end c = omega (arith, room (goal.at.bounds-out-end c).After-letters-end)

pub overflow_add-end : goal.overflow_add-end
overflow_add-end c = omega (arith, room (goal.at.overflow_add-end c).After-letters-end)

pub number-end-requires : goal.number-end-requires
number-end-requires c =
    omega (
      arith,
      room (goal.at.number-end-requires c).After-letters-end,
      length-set c.letters-end.new.out c.letters-end.result 32,
    )

pub bounds-out-end-2 : goal.bounds-out-end-2
bounds-out-end-2 c =
    let at = goal.at.bounds-out-end-2 c in
    omega (arith, end at.After-number-end (room at.After-letters-end))

pub overflow_add-result : goal.overflow_add-result
overflow_add-result c =
    let at = goal.at.overflow_add-result c in
    omega (
      arith,
      end at.After-number-end (room at.After-letters-end),
      long at.After-number-end,
    )

pub returns : goal.returns
unfolding entry_line
returns c =
    let a = c.args in
    let line =
    laid_join (key (goal.at.returns c).After-letters-end) (laid_join (laid_one _ _ _ refl)
    (laid_join c.number-end.ensures (laid_one _ _ _ refl))) in record {
      text_at = line;
      upper_bound = omega (
        arith,
        line.ends,
        entry_long a.key.now a.value (λ k. (c.type_inv.key k).fits),
      );
    }
