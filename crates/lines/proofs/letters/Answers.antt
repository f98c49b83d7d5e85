-- `lines::letters` meets its contract. After the first letter each turn writes a dot and the
-- next letter, for which there are four bytes of room. Assumes nothing.
use mathlib.Core.Path.{refl}
use Prim.Native.Nat.{◌+◌, ◌≤◌}
use native.Mathlib.Omega.{arith}
use borrow.Author.Rules.{rules}
use lib.ListN.{length, length-set}
use Rattle.lines.specs.Lines.{dotted}
use Rattle.lines.proofs.LineTexts.{key_none}
use Rattle.lines.proofs.TextsAt.{laid_long, laid_as, laid_one}
use Rattle.lines.proofs.LineLoops.{spelling_more, spelling_room, spelling_all}
use Rattle.lines.proofs.letters.Goals as goal
use Rattle.lines.proofs.letters.Goals.{In-loop-x}

room : (c : In-loop-x) → c.loop-x.end + 4 ≤ length c.loop-x.out
room c =
    spelling_room c.args.key.now c.letter-end.ensures c.loop-x.invariant
    (λ k. (c.type_inv.key k).fits) c.loop-x-test.true c.requires

pub returns-then-is_empty : goal.returns-then-is_empty
returns-then-is_empty c =
    laid_as (key_none c.args.key.now (search rules)) (laid_one _ _ _ refl)

pub loop-x-init : goal.loop-x-init
unfolding dotted
loop-x-init c = record { bytes = refl; ends = omega arith }

pub bounds-out-end : goal.bounds-out-end
bounds-out-end c = omega (arith, room (goal.at.bounds-out-end c).In-loop-x)

pub overflow_add-end : goal.overflow_add-end
overflow_add-end c =
    omega (
      arith,
      room (goal.at.overflow_add-end c).In-loop-x,
      laid_long
          c.loop-x.invariant,
    )

pub letter-end-requires-in-loop-x : goal.letter-end-requires-in-loop-x
letter-end-requires-in-loop-x c =
    omega (
      arith,
      room (goal.at.letter-end-requires-in-loop-x c).In-loop-x,
      length-set c.loop-x.out c.loop-x.end 46,
    )

pub loop-x-preserved : goal.loop-x-preserved
loop-x-preserved c =
    spelling_more _ c.loop-x.invariant c.loop-x-test.true c.letter-end-in-loop-x.ensures

pub returns : goal.returns
returns c =
    spelling_all c.args.key.now c.letter-end.ensures c.loop-x.invariant (search rules)
    (omega arith)
