-- `alphabet::letter` meets its contract. None of the codes passed is the one sought. So if it is
-- met, this is its first position; if it is not, it is no letter. Assumes nothing.
use mathlib.Core.Path.{sym}
use native.Mathlib.Omega.{arith}
use Rattle.alphabet.proofs.AlphabetLoops.{searching_on, searching_found, searching_missed}
use Rattle.alphabet.proofs.Positions.{letter_found, letter_missed}
use Rattle.alphabet.proofs.letter.Goals as goal

pub loop-i-init : goal.loop-i-init
loop-i-init c = record { told = sym c.near-i.ensures.before }

pub returns-then-codes-i : goal.returns-then-codes-i
returns-then-codes-i c =
    letter_found _ _ _ (omega arith)
    (searching_found c.loop-i.invariant (omega arith) c.if-codes-i.true)

pub loop-i-preserved : goal.loop-i-preserved
loop-i-preserved c = searching_on c.loop-i.invariant (omega arith) c.if-codes-i.false

pub returns : goal.returns
returns c = letter_missed _ _ (searching_missed c.loop-i.invariant (omega arith))
