-- `alphabet::near` meets its contract: none of the codes passed is the one sought. The measure
-- is how many codes are left. Assumes nothing.
use mathlib.Core.Path.{sym}
use native.Mathlib.Omega.{arith}
use Rattle.alphabet.proofs.AlphabetLoops.{searching_none, searching_four}
use Rattle.alphabet.proofs.near.Goals as goal

pub loop-i-init : goal.loop-i-init
loop-i-init c = (omega arith, searching_none _ _)

pub returns-then-codes-i : goal.returns-then-codes-i
returns-then-codes-i c =
    let p = c.loop-i.invariant in record { within = p.0; before = sym p.1.told }

pub loop-i-preserved : goal.loop-i-preserved
loop-i-preserved c =
    (omega arith, searching_four c.loop-i.invariant.1 (omega arith) c.if-codes-i.false)

pub returns : goal.returns
returns c = let p = c.loop-i.invariant in record { within = p.0; before = sym p.1.told }
