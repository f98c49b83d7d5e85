-- `alphabet::is_among` meets its contract. The answer so far is that for the codes passed.
-- Assumes nothing.
use native.Mathlib.Omega.{arith}
use Rattle.alphabet.proofs.AlphabetLoops.{searching_none, searching_more, searching_all}
use Rattle.alphabet.proofs.codes.is_among.Goals as goal

pub loop-c-init : goal.loop-c-init
loop-c-init c = searching_none _ _

pub loop-c-preserved : goal.loop-c-preserved
loop-c-preserved c = searching_more c.loop-c.invariant (omega arith)

pub returns : goal.returns
returns c = searching_all c.loop-c.invariant (omega arith)
