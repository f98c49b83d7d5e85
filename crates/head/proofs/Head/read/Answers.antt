-- `head::Head::read` meets its contract: each field is the number that `field::read4` reads at
-- its place. Assumes nothing.
use Rattle.head.specs.Fields.{head_of}
use Rattle.head.proofs.Fields.{head_eq}
use Rattle.head.proofs.Head.read.Goals as goal

pub returns : goal.returns
unfolding head_of
returns c =
    head_eq _ _
    c.read4.ensures
    c.read4-2.ensures
    c.read4-3.ensures
    c.read4-4.ensures
    c.read4-5.ensures
    c.read4-6.ensures
    c.read4-7.ensures
