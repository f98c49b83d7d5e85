-- `head::Head::total` meets its contract: it reads the number at the place of G. Assumes nothing.
use Rattle.head.specs.Fields.{head_of}
use Rattle.head.proofs.Head.total.Goals as goal

pub returns : goal.returns
unfolding head_of
returns c = c.read4.ensures
