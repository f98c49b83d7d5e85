-- `jumps::tell_position` meets its contract: the way by counts answers the position, or that the
-- key is not stored. Assumes nothing.
use mathlib.Core.Path.{◌∙◌}
use Rattle.jumps.proofs.PositionReturns.{ranks_told}
use Rattle.jumps.proofs.tell_position.Goals as goal

pub returns : goal.returns
returns c = c.ok_or.ensures.value ∙ ranks_told _ _ c.rank.ensures
