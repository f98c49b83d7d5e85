-- `paper::bad_link` meets its contract: the test of `bad_link` is the one that it makes. Assumes
-- nothing.
use mathlib.Core.Path.{refl}
use Rattle.paper.specs.Rows.{bad_link}
use Rattle.paper.proofs.bad_link.Goals as goal

pub returns : goal.returns
unfolding bad_link
returns c = refl
