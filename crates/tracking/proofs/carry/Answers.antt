-- `tracking::carry` meets its contract: one key more adds 1 along the path, one key less takes
-- 1, and no change leaves the counts as they were. Assumes nothing.
use mathlib.Core.Logic.{◌≢◌}
use mathlib.Core.Path.{◌≡◌}
use lib.IntN.{pos, negsuc}
use Rattle.std.proofs.Common.{rules}
use Rattle.tracking.specs.Tracking.{gain_of, loss_of}
use Rattle.tracking.proofs.PathCounts.{shifted_none}
use Rattle.tracking.proofs.carry.Goals as goal

pub shift-requires-clause-fit : goal.shift-requires-clause-fit
unfolding gain_of loss_of
shift-requires-clause-fit c =
    let e : c.args.change ≡ pos 1 = search rules in rw e at c.requires.fit

pub shift-requires-in-minus1-clause-fit : goal.shift-requires-in-minus1-clause-fit
unfolding gain_of loss_of
shift-requires-in-minus1-clause-fit c =
    let e : c.args.change ≡ negsuc 0 = search rules in rw e at c.requires.fit

pub returns-in-1 : goal.returns-in-1
unfolding gain_of loss_of
returns-in-1 c = let e : c.args.change ≡ pos 1 = search rules in rw e c.shift.ensures

pub returns-in-minus1 : goal.returns-in-minus1
unfolding gain_of loss_of
returns-in-minus1 c =
    let e : c.args.change ≡ negsuc 0 = search rules in rw e c.shift-in-minus1.ensures

pub returns-in_default : goal.returns-in_default
returns-in_default c =
    let not_more : c.args.change ≢ pos 1 = search rules in
    let not_fewer : c.args.change ≢ negsuc 0 = search rules in
    shifted_none _ _ _ _ not_more not_fewer
