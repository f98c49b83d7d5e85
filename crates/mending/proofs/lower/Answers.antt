-- `mending::lower` meets its contract: the image with the lower G is checked, and where it is
-- refused the image is left as it was. Assumes nothing.
use borrow.Author.Rules.{rules}
use Rattle.mending.proofs.Trial.{trial_passed, trial_refused}
use Rattle.mending.proofs.lower.Goals as goal

pub returns-in-Err : goal.returns-in-Err
returns-in-Err c =
    trial_refused c.set_total.ensures c.in-Err.ensures (λ k. search rules) c.requires.room
    c.total-total.ensures c.set_total-in-Err.ensures

pub returns : goal.returns
returns c = trial_passed c.set_total.ensures c.in_default.ensures
