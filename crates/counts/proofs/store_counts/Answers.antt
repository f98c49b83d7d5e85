-- `counts::store_counts` meets its contract: `asking_counts` judges the check's rows, 25, 9 and
-- 10, and `tracking` does the rest. Assumes nothing.
use mathlib.Core.Path.{refl}
use Rattle.std.proofs.lemmas.Result.{err_from_is_err_and}
use Rattle.asking_counts.proofs.AskingCounts.{asked_right, asked_length}
use Rattle.counts.proofs.StoreCountsReturns.{store_counts_refused, store_counts_passed}
use Rattle.counts.proofs.store_counts.Goals as goal

pub store_counted-requires : goal.store_counted-requires
store_counted-requires c =
    let p = c.in_ok-asked.ensures in
    let a = p.allowed in
    record {
      accepted = a.accepted;
      own = a.head;
      allowed = asked_length _ _ p refl;
      right = asked_right _ _ p refl;
    }

pub returns-in_err-asked : goal.returns-in_err-asked
returns-in_err-asked c =
    let f = c.from_residual in
    let e = err_from_is_err_and f.result f.ensures.1 in
    rw (e.1, e.2) (store_counts_refused _ _ c.in_err-asked.ensures _)

pub returns : goal.returns
returns c = store_counts_passed _ _ c.in_ok-asked.ensures _ _ c.store_counted.ensures
