-- `stores::store` meets its contract: `asking` judges the check's rows, 9 and 10, and `storing`
-- does the rest. Assumes nothing.
use Rattle.std.proofs.lemmas.Result.{err_from_is_err_and}
use Rattle.stores.proofs.StoreReturns.{stores_refused, stores_passed}
use Rattle.stores.proofs.store.Goals as goal

pub store-requires : goal.store-requires
store-requires c =
    let a = c.in_ok-asked.ensures.allowed in
    record { accepted = a.accepted; own = a.head }

pub returns-in_err-asked : goal.returns-in_err-asked
returns-in_err-asked c =
    let f = c.from_residual in
    let e = err_from_is_err_and f.result f.ensures.1 in
    rw (e.1, e.2) (stores_refused _ _ c.in_err-asked.ensures)

pub returns : goal.returns
returns c = stores_passed _ _ c.in_ok-asked.ensures _ c.store.ensures
