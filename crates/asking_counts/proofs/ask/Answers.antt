-- `asking_counts::ask` meets its contract: the comparison judges the check's rows and 25, then the
-- key is judged by 9 and 10. Assumes nothing.
use Rattle.std.proofs.lemmas.Result.{err_from_is_err_and}
use Rattle.key.proofs.Keyed.{keyed}
use Rattle.asking.proofs.Asking.{front_permitted, front_opens}
use Rattle.asking.proofs.Asking.{before_refused, key_refused, key_ready, key_passed}
use Rattle.asking_counts.proofs.AskingCounts.{compared_front}
use Rattle.asking_counts.proofs.ask.Goals as goal

pub judge-requires : goal.judge-requires
judge-requires c = front_permitted (compared_front c.in_ok-head.ensures)

pub invariant_of-result : goal.invariant_of-result
invariant_of-result c =
    let o = compared_front c.in_ok-head.ensures in
    record { ready = key_ready o (keyed (front_opens o) c.in_ok-key.ensures) }

pub returns-in_err-head : goal.returns-in_err-head
returns-in_err-head c =
    let f = c.from_residual in
    let e = err_from_is_err_and f.result f.ensures.1 in
    rw (e.1, e.2) (before_refused (compared_front c.in_err-head.ensures))

pub returns-in_err-key : goal.returns-in_err-key
returns-in_err-key c =
    let f = c.from_residual-in_err-key in
    let e = err_from_is_err_and f.result f.ensures.1 in
    let o = compared_front c.in_ok-head.ensures in
    rw (e.1, e.2) (key_refused o (keyed (front_opens o) c.in_err-key.ensures))

pub returns : goal.returns
returns c =
    let o = compared_front c.in_ok-head.ensures in
    key_passed o (keyed (front_opens o) c.in_ok-key.ensures)
