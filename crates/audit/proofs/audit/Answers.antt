-- `audit::audit` meets its contract: 5 is judged first. After the last clearing the first numbers
-- are 0 and the rest are as lent, since nothing before it changes the rest. Assumes nothing.
use native.Mathlib.Omega.{arith}
use Rattle.audit.proofs.Verdicts.{audited_few, audited_linked}
use Rattle.audit.proofs.audit.Goals as goal

pub returns-then-work-count : goal.returns-then-work-count
returns-then-work-count c = audited_few (omega arith)

pub returns : goal.returns
returns c =
    audited_linked c.count-count.ensures (omega arith) c.clear.ensures c.links-verdict.ensures
    c.clear-2.ensures
