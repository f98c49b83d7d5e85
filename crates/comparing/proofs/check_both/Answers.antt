-- `comparing::check_both` meets its contract: it is the check of the part lent, and leaves the
-- other working numbers as they were. Assumes nothing.
use Prim.Native.Nat.{ℕ}
use mathlib.Core.Path.{◌≡◌, ◌∙◌, ap, ap₂}
use mathlib.Core.List.{List, ◌++◌}
use lib.ListN.{take, drop}
use Rattle.std.proofs.lemmas.List.{take_min, drop_min}
use Rattle.paper.specs.Hearing.{first}
use Rattle.paper.specs.Orders.{check_order}
use Rattle.paper.specs.Calls.{work_after}
use Rattle.comparing.proofs.check_both.Goals as goal

pub returns : goal.returns
returns c =
    let l = c.args.image.now in
    let work = c.args.work.now in
    let lent = c.args.lent in
    let most = c.min-most.result in
    let t : take most work ≡ take lent work = rw c.min-most.ensures (take_min lent work) in
    let d : drop most work ≡ drop lent work = rw c.min-most.ensures (drop_min lent work) in
    let checked = c.check.ensures in
    record {
      verdict = checked.verdict ∙ ap (λ (w : List ℕ). first (check_order l w)) t;
      numbers = ap₂ ◌++◌ (checked.numbers ∙ ap (work_after l) t) d;
      head = checked.head;
      decoded = checked.decoded;
    }
