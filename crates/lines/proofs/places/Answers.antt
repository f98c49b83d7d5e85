-- `lines::places` meets its contract: a number from 10 ^ k up to 10 ^ (k + 1) has k + 1 digits,
-- and 0 has one. Assumes nothing.
use mathlib.Core.Path.{sym, ap}
use native.Mathlib.Omega.{arith}
use lib.ListN.{length}
use Rattle.lines.proofs.Digits.{decimal_one, digits_of_power}
use Rattle.lines.proofs.places.Goals as goal

pub returns-in-Some : goal.returns-in-Some
returns-in-Some c =
    let e = c.in-Some.ensures in
    sym (digits_of_power c.in-Some.power c.args.v e.power_le e.next_power_gt (omega arith))

pub returns-in-None : goal.returns-in-None
returns-in-None c =
    sym (ap length (decimal_one c.args.v (omega (arith, c.in-None.ensures.none))))
