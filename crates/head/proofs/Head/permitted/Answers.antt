-- `head::Head::permitted` meets its contract. The code makes the tests of the definition, F's
-- first, without those against the least values of F, min and max, which are 0. Assumes nothing.
use mathlib.Core.Path.{◌≡◌}
use mathlib.Core.Bool.{true, false, and_assoc, and-false}
use lib.Dec.{leb, leb-zero}
use borrow.Author.Tests.{le-leb, lt-leb}
use Rattle.head.specs.Fields.{permitted, most_alphabet}
use Rattle.head.proofs.Head.permitted.Goals as goal

pub returns-then-self-gt-F_MOST : goal.returns-then-self-gt-F_MOST
unfolding permitted
returns-then-self-gt-F_MOST c =
    let above : leb c.args.self.f most_alphabet ≡ false =
    lt-leb _ _ c.if-self-gt-F_MOST.true in
    simp (above, and-false)

pub returns : goal.returns
unfolding permitted
returns c =
    let within : leb c.args.self.f most_alphabet ≡ true =
    le-leb _ _ c.if-self-gt-F_MOST.false in
    simp (within, leb-zero, and_assoc)
