-- `key::all_below` meets its contract: `all` asks each letter whether it is below n. Assumes
-- nothing.
use mathlib.Core.Path.{◌∙◌}
use Rattle.std.proofs.Common.{rules, tests}
use lib.Dec.{ltb}
use Rattle.std.proofs.lemmas.Iterator.{YieldsList-from_slice}
use Rattle.std.proofs.lemmas.Iterator.Search.{all_from_yields_List}
use Rattle.key.proofs.Judging.{below_is}
use Rattle.key.proofs.all_below.Goals as goal

pub returns : goal.returns
returns c =
    let letters = c.args.letters.now in
    all_from_yields_List (λ x. ltb x c.args.n) _ _ _ c.all.ensures.ran
    (YieldsList-from_slice letters cc) (λ x b q k. search (rules, tests))
    ∙ below_is c.args.n letters
