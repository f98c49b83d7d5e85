-- `key::Key::of` meets its contract: the letters are copied into an array of zeros. Assumes
-- nothing.
use Prim.Native.Nat.{ℕ}
use mathlib.Core.Path.{ap}
use mathlib.Core.List.{List}
use lib.ListN.{length}
use Rattle.head.specs.Fields.{most_letters}
use Rattle.key.specs.declared.Key.{Key}
use Rattle.key.specs.Hand.{in_hand}
use Rattle.key.proofs.Hand.{copied}
use Rattle.key.proofs.Key.of.Goals as goal

pub returns : goal.returns
unfolding in_hand
returns c =
    let l = c.args.letters.now in
    let hand : List ℕ → Key = λ k. record { letters = k; len = length l } in
    rw c.copy_from_slice.ensures.after (ap hand (copied most_letters l _ c.min-most.ensures))
