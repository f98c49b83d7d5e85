-- An image that lacks one link and would be accepted with it: the check answers 8 at the address
-- that the link would hold.
use Prim.Native.Nat.{ℕ, ◌+◌, ◌≤◌}
use mathlib.Core.Path.{◌≡◌, ◌∙◌, ap}
use mathlib.Core.Option.{none}
use mathlib.Core.List.{List}
use lib.ListN.{length}
use Rattle.head.specs.Fields.{head_of}
use Rattle.node.proofs.Tables.{framed}
use Rattle.paper.specs.Hearing.{Outcome, first, refused_numbers}
use Rattle.paper.specs.Answers.{number_at}
use Rattle.paper.specs.Orders.{opening_rows_of, check_order}
use Rattle.paper.specs.Calls.{table_in, check_of}
use Rattle.paper.proofs.Hearing.{heard_refused}
use Rattle.paper.proofs.Linking.{Unlinked, unlinked_8}
use Rattle.paper.proofs.CheckCall.{left_6}

module _ (l work : List ℕ) {q x c : ℕ} (u : Unlinked (head_of l).g (table_in l) q x c) where
  pub check_unlinked : first (opening_rows_of l) ≡ none → (head_of l).g + 1 ≤ length work
      → (check_of l work).numbers ≡ refused_numbers (number_at 8 c)
  unfolding check_of table_in
  check_unlinked opened lent =
      let e =
      left_6 l work opened lent ∙ unlinked_8 (head_of l) (table_in l) (framed (head_of l) l) u in
      ap (λ (o : Outcome). o.numbers) (heard_refused (first (check_order l work)) _ _ e)
