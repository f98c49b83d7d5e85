-- What a call knows once 1 to 4 have passed: the head that it read is the image's own, the nodes
-- are inside the image, and it is no longer than 01 allows.
use Prim.Native.Nat.{ℕ, ◌≤◌}
use mathlib.Core.Path.{◌≡◌}
use mathlib.Core.Option.{none}
use mathlib.Core.List.{List}
use lib.ListN.{length}
use Rattle.head.specs.declared.Head.{Head}
use Rattle.field.proofs.Range.{between_true}
use Rattle.head.specs.Fields.{shortest_image, longest_image, head_of}
use Rattle.node.specs.Image.{Open}
use Rattle.paper.specs.Hearing.{first}
use Rattle.paper.specs.Given.{alphabet_in}
use Rattle.paper.specs.Orders.{opening_rows_of}
use Rattle.paper.proofs.Opening.{passed}

pub record Known (l : List ℕ) (h : Head) : Type 0 where
  pub opened : first (opening_rows_of l) ≡ none
  pub own : h ≡ head_of l
  pub image : Open h l
  pub short : length l ≤ longest_image

pub known : {l : List ℕ} {h : Head} → first (opening_rows_of l) ≡ none → h ≡ head_of l → Known l h
unfolding opening_rows_of
known {l} opened own =
    let p = passed (head_of l) (alphabet_in (head_of l) l) (length l) opened in
    record {
      opened = opened;
      own = own;
      image = rw own (record { head_permitted = p.head_permitted; room = p.room });
      short = (between_true (length l) shortest_image longest_image p.allowed).1;
    }
