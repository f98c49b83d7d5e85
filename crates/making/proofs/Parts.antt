-- The three writes of make, one after the other, give the fresh image.
use Prim.Native.Nat.{ℕ, ◌+◌}
use mathlib.Core.Path.{◌≡◌, ◌∙◌}
use mathlib.Core.List.{List}
use lib.ListN.{length}
use lib.Seq.{sets}
use Rattle.field.specs.Field.{cleared}
use Rattle.head.specs.declared.Head.{Head}
use Rattle.head.specs.Fields.{fields_len, head_bytes, node_width}
use Rattle.paper.specs.Calls.{fresh_image}
use Rattle.paper.proofs.MakeCall.{parts}

-- the image after the head, after the alphabet and after the root
pub written : (h : Head) (alphabet image : List ℕ) {headed lettered rooted : List ℕ} {w : ℕ}
    → headed ≡ sets image 0 (head_bytes h)
    → lettered ≡ sets headed fields_len alphabet → w ≡ node_width h → rooted ≡ cleared lettered
    (fields_len + length alphabet) w → rooted ≡ fresh_image h alphabet image
written h alphabet image p q r s = s ∙ rw (q, p, r) (parts h alphabet image)
