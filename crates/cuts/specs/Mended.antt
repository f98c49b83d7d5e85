-- 02, Ask 1: "a mending call with enough working numbers must leave the answers from before the
-- store or after it". What mending leaves, and what a caller knows of the writes.
use Rattle.std.specs.Prelude.{ℕ, ◌+◌, ◌-◌, ◌≡◌, cond, List, [], ◌∷◌, take, drop, pos}
use Rattle.node.specs.Writes.{Write}
use Rattle.field.specs.Field.{Bytes}
use Rattle.head.specs.Fields.{put_total, total_at, total_len}
use Rattle.paper.specs.Hearing.{outcome, done_numbers}
use Rattle.paper.specs.Accepted.{Accepted}
use Rattle.paper.specs.Calls.{work_after, check_of, can_mend, mend_of}
use Rattle.seen.specs.Seen.{SameUsed, SameAnswers}

-- mending the image l answers 0 and leaves an accepted image that answers as m does: in every
-- call, stores and mending too, and in every run of calls. G and the bytes from its end up to U
-- are m's, so what a cut store wrote beyond m's U is spare again.
pub record MendsTo (l work m : List ℕ) : Type 0 where
  pub image : List ℕ
  pub heard : mend_of l work ≡ outcome (done_numbers 0 (pos 0) 0) (image ∷ work_after l work ∷ [])
  pub accepted : Accepted image
  pub answers : SameAnswers (total_at + total_len) image m
  -- the bytes of G too, where m consists of bytes, as every lent image does
  pub used_bytes : Bytes m → SameUsed 0 image m

-- the image that mending leaves, done or refused
unfoldable pub mended_image : List ℕ → List ℕ → List ℕ
unfolding can_mend check_of
mended_image l work =
    cond (can_mend l (check_of l work).numbers)
    (put_total l ((check_of l work).numbers.place - 1)) l

-- the writes that a caller recovers from the list of writes and the image after the call: the
-- bytes of a write are those that the image has at its place
unfoldable pub read_back : List ℕ → List ℕ → List Write
read_back after [] = []
read_back after (place ∷ []) = []
read_back after (place ∷ len ∷ rest) =
    record { place = place; bytes = take len (drop place after) } ∷ read_back after rest
