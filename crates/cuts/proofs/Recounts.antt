-- 02, Ask 7: "A call of its own works them out, as after a mending of Ask 1". A cut and mending
-- may leave the counts wrong, since they are beside the image. In any accepted image working out
-- makes them right; mending that answers 0 leaves such an image, and after a cut in a store it
-- answers 0.
use Prim.Native.Nat.{ℕ, ◌+◌, ◌≤◌, ◌<◌}
use mathlib.Core.Path.{◌≡◌, ap}
use mathlib.Core.Bool.{Bool}
use mathlib.Core.Logic.{⊎_elim}
use mathlib.Core.List.{List, [], ◌∷◌}
use native.Mathlib.Decide.{dec_lt}
use native.Mathlib.Omega.{arith}
use lib.IntN.{pos}
use lib.ListN.{length}
use Rattle.head.specs.Fields.{head_of}
use Rattle.paper.specs.Hearing.{Outcome, outcome, done_numbers}
use Rattle.paper.specs.Given.{Given, key_in}
use Rattle.paper.specs.Calls.{work_after, writes_in, store_of, mend_of}
use Rattle.paper.specs.Accepted.{Accepted}
use Rattle.position.specs.Counts.{RightCounts}
use Rattle.position.specs.Calls.{worked, counts_of, check_counts_of, store_counts_of}
use Rattle.position.proofs.Plain.{store_counts_plain}
use Rattle.position.proofs.Right.{worked_right, counts_exactly, counts_leaves, counts_then_check}
use Rattle.cuts.specs.Cut.{cut_after}
use Rattle.cuts.specs.Flushed.{groups_in, cut_since}
use Rattle.cuts.specs.Mended.{MendsTo, mended_image}
use Rattle.cuts.proofs.Cuts.{Mended, cut_store}
use Rattle.cuts.proofs.Flushes.{MendedFlushed, flushed_store}
use Rattle.cuts.proofs.AfterMending.{mend_zero}

-- ---- right again

-- the counts are worked out, the list that is left is right, and the check with counts answers 0
pub record Recounted (l work counts work₂ : List ℕ) : Type 0 where
  pub done : (counts_of l work counts).numbers.number ≡ 0
  pub leaves : counts_of l work counts ≡ outcome (done_numbers 0 (pos 0) 0)
      (work_after l work ∷ worked l counts ∷ [])
  pub right : RightCounts l (worked l counts)
  pub checked : (check_counts_of l work₂ (worked l counts)).numbers.number ≡ 0

-- so it is for any lists that are long enough
abbrev pub Recounts : List ℕ → Type 0
Recounts l =
    (work counts work₂ : List ℕ) → (head_of l).g + 1 ≤ length work
    → (head_of l).g + 1 ≤ length counts
    → (head_of l).g + 1 ≤ length work₂
    → Recounted l work counts work₂

pub accepted_recounts : {l : List ℕ} → Accepted l → Recounts l
accepted_recounts {l} a work counts work₂ lent long lent₂ =
    let z = (counts_exactly l work counts).1 (lent, long, a) in
    record {
      done = z;
      leaves = counts_leaves l work counts z;
      right = worked_right l counts long;
      checked = counts_then_check l work counts z work₂ lent₂;
    }

-- ---- after any mending that answers 0

pub mend_recounts : (l work : List ℕ) → (mend_of l work).numbers.number ≡ 0
    → Recounts (mended_image l work)
mend_recounts l work z = accepted_recounts (mend_zero l work z)

-- ---- after a store that was cut anywhere and mended

-- with enough working numbers for the image that the cut left
abbrev pub RecountsAfter : List ℕ → List ℕ → ℕ → Type 0
RecountsAfter l key value =
    (k : ℕ) (lands : ℕ → Bool) (work : List ℕ)
    → (head_of (cut_after k lands l (writes_in l key value))).g + 1 ≤ length work
    → Recounts (mended_image (cut_after k lands l (writes_in l key value)) work)

mends_zero : {l work m : List ℕ} → MendsTo l work m → (mend_of l work).numbers.number ≡ 0
unfolding done_numbers
mends_zero t = ap (λ (o : Outcome). o.numbers.number) t.heard

mended_recounts : (l key : List ℕ) (value : ℕ) → Mended l key value → RecountsAfter l key value
mended_recounts l key value mended k lands work lent =
    mend_recounts left work (go (dec_lt k (length (writes_in l key value))))
  where
    left : List ℕ
    left = cut_after k lands l (writes_in l key value)

    go : Dec (k < length (writes_in l key value)) → (mend_of left work).numbers.number ≡ 0
    go (yes b) = mends_zero ((mended k lands work lent).0 b)
    go (no b) = mends_zero ((mended k lands work lent).1 (omega arith))

module _ (l work : List ℕ) (given : Given) (value : ℕ) where
  pub cut_recounts : (store_of l work given value).numbers.number ≡ 0
      → RecountsAfter l (key_in l given) value
  cut_recounts z = mended_recounts l (key_in l given) value (cut_store l work given value z)

  -- a store with counts is cut and mended as the plain store is
  pub cut_store_counts : (counts : List ℕ)
      → (store_counts_of l work given value counts).numbers.number ≡ 0
      → Mended l (key_in l given) value
  cut_store_counts counts z =
      cut_store l work given value (store_counts_plain l work given value counts z).0

  pub cut_counts_recounts : (counts : List ℕ)
      → (store_counts_of l work given value counts).numbers.number ≡ 0
      → RecountsAfter l (key_in l given) value
  cut_counts_recounts counts z =
      mended_recounts l (key_in l given) value (cut_store_counts counts z)

-- ---- with three flushes in a store

-- with enough working numbers for the image that the cut left
abbrev pub RecountsFlushed : List ℕ → List ℕ → ℕ → Type 0
RecountsFlushed l key value =
    (k : ℕ) (rounds : List (ℕ → ℕ → Bool)) (work : List ℕ)
    → (head_of (cut_since k rounds l (groups_in l key value))).g + 1 ≤ length work
    → Recounts (mended_image (cut_since k rounds l (groups_in l key value)) work)

flushed_again : (l key : List ℕ) (value : ℕ) → MendedFlushed l key value
    → RecountsFlushed l key value
flushed_again l key value mended k rounds work lent =
    mend_recounts (cut_since k rounds l (groups_in l key value)) work
    (⊎_elim (λ t. mends_zero t) (λ t. mends_zero t.1) (mended k rounds work lent).either)

module _ (l work : List ℕ) (given : Given) (value : ℕ) where
  pub flushed_recounts : (store_of l work given value).numbers.number ≡ 0
      → RecountsFlushed l (key_in l given) value
  flushed_recounts z =
      flushed_again l (key_in l given) value (flushed_store l work given value z)

  -- a store with counts is cut and mended as the plain store is
  pub flushed_store_counts : (counts : List ℕ)
      → (store_counts_of l work given value counts).numbers.number ≡ 0
      → MendedFlushed l (key_in l given) value
  flushed_store_counts counts z =
      flushed_store l work given value (store_counts_plain l work given value counts z).0

  pub flushed_counts_recounts : (counts : List ℕ)
      → (store_counts_of l work given value counts).numbers.number ≡ 0
      → RecountsFlushed l (key_in l given) value
  flushed_counts_recounts counts z =
      flushed_again l (key_in l given) value (flushed_store_counts counts z)
