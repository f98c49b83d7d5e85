-- What a part of a slice holds once all of it is written, and what the loops keep. In a copy from
-- the front, each turn stores one more element of the list (`sets_append`). In a write from the
-- last byte, the rest of the number is still to be written, in the width that is left
-- (`put_last`).
use mathlib.Core.Path.{◌≡◌, refl, sym, ap, ap₂, ◌∙◌, subst}
use Prim.Native.Nat.{ℕ, zero, suc, ◌+◌, ◌-◌, ◌/◌, ◌%◌, ◌≤◌, ◌<◌}
use native.Mathlib.Nat.{not-suc-le-zero}
use native.Mathlib.Numerals.{add-one, sub-one}
use native.Mathlib.Omega.{arith}
use native.Mathlib.Decide.{dec_lt}
use mathlib.Core.List.{List, [], ◌∷◌, append_assoc}
use lib.ListN.{length, get_or, set, take, drop, length-set}
use lib.Seq.{sets, take_all, take-suc, length-take-le}
use borrow.Rule.Slice.PartMut.{put_mid}
use Rattle.std.proofs.lemmas.Slice.{put_mid-paste}
use Rattle.std.proofs.lemmas.List.Edits.{paste_all, sets-eq}
use Rattle.field.specs.Field.{Zeros, field_at, digits, put_field}
use Rattle.field.proofs.Sets.{sets_append}
use Rattle.field.proofs.Field.{field_zero, put_last}

-- what a part of k elements from `at` on holds after they were all written
pub part_written : (l vs part : List ℕ) (at k : ℕ) → part ≡ vs → k ≡ length vs
    → at + length vs ≤ length l → put_mid at k l part ≡ sets l at vs
part_written l vs part at k e f h =
    put_mid-paste at k l part vs (length vs) e (sym f) refl
    ∙ paste_all l at vs (length vs) refl
    ∙ sym (append_assoc (take at l) vs (drop (at + length vs) l))
    ∙ sym (sets-eq vs l at h)

-- s is l with the first i elements of vs written from `at` on
pub record Laying (l : List ℕ) (at : ℕ) (vs s : List ℕ) (i : ℕ) : Type 0 where
  pub within : i ≤ length vs
  pub long : length s ≡ length l
  pub laid : s ≡ sets l at (take i vs)

pub laying_none : (l : List ℕ) (at : ℕ) (vs : List ℕ) → Laying l at vs l 0
laying_none l at vs = record { within = omega arith; long = refl; laid = refl }

pub laying_more : {l : List ℕ} {at : ℕ} {vs s : List ℕ} {i x : ℕ} → Laying l at vs s i
    → i < length vs → x ≡ get_or vs i 0 → Laying l at vs (set s (at + i) x) (i + 1)
laying_more {l} {at} {vs} {s} {i} {x} p h e =
    record {
      within = omega arith;
      long = length-set s (at + i) x ∙ p.long;
      laid =
          rw (
            add-one i,
            take-suc vs i 0 h,
            sets_append l at (take i vs) (get_or vs i 0 ∷ []),
            length-take-le i vs p.within,
          )
          (ap₂ (λ (r : List ℕ) (y : ℕ). set r (at + i) y) p.laid e);
    }

pub laying_all : {l : List ℕ} {at : ℕ} {vs s : List ℕ} {i : ℕ} → Laying l at vs s i → length vs ≤ i
    → s ≡ sets l at vs
laying_all {l} {at} {vs} {i} p h = p.laid ∙ ap (λ (r : List ℕ). sets l at r) (take_all i vs h)

-- x is what is left of the number and i what is left of the width: writing x into s gives what
-- writing v into l gives
pub record Writing (l : List ℕ) (at w v : ℕ) (s : List ℕ) (x i : ℕ) : Type 0 where
  pub within : i ≤ w
  pub long : length s ≡ length l
  pub left : put_field s at i x ≡ put_field l at w v

pub writing_none : (l : List ℕ) (at w v : ℕ) → Writing l at w v l v w
writing_none l at w v = record { within = omega arith; long = refl; left = refl }

pub writing_more : {l : List ℕ} {at w v : ℕ} {s : List ℕ} {x i : ℕ} → Writing l at w v s x i
    → 0 < i → Writing l at w v (set s (at + (i - 1)) (x % 256)) (x / 256) (i - 1)
writing_more {i = zero} p h = absurd (not-suc-le-zero h)
writing_more {at} {s} {x} {i = suc i} p h =
    rw (sub-one (suc i))
    (record {
      within = omega (arith, p.within);
      long = length-set s (at + i) (x % 256) ∙ p.long;
      left = sym (put_last s at i x) ∙ p.left;
    })

pub writing_all : {l : List ℕ} {at w v : ℕ} {s : List ℕ} {x i : ℕ} → Writing l at w v s x i → i ≤ 0
    → s ≡ put_field l at w v
unfolding digits
writing_all {i = zero} p h = p.left
writing_all {i = suc i} p h = absurd (not-suc-le-zero h)

-- eight bytes whose number is 0 are zeros, each of them
eight_zeros : (l : List ℕ) (at : ℕ) → field_at l at 8 ≡ 0 → Zeros l at (at + 8)
eight_zeros l at e k low high =
    let f : at + (k - at) ≡ k = omega arith in
    subst (λ (j : ℕ). get_or l j 0 ≡ 0) f (field_zero l at 8 e (k - at) (omega arith))

-- two ranges of zeros that meet or overlap are one range
zeros_join : (l : List ℕ) (from mid low to : ℕ) → Zeros l from mid → low ≤ mid → Zeros l low to
    → Zeros l from to
zeros_join l from mid low to a h b k above below = go (dec_lt k mid)
  where
    go : Dec (k < mid) → get_or l k 0 ≡ 0
    go (yes i) = a k above i
    go (no i) = b k (omega arith) below

-- `short_blank`: the first eight bytes and the last eight are zeros, and so are all
pub short_zeros : (l : List ℕ) (from to : ℕ) → from + 8 ≤ to → to < from + 16 → field_at l from 8
    ≡ 0 → field_at l (to - 8) 8 ≡ 0
    → Zeros l from to
short_zeros l from to low high a b k above below =
    zeros_join l from (from + 8) (to - 8) (to - 8 + 8) (eight_zeros l from a) (omega arith)
    (eight_zeros l (to - 8) b) k above (omega arith)

-- twice eight zeros are sixteen zeros
sixteen_zeros : (l : List ℕ) (at : ℕ) → field_at l at 8 ≡ 0 → field_at l (at + 8) 8 ≡ 0
    → Zeros l at (at + 16)
sixteen_zeros l at a b k low high =
    zeros_join l at (at + 8) (at + 8) (at + 8 + 8) (eight_zeros l at a) (omega arith)
    (eight_zeros l (at + 8) b) k low (omega arith)

-- `blank`: if the number of the first eight bytes is 0, the bytes up to `at` are 0
pub record Blanking (l : List ℕ) (from to first at : ℕ) : Type 0 where
  pub within : at ≤ to
  pub zeros : first ≡ 0 → Zeros l from at

pub blanking_none : {l : List ℕ} {from to first : ℕ} → from + 16 ≤ to
    → (first ≡ 0 → field_at l from 8 ≡ 0)
    → (first ≡ 0 → field_at l (from + 8) 8 ≡ 0) → Blanking l from to first (from + 16)
blanking_none {l} {from} h a b =
    record { within = h; zeros = λ z. sixteen_zeros l from (a z) (b z) }

pub blanking_more : {l : List ℕ} {from to first at : ℕ} → Blanking l from to first at
    → at + 16 < to → (first ≡ 0 → field_at l at 8 ≡ 0)
    → (first ≡ 0 → field_at l (at + 8) 8 ≡ 0) → Blanking l from to first (at + 16)
blanking_more {l} {from} {to} {first} {at} p h a b =
    record {
      within = omega arith;
      zeros = λ z. zeros_join l from at at (at + 16) (p.zeros z) (omega arith)
          (sixteen_zeros l at (a z) (b z));
    }

-- the last sixteen bytes cover what is left
pub blanking_all : {l : List ℕ} {from to first at : ℕ} → Blanking l from to first at → to ≤ at + 16
    → from + 16 ≤ to → first ≡ 0
    → field_at l (to - 16) 8 ≡ 0 → field_at l (to - 8) 8 ≡ 0 → Zeros l from to
blanking_all {l} {from} {to} {first} {at} p h long z a b =
    let e : to - 16 + 8 ≡ to - 8 = omega arith in
    let f : to - 16 + 16 ≡ to = omega arith in
    let last : Zeros l (to - 16) (to - 16 + 16) = sixteen_zeros l (to - 16) a (rw e b) in
    zeros_join l from at (to - 16) to (p.zeros z) (omega arith)
    (λ k low high. last k low (omega arith))
