-- The number in a field. It depends only on the field's bytes (`field_same`), and if they are
-- below 256 it determines them (`same_bytes`). The other laws follow from what is known of the
-- bytes.
use mathlib.Core.Path.{◌≡◌, refl, sym, ap, ap₂, ◌∙◌}
use mathlib.Core.Logic.{◌⊎◌, inl, inr, ⊎_elim}
use Prim.Native.Nat.{ℕ, zero, suc, ◌+◌, ◌-◌, ◌*◌, ◌/◌, ◌%◌, ◌^◌, ◌≤◌, ◌<◌}
use native.Mathlib.Nat.{add-zero, add-suc, zero-add, add_assoc, add-mul, mul_assoc, pow-suc}
use native.Mathlib.Nat.{one-le-pow, mod-one, mod-eq_of_lt, not-suc-le-zero}
use native.Mathlib.Omega.{arith}
use native.Mathlib.Decide.{ℕ_discrete}
use borrow.Author.Count.{below_more}
use mathlib.Core.List.{List, [], ◌∷◌, ◌++◌}
use lib.Bits.{bit_and, and_mask}
use lib.Arith.{digits_lt, digits_div, digits_mod, mod-mul}
use lib.Pow.{pow-add}
use lib.ListN.{length, get_or, set, take, drop, replicate, length-append, length-drop}
use lib.ListN.{get_or-append}
use lib.Seq.{sets, get_or-drop, get_or_at, take-suc}
use Rattle.field.specs.Field.{Bytes, Zeros, field_at, digits, put_field}
use Rattle.field.proofs.Sets.{sets_over, get_d_outside, get_d_inside, sets_append, set_sets}
use Rattle.field.proofs.Sets.{sets_same}

-- ---- the number depends only on the field's bytes

pub field_same : (l m : List ℕ) (at bt w : ℕ)
    → ((k : ℕ) → k < w → get_or l (at + k) 0 ≡ get_or m (bt + k) 0) → field_at l at w
    ≡ field_at m bt w
unfolding field_at
field_same l m at bt zero e = refl
field_same l m at bt (suc w) e =
    ap₂ (λ (n b : ℕ). n * 256 + b) (field_same l m at bt w (λ k h. e k (omega arith)))
    (e w (omega arith))

pub field_bound : (l : List ℕ) (at w : ℕ) → Bytes l → field_at l at w < 256 ^ w
unfolding field_at
field_bound l at zero p = omega arith
field_bound l at (suc w) p = rw (pow-suc 256 w) (digits_lt (field_bound l at w p) (p (at + w)))

-- a field of one byte, and a field with one byte more
pub field_one : (l : List ℕ) (at : ℕ) → field_at l at 1 ≡ get_or l at 0
unfolding field_at
field_one l at = let q : get_or l (at + 0) 0 ≡ get_or l at 0 = rw (add-zero at) in omega arith

pub field_more : (l : List ℕ) (at i : ℕ) {v b : ℕ} → v ≡ field_at l at i → b ≡ get_or l (at + i) 0
    → v * 256 + b ≡ field_at l at (suc i)
unfolding field_at
field_more l at i e f = ap₂ (λ (x y : ℕ). x * 256 + y) e f

-- if a field is 0, each of its bytes is 0
pub field_zero : (l : List ℕ) (at w : ℕ) → field_at l at w ≡ 0 → (k : ℕ) → k < w
    → get_or l (at + k) 0
    ≡ 0
unfolding field_at
field_zero l at zero e k h = absurd (omega arith)
field_zero l at (suc w) e k h = go (ℕ_discrete k w) (field_zero l at w (omega arith) k)
  where
    go : Dec (k ≡ w) → (k < w → get_or l (at + k) 0 ≡ 0) → get_or l (at + k) 0 ≡ 0
    go (yes f) on = rw f (omega arith)
    go (no other) on = on (omega arith)

-- a field is made of its first u bytes and its last w; if they are bytes, the remainder by
-- 256 ^ w is the number in the last w
pub field_join : (l : List ℕ) (at u w : ℕ) → field_at l at (u + w) ≡ field_at l at u * 256 ^ w
    + field_at l (at + u) w
unfolding field_at
field_join l at u zero = rw (add-zero u) (omega arith)
field_join l at u (suc w) =
    let e : (at + u) + w ≡ at + (u + w) = omega arith in
    rw (add-suc u w)
    (ap₂ (λ (x y : ℕ). x * 256 + get_or l y 0) (field_join l at u w) (sym e)
    ∙ last (field_at l at u) (256 ^ w) (field_at l (at + u) w) (get_or l ((at + u) + w) 0)
    ∙ ap (λ (x : ℕ). field_at l at u * x + (field_at l (at + u) w * 256 + get_or l ((at + u) + w)
    0))
    (sym (pow-suc 256 w)))
  where
    last : (a p b c : ℕ) → (a * p + b) * 256 + c ≡ a * (p * 256) + (b * 256 + c)
    last a p b c =
        rw (add-mul (a * p) b 256, mul_assoc a p 256) (add_assoc (a * (p * 256)) (b * 256) c)

pub field_last : (l : List ℕ) (at u w : ℕ) → Bytes l → field_at l at (u + w) % 256 ^ w
    ≡ field_at l (at + u) w
field_last l at u w p =
    rw (field_join l at u w) (digits_mod (field_at l at u) (field_bound l (at + u) w p))

-- 256 ^ w - 1 has all bits of w bytes set
bytes_bits : (w : ℕ) → 256 ^ w ≡ 2 ^ (8 * w)
bytes_bits zero = refl
bytes_bits (suc w) =
    let more : 8 * w + 8 ≡ 8 * suc w = omega arith in
    pow-suc 256 w
    ∙ ap (λ (x : ℕ). x * 256) (bytes_bits w)
    ∙ sym (pow-add 2 (8 * w) 8)
    ∙ ap (λ (x : ℕ). 2 ^ x) more

-- so such a mask leaves the last w of the n bytes that end at `end`
pub field_masked : (l : List ℕ) (end n w mask : ℕ) → Bytes l → w ≤ n → n ≤ end
    → mask + 1 ≡ 256 ^ w → bit_and (field_at l (end - n) n) mask ≡ field_at l (end - w) w
field_masked l end n w mask p h long e =
    let m : mask ≡ 2 ^ (8 * w) - 1 = omega (arith, e ∙ bytes_bits w) in
    let width : (n - w) + w ≡ n = omega arith in
    let from : (end - n) + (n - w) ≡ end - w = omega arith in
    ap (λ (x : ℕ). bit_and (field_at l (end - n) n) x) m
    ∙ and_mask (field_at l (end - n) n) (8 * w)
    ∙ ap₂ (λ (x y : ℕ). field_at l (end - n) x % y) (sym width) (sym (bytes_bits w))
    ∙ field_last l (end - n) (n - w) w p
    ∙ ap (λ (x : ℕ). field_at l x w) from

-- the eight bytes that end at `end` are two halves of four
pub field_halves : (l : List ℕ) (end : ℕ) → 8 ≤ end
    → field_at l (end - 8) 4 * 4294967296 + field_at l (end - 4) 4 ≡ field_at l (end - 8) 8
field_halves l end h =
    let from : end - 4 ≡ (end - 8) + 4 = omega arith in
    ap (λ (x : ℕ). field_at l (end - 8) 4 * 4294967296 + field_at l x 4) from
    ∙ sym (field_join l (end - 8) 4 4)

-- ---- a field of two lists joined, and of zeros

pub field_left : (a b : List ℕ) (at w : ℕ) → at + w ≤ length a → field_at (a ++ b) at w
    ≡ field_at a at w
field_left a b at w h =
    field_same (a ++ b) a at at w (λ k c. get_or-append a b 0 (at + k) (omega arith))

zero_at : (n k : ℕ) → ◌≡◌ {A = ℕ} (get_or (replicate n 0) k 0) 0
zero_at zero k = refl
zero_at (suc n) zero = refl
zero_at (suc n) (suc k) = zero_at n k

pub field_zeros : (n at w : ℕ) → field_at (replicate n 0) at w ≡ 0
unfolding field_at
field_zeros n at zero = refl
field_zeros n at (suc w) = omega (arith, field_zeros n at w, zero_at n (at + w))

-- ---- a field after bytes were written

-- a field inside a range of zeros is 0
pub field_blank : (l : List ℕ) (from to at w : ℕ) → Zeros l from to → from ≤ at → at + w ≤ to
    → field_at l at w ≡ 0
field_blank l from to at w z low high =
    field_same l [] at 0 w (λ k b. z (at + k) (omega arith) (omega arith)) ∙ field_zeros 0 0 w

pub field_outside : (l vs : List ℕ) (at bt u : ℕ) → (bt + u ≤ at) ⊎ (at + length vs ≤ bt)
    → field_at (sets l at vs) bt u ≡ field_at l bt u
field_outside l vs at bt u h =
    field_same (sets l at vs) l bt bt u
    (λ k b. get_d_outside l vs at (bt + k) 0
    (⊎_elim (λ x. inl (omega arith)) (λ x. inr (omega arith)) h))

pub field_inside : (l vs : List ℕ) (at k u : ℕ) → k + u ≤ length vs → at + length vs ≤ length l
    → field_at (sets l at vs) (at + k) u ≡ field_at vs k u
field_inside l vs at k u h f =
    field_same (sets l at vs) vs (at + k) k u
    (λ j b. rw (add_assoc at k j) (get_d_inside l vs at (k + j) 0 (omega arith) f))

-- ---- the bytes of a number

pub length_digits : (w v : ℕ) → length (digits w v) ≡ w
unfolding digits
length_digits zero v = refl
length_digits (suc w) v =
    length-append (digits w (v / 256)) (v % 256 ∷ []) ∙ omega (arith, length_digits w (v / 256))

-- what does not fit the width is lost
pub field_digits : (w v : ℕ) → field_at (digits w v) 0 w ≡ v % 256 ^ w
unfolding field_at digits
field_digits zero v = sym (mod-one v)
field_digits (suc w) v =
    let q : List ℕ = digits w (v / 256) in
    let n : length q ≡ w = length_digits w (v / 256) in
    ap₂ (λ (x b : ℕ). x * 256 + b)
    (field_left q (v % 256 ∷ []) 0 w (omega arith) ∙ field_digits w (v / 256))
    (rw (zero-add w) (get_or_at q (v % 256) [] 0 w n))
    ∙ sym (mod-mul v (one-le-pow w 256 (omega arith)) (omega arith))
    ∙ rw (pow-suc 256 w)

pub digits_field : (l : List ℕ) (at w : ℕ) → Bytes l → at + w ≤ length l
    → digits w (field_at l at w) ≡ take w (drop at l)
unfolding field_at digits
digits_field l at zero p h = refl
digits_field l at (suc w) p h =
    let f : ℕ = field_at l at w in
    rw (
      digits_div f (p (at + w)),
      digits_mod f (p (at + w)),
      digits_field l at w p (omega arith),
      ← get_or-drop at l w 0,
    )
    (sym (take-suc (drop at l) w 0 (simp length-drop (omega arith))))

-- two runs of w bytes that have the same number are the same bytes
pub same_bytes : (l m : List ℕ) (at bt w : ℕ) → Bytes l → Bytes m → field_at l at w
    ≡ field_at m bt w
    → (k : ℕ) → k < w → get_or l (at + k) 0 ≡ get_or m (bt + k) 0
unfolding field_at
same_bytes l m at bt zero p q e k h = absurd (not-suc-le-zero h)
same_bytes l m at bt (suc w) p q e k h =
    let b : get_or l (at + w) 0 < 256 = p (at + w) in
    let c : get_or m (bt + w) 0 < 256 = q (bt + w) in
    below_more (λ (j : ℕ). get_or l (at + j) 0 ≡ get_or m (bt + j) 0) w
    (same_bytes l m at bt w p q (omega arith)) (omega arith) k (omega arith)

pub same_part : (l m : List ℕ) (at bt w : ℕ) → Bytes l → Bytes m → at + w ≤ length l
    → bt + w ≤ length m → field_at l at w ≡ field_at m bt w → take w (drop at l)
    ≡ take w (drop bt m)
same_part l m at bt w p q hl hm e =
    sym (digits_field l at w p hl) ∙ ap (digits w) e ∙ digits_field m bt w q hm

-- ---- a field after a number was written

pub read_written : (l : List ℕ) (at w v : ℕ) → at + w ≤ length l
    → field_at (put_field l at w v) at w
    ≡ v % 256 ^ w
read_written l at w v h =
    let n : length (digits w v) ≡ w = length_digits w v in
    ap (λ (k : ℕ). field_at (put_field l at w v) k w) (sym (add-zero at))
    ∙ field_inside l (digits w v) at 0 w (omega arith) (omega arith)
    ∙ field_digits w v

pub read_written_fits : (l : List ℕ) (at w v : ℕ) → at + w ≤ length l → v < 256 ^ w
    → field_at (put_field l at w v) at w ≡ v
read_written_fits l at w v h b = read_written l at w v h ∙ mod-eq_of_lt b

-- writing back the number that is there changes nothing
pub write_back : (l : List ℕ) (at w : ℕ) → Bytes l → at + w ≤ length l
    → put_field l at w (field_at l at w) ≡ l
write_back l at w p h =
    ap (λ (r : List ℕ). sets l at r) (digits_field l at w p h) ∙ sets_same l at w h

-- nor does it if another number was written in between
pub written_back : (l : List ℕ) (at w v : ℕ) → Bytes l → at + w ≤ length l
    → put_field (put_field l at w v) at w (field_at l at w) ≡ l
written_back l at w v p h =
    sets_over l (digits w v) (digits w (field_at l at w)) at
    (length_digits w v ∙ sym (length_digits w (field_at l at w))) ∙ write_back l at w p h

-- The last byte is stored first. Then the rest of the number is written in the width that is
-- left: this is how a loop from the end writes.
pub put_last : (l : List ℕ) (at w v : ℕ) → put_field l at (suc w) v
    ≡ put_field (set l (at + w) (v % 256)) at w (v / 256)
unfolding digits
put_last l at w v =
    let n : length (digits w (v / 256)) ≡ w = length_digits w (v / 256) in
    sets_append l at (digits w (v / 256)) (v % 256 ∷ [])
    ∙ ap (λ (k : ℕ). set (sets l at (digits w (v / 256))) (at + k) (v % 256)) n
    ∙ sym (set_sets l (digits w (v / 256)) at (at + w) (v % 256) (inr (omega arith)))
