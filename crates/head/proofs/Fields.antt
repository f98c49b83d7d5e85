-- The seven fields among an image's bytes. They depend only on the first 28 bytes (`head_same`),
-- so a write elsewhere leaves them. A number that fits its field is read as it was written.
use mathlib.Core.Path.{◌≡◌, refl, sym, ap, ◌∙◌}
use mathlib.Core.Logic.{inl, inr}
use Prim.Native.Nat.{ℕ, ◌+◌, ◌^◌, ◌≤◌, ◌<◌}
use native.Mathlib.Nat.{zero-add, mod-eq_of_lt}
use native.Mathlib.Omega.{arith}
use mathlib.Core.List.{List, ◌++◌}
use lib.ListN.{length, get_or}
use lib.Seq.{sets, length-sets}
use Rattle.field.specs.Field.{Bytes, field_at, digits, put_field}
use Rattle.field.proofs.Sets.{get_d_outside, get_d_inside, sets_append}
use Rattle.field.proofs.Field.{field_same, field_outside, field_digits, length_digits}
use Rattle.field.proofs.Field.{read_written_fits, written_back}
use Rattle.head.specs.declared.Head.{Head}
use Rattle.head.specs.Fields.{head_of, head_bytes, fields_len, total_at, total_len, put_total}
use Rattle.head.proofs.Permitted.{Bounds}

-- heads with equal fields are equal
pub head_eq : (h k : Head) → h.g ≡ k.g → h.n ≡ k.n → h.a ≡ k.a → h.d ≡ k.d → h.f ≡ k.f
    → h.min ≡ k.min → h.max ≡ k.max → h ≡ k
head_eq h k g n a d f least most i =
    record { g = g i; n = n i; a = a i; d = d i; f = f i; min = least i; max = most i }

-- every field fits its four bytes
pub record Fit (h : Head) : Type 0 where
  pub g_fits : h.g < 2 ^ 32
  pub n_fits : h.n < 2 ^ 32
  pub a_fits : h.a < 2 ^ 32
  pub d_fits : h.d < 2 ^ 32
  pub f_fits : h.f < 2 ^ 32
  pub min_fits : h.min < 2 ^ 32
  pub max_fits : h.max < 2 ^ 32

pub fit_bounds : {h : Head} → Bounds h → h.g < 2 ^ 32 → Fit h
fit_bounds b g = omega arith

-- ---- the head depends only on the first 28 bytes

pub head_same : (l m : List ℕ) → ((k : ℕ) → k < fields_len → get_or l k 0 ≡ get_or m k 0)
    → head_of l ≡ head_of m
unfolding head_of
head_same l m e =
    let same : (at : ℕ) → at + 4 ≤ fields_len → field_at l at 4 ≡ field_at m at 4 =
    λ at b. field_same l m at at 4 (λ k c. e (at + k) (omega arith)) in
    head_eq (head_of l) (head_of m)
    (same 0 (omega arith)) (same 4 (omega arith)) (same 8 (omega arith)) (same 12 (omega arith))
    (same 16 (omega arith)) (same 20 (omega arith)) (same 24 (omega arith))

pub head_outside : (l vs : List ℕ) (at : ℕ) → fields_len ≤ at → head_of (sets l at vs) ≡ head_of l
head_outside l vs at h =
    head_same (sets l at vs) l (λ k b. get_d_outside l vs at k 0 (inl (omega arith)))

-- ---- after a head was written

pub length_head : (h : Head) → length (head_bytes h) ≡ fields_len
unfolding head_bytes
length_head h = refl

pub head_read : (h : Head) → Fit h → head_of (head_bytes h) ≡ h
unfolding head_of head_bytes
head_read h b =
    let back : (v : ℕ) → v < 2 ^ 32 → field_at (digits 4 v) 0 4 ≡ v =
    λ v c. field_digits 4 v ∙ mod-eq_of_lt c in
    head_eq (head_of (head_bytes h)) h
    (back h.g b.g_fits)
    (back h.n b.n_fits)
    (back h.a b.a_fits)
    (back h.d b.d_fits)
    (back h.f b.f_fits)
    (back h.min b.min_fits)
    (back h.max b.max_fits)

pub head_written : (l : List ℕ) (h : Head) → Fit h → fields_len ≤ length l
    → head_of (sets l 0 (head_bytes h)) ≡ h
head_written l h b e =
    let n : length (head_bytes h) ≡ fields_len = length_head h in
    head_same (sets l 0 (head_bytes h)) (head_bytes h)
    (λ k c. ap (λ (j : ℕ). get_or (sets l 0 (head_bytes h)) j 0) (sym (zero-add k))
    ∙ get_d_inside l
    (head_bytes h) 0 k 0 (omega arith) (omega arith))
    ∙ head_read h b

-- a list that begins with a head, written at the front
pub head_begun : (l : List ℕ) (h : Head) (rest : List ℕ) → Fit h → fields_len ≤ length l
    → head_of (sets l 0 (head_bytes h ++ rest)) ≡ h
head_begun l h rest b e =
    ap head_of (sets_append l 0 (head_bytes h) rest)
    ∙ head_outside (sets l 0 (head_bytes h)) rest (0 + length (head_bytes h))
    (omega (arith, length_head h))
    ∙ head_written l h b e

-- ---- after G was set

pub length_total : (l : List ℕ) (g : ℕ) → length (put_total l g) ≡ length l
length_total l g = length-sets l total_at (digits total_len g)

-- no byte outside G changes
pub total_outside : (l : List ℕ) (g p : ℕ) → total_at + total_len ≤ p → get_or (put_total l g) p 0
    ≡ get_or l p 0
total_outside l g p b =
    get_d_outside l (digits total_len g) total_at p 0
    (inr (omega (arith, length_digits total_len g)))

-- the head has that G, and its other fields are as before
pub head_total : (l : List ℕ) (g : ℕ) → total_at + total_len ≤ length l → g < 2 ^ 32
    → head_of (put_total l g)
    ≡ record {
      g = g;
      n = (head_of l).n;
      a = (head_of l).a;
      d = (head_of l).d;
      f = (head_of l).f;
      min = (head_of l).min;
      max = (head_of l).max;
    }
unfolding head_of
head_total l g e b =
    let kept : (at : ℕ) → total_at + total_len ≤ at → field_at (put_total l g) at 4
    ≡ field_at l at 4 =
    λ at c. field_outside l (digits total_len g) total_at at 4
    (inr (omega (arith, length_digits total_len g))) in
    head_eq (head_of (put_total l g)) _
    (read_written_fits l total_at total_len g e b)
    (kept 4 (omega arith)) (kept 8 (omega arith)) (kept 12 (omega arith))
    (kept 16 (omega arith)) (kept 20 (omega arith)) (kept 24 (omega arith))

-- setting the old G again gives back the old image
pub total_back : (l : List ℕ) (g : ℕ) → Bytes l → total_at + total_len ≤ length l
    → put_total (put_total l g) (head_of l).g ≡ l
unfolding head_of
total_back l g p e = written_back l total_at total_len g p e

-- the fields, written one after the other, are the bytes of the head
pub head_writes : (l : List ℕ) (h : Head) {s t u v w x y : List ℕ}
    → s ≡ put_field l 0 4 h.g → t ≡ put_field s 4 4 h.n → u ≡ put_field t 8 4 h.a
    → v ≡ put_field u 12 4 h.d
    → w ≡ put_field v 16 4 h.f → x ≡ put_field w 20 4 h.min → y ≡ put_field x 24 4 h.max
    → y ≡ sets l 0 (head_bytes h)
unfolding head_bytes
head_writes l h g n a d f least most = rw (most, least, f, d, a, n, g)
