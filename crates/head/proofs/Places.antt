-- Where nodes begin, and how many bytes are used. Each node begins W bytes after the one before
-- it, so all follows from the laws of products. In a permitted head W is at most 1032, so for an
-- address up to 2^32 a node's place is below 2^43.
use mathlib.Core.Path.{◌≡◌, refl}
use Prim.Native.Nat.{ℕ, ◌+◌, ◌*◌, ◌^◌, ◌≤◌, ◌<◌}
use native.Mathlib.Nat.{add-mul, suc-mul, one-le-mul, mul-le-mul, mul-le-mul_right}
use native.Mathlib.Omega.{arith}
use Rattle.head.specs.declared.Head.{Head}
use Rattle.head.specs.Fields.{most_links, most_link_bytes, most_data_bytes, fields_len, node_width}
use Rattle.head.specs.Fields.{node_place, used_len}
use Rattle.head.proofs.Permitted.{Bounds}

-- a piece of w bytes ends before a later one begins
pub row : {p q : ℕ} (w : ℕ) → p < q → p * w + w ≤ q * w
row {p} w h = rw (← suc-mul p w) (mul-le-mul_right w h)

-- ---- the node width

pub width : (h : Head) → node_width h ≡ h.n * h.a + h.d
unfolding node_width
width h = refl

pub width_least : {h : Head} → Bounds h → 1 < node_width h
unfolding node_width
width_least b = omega (arith, one-le-mul b.n_least b.a_least)

pub width_most : {h : Head} → Bounds h
    → node_width h ≤ most_links * most_link_bytes + most_data_bytes
unfolding node_width
width_most b = omega (arith, mul-le-mul b.n_most b.a_most)

-- ---- where a node begins

pub place : (h : Head) (q : ℕ) → node_place h q ≡ fields_len + h.f + q * node_width h
unfolding node_place
place h q = refl

pub place_add : (h : Head) (q k : ℕ) → node_place h (q + k) ≡ node_place h q + k * node_width h
unfolding node_place
place_add h q k = omega (arith, add-mul q k (node_width h))

pub place_le : (h : Head) (p q : ℕ) → p ≤ q → node_place h p ≤ node_place h q
unfolding node_place
place_le h p q b = omega (arith, mul-le-mul_right (node_width h) b)

pub place_least : (h : Head) (q : ℕ) → fields_len + h.f ≤ node_place h q
unfolding node_place
place_least h q = omega arith

pub place_most : {h : Head} (q : ℕ) → Bounds h → q ≤ 2 ^ 32 → node_place h q < 2 ^ 43
unfolding node_place
place_most q b l = omega (arith, mul-le-mul l (width_most b), b.f_most)

-- ---- the used length

pub used : (h : Head) → used_len h ≡ fields_len + h.f + (h.g + 1) * node_width h
unfolding used_len
used h = refl

-- the nodes up to G end within the used length
pub used_le : (h : Head) (q : ℕ) → q ≤ h.g + 1 → node_place h q ≤ used_len h
unfolding used_len
used_le h q b = place_le h q (h.g + 1) b
