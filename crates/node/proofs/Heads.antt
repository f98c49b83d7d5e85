-- The tables that two heads give for one image. A table depends only on the head's G, N, A, D
-- and F. If G is greater there are more nodes, and the old nodes stay the same.
use mathlib.Core.Path.{◌≡◌, ap, ◌∙◌}
use Prim.Native.Nat.{ℕ, suc, ◌+◌, ◌*◌, ◌≤◌}
use native.Mathlib.Numerals.{add-one}
use native.Mathlib.Omega.{arith}
use borrow.Author.Tests.{le-leb}
use mathlib.Core.List.{List}
use Rattle.head.specs.declared.Head.{Head}
use Rattle.head.specs.Fields.{node_width, node_place, used_len}
use Rattle.head.proofs.Places.{place_add}
use Rattle.node.specs.Image.{table_of}

-- the head with another G
abbrev pub with_total : Head → ℕ → Head
with_total h g =
    record { g = g; n = h.n; a = h.a; d = h.d; f = h.f; min = h.min; max = h.max }

module _ (h : Head) (l : List ℕ) (g q : ℕ) (b : q ≤ h.g) (c : q ≤ g) where
  pub child_kept : (i : ℕ) → (table_of (with_total h g) l).child q i ≡ (table_of h l).child q i
  unfolding table_of
  child_kept i = rw (le-leb q h.g b, le-leb q g c)

  pub value_kept : (table_of (with_total h g) l).value q ≡ (table_of h l).value q
  unfolding table_of
  value_kept = rw (le-leb q h.g b, le-leb q g c)

pub used_total : (h : Head) (g : ℕ) → used_len (with_total h g) ≡ node_place h (suc g)
unfolding used_len
used_total h g = ap (node_place h) (add-one g)

-- U + k*W
pub used_more : (h : Head) (k : ℕ) → used_len (with_total h (h.g + k))
    ≡ used_len h + k * node_width h
unfolding used_len
used_more h k =
    let e : h.g + k + 1 ≡ h.g + 1 + k = omega arith in
    ap (node_place h) e ∙ place_add h (h.g + 1) k
