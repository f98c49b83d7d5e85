-- Where links and data are. A link has A bytes and the N links of a node come before its data,
-- so each of these fields is inside its node. Nodes do not overlap, and neither do the fields of
-- one node.
use mathlib.Core.Path.{◌≡◌}
use mathlib.Core.Logic.{◌⊎◌, inl, inr, ◌≢◌}
use Prim.Native.Nat.{ℕ, ◌+◌, ◌*◌, ◌≤◌, ◌<◌}
use native.Mathlib.Nat.{le_trans, mul-le-mul}
use native.Mathlib.Decide.{ℕ_discrete, dec_lt}
use native.Mathlib.Omega.{arith}
use mathlib.Core.List.{List}
use lib.ListN.{length}
use Rattle.head.specs.declared.Head.{Head}
use Rattle.head.specs.Fields.{most_links, most_link_bytes, fields_len, node_place, used_len}
use Rattle.head.proofs.Permitted.{Bounds}
use Rattle.head.proofs.Places.{row, place_add, place_le, place_least, used_le}
use Rattle.node.specs.Image.{Open, link_place, data_place}

-- ---- inside a node

pub link_from : (h : Head) (q i : ℕ) → node_place h q ≤ link_place h q i
unfolding link_place
link_from h q i = omega arith

-- a link ends before a later one begins
pub link_row : (h : Head) (q : ℕ) {i j : ℕ} → i < j → link_place h q i + h.a ≤ link_place h q j
unfolding link_place
link_row h q b = omega (arith, row h.a b)

-- the last link ends before the data, which begins where one more link would
pub link_to : (h : Head) (q : ℕ) {i : ℕ} → i < h.n → link_place h q i + h.a ≤ data_place h q
unfolding link_place data_place
link_to h q b = link_row h q b

pub data_from : (h : Head) (q : ℕ) → node_place h q ≤ data_place h q
unfolding data_place
data_from h q = omega arith

pub data_to : (h : Head) (q : ℕ) → data_place h q + h.d ≡ node_place h (q + 1)
unfolding data_place
data_to h q = omega (arith, place_add h q 1)

-- the field of w bytes at `at` is inside node q
pub record Inside (h : Head) (q at w : ℕ) : Type 0 where
  pub from : node_place h q ≤ at
  pub to : at + w ≤ node_place h (q + 1)

pub link_inside : (h : Head) (q : ℕ) {i : ℕ} → i < h.n → Inside h q (link_place h q i) h.a
link_inside h q {i} b = omega (arith, link_from h q i, link_to h q b, data_to h q)

pub data_inside : (h : Head) (q : ℕ) → Inside h q (data_place h q) h.d
data_inside h q = omega (arith, data_from h q, data_to h q)

-- and so between the alphabet and the end of the used length
pub inside_least : {h : Head} {q at w : ℕ} → Inside h q at w → fields_len + h.f ≤ at
inside_least {h} {q} s = omega (arith, place_least h q)

pub inside_used : {h : Head} {q at w : ℕ} → Inside h q at w → q ≤ h.g → at + w ≤ used_len h
inside_used {h} {q} s b = omega (arith, used_le h (q + 1) (omega arith))

-- and so inside an image that is open
pub inside_room : {h : Head} {q at w : ℕ} {l : List ℕ} → Inside h q at w → Open h l → q ≤ h.g
    → at + w ≤ length l
inside_room s o b = omega (arith, inside_used s b)

-- the most bytes that i links of a node take
pub links_most : {h : Head} {i : ℕ} → Bounds h → i ≤ h.n → i * h.a ≤ most_links * most_link_bytes
links_most b l = let m = b.n_most in omega (arith, mul-le-mul (le_trans l m) b.a_most)

-- ---- no two overlap

-- two fields, of w and of u bytes, have no byte in common
abbrev pub Apart : ℕ → ℕ → ℕ → ℕ → Type 0
Apart at w bt u = (bt + u ≤ at) ⊎ (at + w ≤ bt)

pub inside_apart : {h : Head} {q p at w bt u : ℕ} → Inside h q at w → Inside h p bt u → p ≢ q
    → Apart at w bt u
inside_apart {h} {q} {p} {at} {w} {bt} {u} s t d = go (dec_lt p q)
  where
    go : Dec (p < q) → Apart at w bt u
    go (yes b) = inl (omega (arith, place_le h (p + 1) q (omega arith)))
    go (no b) = inr (omega (arith, place_le h (q + 1) p (omega arith)))

-- a link and another link
pub links_apart : (h : Head) (q i p j : ℕ) → i < h.n → j < h.n → ¬ ((p ≡ q) × (j ≡ i))
    → Apart (link_place h q i) h.a (link_place h p j) h.a
links_apart h q i p j b c d = go (ℕ_discrete p q) (dec_lt j i)
  where
    go : Dec (p ≡ q) → Dec (j < i) → Apart (link_place h q i) h.a (link_place h p j) h.a
    go (no e) f = inside_apart (link_inside h q b) (link_inside h p c) e
    go (yes e) (yes f) = rw e (inl (link_row h q f))
    go (yes e) (no f) = let o : j ≢ i = λ x. d (e, x) in rw e (inr (link_row h q (omega arith)))

-- a link and any node's data
pub link_data_apart : (h : Head) (q i p : ℕ) → i < h.n → Apart (link_place h q i) h.a
    (data_place h p) h.d
link_data_apart h q i p b = go (ℕ_discrete p q)
  where
    go : Dec (p ≡ q) → Apart (link_place h q i) h.a (data_place h p) h.d
    go (no e) = inside_apart (link_inside h q b) (data_inside h p) e
    go (yes e) = rw e (inr (link_to h q b))

-- the data of two nodes
pub data_apart : (h : Head) (q p : ℕ) → p ≢ q → Apart (data_place h q) h.d (data_place h p) h.d
data_apart h q p d = inside_apart (data_inside h q) (data_inside h p) d
