-- Lists of writes, carried out in part or whole. A write changes only the bytes that it goes to,
-- in part or whole, so bytes before all writes stay. Where no two writes go to one byte, each
-- leaves its bytes in the image after the last.
use Prim.Native.Nat.{ℕ, zero, suc, ◌+◌, ◌≤◌, ◌<◌}
use mathlib.Core.Path.{◌≡◌, refl, ap, ap₂, ◌∙◌}
use mathlib.Core.Logic.{◌⊎◌, inl, inr, ⊎_elim}
use mathlib.Core.Bool.{Bool, true, false, cond}
use mathlib.Core.List.{List, [], ◌∷◌, ◌++◌}
use native.Mathlib.Omega.{arith}
use lib.Dec.{leb}
use lib.ListN.{length, get_or, set, take, drop, length-set, length-take, length-drop}
use lib.Seq.{sets, length-sets, ext_get_or, get_or-take, get_or-drop, get_or-set_other}
use borrow.Author.Tests.{lt-leb}
use Rattle.field.proofs.Sets.{get_d_outside, get_d_inside}
use Rattle.head.specs.Fields.{head_of, used_len}
use Rattle.node.specs.Writes.{Write, carried_out, noted}
use Rattle.node.proofs.StoreOnTable.{length_carried}
use Rattle.cuts.specs.Cut.{torn, hit, cut_after}
use Rattle.cuts.specs.Mended.{read_back}

-- ---- the length is kept

length_landed : (b : Bool) (l : List ℕ) (at v : ℕ) → length (cond b (set l at v) l) ≡ length l
length_landed true l at v = length-set l at v
length_landed false l at v = refl

pub length_torn : (lands : ℕ → Bool) (l : List ℕ) (at : ℕ) (bs : List ℕ)
    → length (torn lands l at bs) ≡ length l
unfolding torn
length_torn lands l at [] = refl
length_torn lands l at (b ∷ bs) = length_torn lands (cond (lands at) (set l at b) l) (suc at) bs
    ∙ length_landed (lands at) l at b

length_hit : (lands : ℕ → Bool) (l : List ℕ) (w : Write) → length (hit lands l w) ≡ length l
unfolding hit
length_hit lands l w = go (leb (used_len (head_of l)) w.place)
  where
    go : (b : Bool) → length (cond b (torn lands l w.place w.bytes) l) ≡ length l
    go true = length_torn lands l w.place w.bytes
    go false = refl

pub length_cut : (k : ℕ) (lands : ℕ → Bool) (l : List ℕ) (ws : List Write)
    → length (cut_after k lands l ws) ≡ length l
unfolding cut_after
length_cut k lands l [] = refl
length_cut zero lands l (w ∷ ws) = length_hit lands l w
length_cut (suc k) lands l (w ∷ ws) =
    length_cut k lands (sets l w.place w.bytes) ws ∙ length-sets l w.place w.bytes

-- ---- bytes before all writes stay

-- every write of a list begins at a place or after it
abbrev pub From : ℕ → List Write → Type 0
From at [] = Unit {0}
From at (w ∷ ws) = (at ≤ w.place) × From at ws

pub from_before : (a b : ℕ) (ws : List Write) → a ≤ b → From b ws → From a ws
from_before a b [] h f = tt
from_before a b (w ∷ ws) h f = (omega arith, from_before a b ws h f.1)

module _ (p : ℕ) where
  pub carried_before : (l : List ℕ) (ws : List Write) → From (suc p) ws
      → get_or (carried_out l ws) p 0 ≡ get_or l p 0
  unfolding carried_out
  carried_before l [] f = refl
  carried_before l (w ∷ ws) f =
      carried_before (sets l w.place w.bytes) ws f.1 ∙ get_d_outside l w.bytes
      w.place p 0 (inl f.0)

  landed_before : (b : Bool) (l : List ℕ) (at v : ℕ) → p < at → get_or (cond b (set l at v) l) p 0
      ≡ get_or l p 0
  landed_before true l at v h = get_or-set_other l at p v 0 (omega arith)
  landed_before false l at v h = refl

  pub torn_before : (lands : ℕ → Bool) (l : List ℕ) (at : ℕ) (bs : List ℕ) → p < at
      → get_or (torn lands l at bs) p 0 ≡ get_or l p 0
  unfolding torn
  torn_before lands l at [] h = refl
  torn_before lands l at (b ∷ bs) h =
      torn_before lands (cond (lands at) (set l at b) l) (suc at) bs (omega arith) ∙ landed_before
      (lands at) l at b h

  hit_before : (lands : ℕ → Bool) (l : List ℕ) (w : Write) → p < w.place
      → get_or (hit lands l w) p 0 ≡ get_or l p 0
  unfolding hit
  hit_before lands l w h = go (leb (used_len (head_of l)) w.place)
    where
      go : (b : Bool) → get_or (cond b (torn lands l w.place w.bytes) l) p 0 ≡ get_or l p 0
      go true = torn_before lands l w.place w.bytes h
      go false = refl

  -- a cut among the first writes
  pub cut_before_all : (k : ℕ) (lands : ℕ → Bool) (l : List ℕ) (us ws : List Write)
      → From (suc p) us → k < length us
      → get_or (cut_after k lands l (us ++ ws)) p 0 ≡ get_or l p 0
  unfolding cut_after
  cut_before_all k lands l [] ws f h = absurd (omega arith)
  cut_before_all zero lands l (u ∷ us) ws f h = hit_before lands l u f.0
  cut_before_all (suc k) lands l (u ∷ us) ws f h =
      cut_before_all k lands (sets l u.place u.bytes) us ws f.1 (omega arith)
      ∙ get_d_outside l u.bytes u.place p 0 (inl f.0)

-- ---- a cut after the first writes, and after all

pub cut_append : (j : ℕ) (lands : ℕ → Bool) (l : List ℕ) (us ws : List Write)
    → cut_after (length us + j) lands l (us ++ ws) ≡ cut_after j lands (carried_out l us) ws
unfolding cut_after carried_out
cut_append j lands l [] ws = ap (λ (k : ℕ). cut_after k lands l ws) (omega arith)
cut_append j lands l (u ∷ us) ws =
    let e : suc (length us) + j ≡ suc (length us + j) = omega arith in
    rw e (cut_append j lands (sets l u.place u.bytes) us ws)

pub cut_whole : (k : ℕ) (lands : ℕ → Bool) (l : List ℕ) (ws : List Write) → length ws ≤ k
    → cut_after k lands l ws ≡ carried_out l ws
unfolding cut_after carried_out
cut_whole k lands l [] h = refl
cut_whole zero lands l (w ∷ ws) h = absurd (omega arith)
cut_whole (suc k) lands l (w ∷ ws) h =
    cut_whole k lands (sets l w.place w.bytes) ws (omega arith)

-- a write that does not go to spare bytes does not land where the cut hits it
pub hit_none : (lands : ℕ → Bool) (l : List ℕ) (w : Write) → w.place < used_len (head_of l)
    → hit lands l w ≡ l
unfolding hit
hit_none lands l w h = rw (lt-leb (used_len (head_of l)) w.place h)

-- ---- what each write leaves

-- no write of a list goes to one of the n bytes from a place on
abbrev pub Misses : ℕ → ℕ → List Write → Type 0
Misses at n [] = Unit {0}
Misses at n (w ∷ ws) = ((w.place + length w.bytes ≤ at) ⊎ (at + n ≤ w.place)) × Misses at n ws

-- every write of a list is inside `len` bytes, and no later one goes to its bytes
abbrev pub Laid : ℕ → List Write → Type 0
Laid len [] = Unit {0}
Laid len (w ∷ ws) =
    (w.place + length w.bytes ≤ len) × Misses w.place (length w.bytes) ws × Laid len ws

missed : (l : List ℕ) (ws : List Write) (at n i : ℕ) → Misses at n ws → i < n
    → get_or (carried_out l ws) (at + i) 0 ≡ get_or l (at + i) 0
unfolding carried_out
missed l [] at n i m h = refl
missed l (w ∷ ws) at n i m h =
    missed (sets l w.place w.bytes) ws at n i m.1 h
    ∙ get_d_outside l w.bytes w.place (at + i) 0
    (⊎_elim (λ b. inr (omega arith)) (λ b. inl (omega arith)) m.0)

-- the bytes of the first write are in the image after all writes
first_left_lem : (l : List ℕ) (w : Write) (ws : List Write) → w.place + length w.bytes ≤ length l
    → Misses w.place (length w.bytes) ws
    → take (length w.bytes) (drop w.place (carried_out (sets l w.place w.bytes) ws))
    ≡ w.bytes
first_left_lem l w ws inside m =
    let at : ℕ = w.place in
    let bs : List ℕ = w.bytes in
    let after : List ℕ = carried_out (sets l at bs) ws in
    let long : length after ≡ length l = length_carried (sets l at bs) ws ∙ length-sets l at bs in
    let n : length (take (length bs) (drop at after)) ≡ length bs =
    simp (length-take, length-drop) (omega arith) in
    ext_get_or 0 (take (length bs) (drop at after)) bs n
    (λ i b.
    let c : i < length bs = omega arith in
    get_or-take (length bs) (drop at after) i 0 c
    ∙ get_or-drop at after i 0
    ∙ missed (sets l at bs) ws at (length bs) i m c
    ∙ get_d_inside l bs at i 0 c inside)

pub read_laid : (l : List ℕ) (ws : List Write) → Laid (length l) ws → read_back (carried_out l ws)
    (noted ws) ≡ ws
unfolding read_back carried_out noted
read_laid l [] a = refl
read_laid l (w ∷ ws) a =
    ap₂ ◌∷◌ (ap (λ (bs : List ℕ). record { place = w.place; bytes = bs })
    (first_left_lem l w ws a.0 a.1))
    (read_laid (sets l w.place w.bytes) ws (rw (length-sets l w.place w.bytes) a.2))
