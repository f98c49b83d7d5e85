-- Which lists are lists of bytes. After a list's end `get_or` answers 0, which is a byte, so no
-- law needs a place within the list.
use mathlib.Core.Bool.{Bool, true, ◌&&◌}
use Prim.Native.Nat.{ℕ, zero, suc, ◌<◌}
use native.Mathlib.Omega.{arith}
use mathlib.Core.List.{List, [], ◌∷◌}
use lib.Dec.{T, ltb, ltb→lt}
use lib.ListN.{take, drop}
use lib.Seq.{get_or-drop}
use mir.Facts.{and_yes}
use Rattle.field.specs.Field.{Bytes}

pub bytes_nil : Bytes []
bytes_nil k = omega arith

pub bytes_cons : (b : ℕ) (l : List ℕ) → b < 256 → Bytes l → Bytes (b ∷ l)
bytes_cons b l h p zero = h
bytes_cons b l h p (suc k) = p k

pub bytes_take : (n : ℕ) (l : List ℕ) → Bytes l → Bytes (take n l)
bytes_take zero l p = bytes_nil
bytes_take (suc n) [] p = bytes_nil
bytes_take (suc n) (x ∷ l) p = bytes_cons x (take n l) (p 0) (bytes_take n l (λ k. p (suc k)))

pub bytes_drop : (n : ℕ) (l : List ℕ) → Bytes l → Bytes (drop n l)
bytes_drop n l p k = rw get_or-drop (p _)

-- for a list that is written out: the test computes, so that `bytes l tt` is the proof
abbrev pub all_bytes : List ℕ → Bool
all_bytes [] = true
all_bytes (b ∷ l) = ltb b 256 && all_bytes l

pub bytes : (l : List ℕ) → T (all_bytes l) → Bytes l
bytes [] t = bytes_nil
bytes (b ∷ l) t =
    let h : T (ltb b 256) × T (all_bytes l) = and_yes (ltb b 256) (all_bytes l) t in
    bytes_cons b l (ltb→lt b 256 h.0) (bytes l h.1)
