-- The first position of a code among the letters is its letter number, and there is none exactly
-- if the code is not one of the letters.
use mathlib.Core.Path.{◌≡◌, refl}
use Prim.Native.Nat.{ℕ, ◌≤◌, ◌<◌}
use native.Mathlib.Omega.{arith}
use mathlib.Core.List.{List}
use lib.ListN.{length}
use lib.Dec.{ltb}
use mathlib.Core.Bool.{Bool, true, false, cond}
use borrow.Author.Tests.{lt-ltb, le-ltb, ltb-true, ltb-false}
use Rattle.std.proofs.Common.{Some, None}
use Rattle.alphabet.specs.Letters.{letter_of}
use Rattle.alphabet.specs.Judged.{letter_in}

pub letter_found : (cs : List ℕ) (c x : ℕ) → x < length cs → x ≡ letter_of cs c
    → Some x ≡ letter_in cs c
letter_found cs c x h e =
    let k : letter_of cs c < length cs = omega (arith, h, e) in
    rw (e, lt-ltb (letter_of cs c) (length cs) k) refl

pub letter_missed : (cs : List ℕ) (c : ℕ) → length cs ≤ letter_of cs c → None ≡ letter_in cs c
letter_missed cs c h = rw (le-ltb _ _ h) refl

-- so a letter that is found is the letter number, and none means that there is no such letter
pub some_letter : (cs : List ℕ) (c x : ℕ) → Some x ≡ letter_in cs c
    → (x ≡ letter_of cs c) × (x < length cs)
some_letter cs c x e = go (ltb (letter_of cs c) (length cs)) refl e
  where
    go : (t : Bool) → ltb (letter_of cs c) (length cs) ≡ t
        → Some x ≡ cond t (Some (letter_of cs c)) None
        → (x ≡ letter_of cs c) × (x < length cs)
    go true q e =
        let f : x ≡ letter_of cs c = cc in (f, omega (arith, ltb-true _ _ q))
    go false q e = cc

pub no_letter_there : (cs : List ℕ) (c : ℕ) → None ≡ letter_in cs c → length cs ≤ letter_of cs c
no_letter_there cs c e = go (ltb (letter_of cs c) (length cs)) refl e
  where
    go : (t : Bool) → ltb (letter_of cs c) (length cs) ≡ t
        → None ≡ cond t (Some (letter_of cs c)) None → length cs ≤ letter_of cs c
    go true q e = cc
    go false q e = ltb-false _ _ q
