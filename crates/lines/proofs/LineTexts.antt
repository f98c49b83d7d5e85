-- The texts of keys and lines. A key with one more letter has one more dot and that letter. A
-- letter takes at most three digits and a dot, a number at most twenty digits. So each line fits
-- the room that its function requires.
use mathlib.Core.Path.{◌≡◌, refl, sym, ap, ◌∙◌}
use Prim.Native.Nat.{ℕ, suc, ◌+◌, ◌*◌, ◌≤◌, ◌<◌}
use native.Mathlib.Nat.{not-suc-le-zero}
use native.Mathlib.Omega.{arith}
use mathlib.Core.List.{List, [], ◌∷◌, ◌++◌, append_assoc, append-nil}
use lib.ListN.{length, get_or, drop, length-append}
use Rattle.field.specs.Field.{Bytes}
use Rattle.lines.specs.Lines.{decimal, dotted, key_text, entry_line, entries_line, refused_line}
use Rattle.lines.specs.Lines.{entry_room, entries_room, refused_room, TextAt}
use Rattle.lines.proofs.Digits.{decimal_long, letter_long}

-- ---- a key is its first letter and the others, each after a dot

pub dotted_more : (k : List ℕ) (x : ℕ) → dotted (k ++ (x ∷ [])) ≡ dotted k ++ (46 ∷ decimal x)
unfolding dotted
dotted_more [] x = ap (λ (d : List ℕ). 46 ∷ d) (append-nil (decimal x))
dotted_more (y ∷ k) x =
    ap (λ (d : List ℕ). 46 ∷ (decimal y ++ d)) (dotted_more k x)
    ∙ ap (λ (d : List ℕ). 46 ∷ d) (sym (append_assoc (decimal y) (dotted k) (46 ∷ decimal x)))

pub key_none : (k : List ℕ) → length k ≡ 0 → 45 ∷ [] ≡ key_text k
unfolding key_text
key_none [] e = refl
key_none (x ∷ k) e = absurd (omega arith)

pub key_parts : (k : List ℕ) → 0 < length k → key_text k
    ≡ decimal (get_or k 0 0) ++ dotted (drop 1 k)
unfolding key_text
key_parts [] h = absurd (not-suc-le-zero h)
key_parts (x ∷ k) h = refl

-- ---- how long they are, and where a number ends

pub decimal_end : (v : ℕ) {l : List ℕ} {at end : ℕ} {m : List ℕ} → TextAt l at (decimal v) end m
    → end ≤ at + 20
decimal_end v p = omega (arith, p.ends, decimal_long v)

pub dotted_long : (k : List ℕ) → Bytes k → length (dotted k) ≤ length k * 4
unfolding dotted
dotted_long [] b = omega arith
dotted_long (x ∷ k) b =
    omega (
      arith,
      length-append (decimal x) (dotted k),
      letter_long x (b 0),
      dotted_long k
          (λ j. b (suc j)),
    )

pub key_long : (k : List ℕ) → Bytes k → length (key_text k) ≤ length k * 4 + 1
unfolding key_text dotted
key_long [] b = omega arith
key_long (x ∷ k) b = omega (arith, dotted_long (x ∷ k) b)

pub entry_long : (k : List ℕ) (v : ℕ) → Bytes k → length (entry_line k v) ≤ entry_room (length k)
unfolding entry_line
entry_long k v b =
    omega (
      arith,
      length-append (key_text k) (32 ∷ (decimal v ++ (10 ∷ []))),
      length-append (decimal v) (10 ∷ []),
      key_long k b,
      decimal_long v,
    )

-- whatever the letters are: a number has at most twenty digits
letters_any : (k : List ℕ) → length (dotted k) ≤ length k * 21
unfolding dotted
letters_any [] = omega arith
letters_any (x ∷ k) =
    omega (arith, length-append (decimal x) (dotted k), decimal_long x, letters_any k)

key_any : (k : List ℕ) → length (key_text k) ≤ length k * 21 + 1
unfolding key_text dotted
key_any [] = omega arith
key_any (x ∷ k) = omega (arith, letters_any (x ∷ k))

pub entry_any : (k : List ℕ) (v : ℕ) → length (entry_line k v) ≤ length k * 21 + 23
unfolding entry_line
entry_any k v =
    omega (
      arith,
      length-append (key_text k) (32 ∷ (decimal v ++ (10 ∷ []))),
      length-append (decimal v) (10 ∷ []),
      key_any k,
      decimal_long v,
    )

pub entries_long : (n : ℕ) → length (entries_line n) ≤ entries_room
unfolding entries_line
entries_long n = omega (arith, length-append (decimal n) (10 ∷ []), decimal_long n)

pub refused_long : (n place : ℕ) → length (refused_line n place) ≤ refused_room
unfolding refused_line
refused_long n place =
    let rest : List ℕ = decimal place ++ (10 ∷ []) in
    omega (
      arith,
      length-append (decimal n) (32 ∷ 97 ∷ 116 ∷ 32 ∷ rest),
      length-append (decimal place) (10 ∷ []),
      decimal_long n,
      decimal_long place,
    )
