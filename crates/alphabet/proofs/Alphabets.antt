-- The characters of an alphabet, and the letter number of each. The number is the first position
-- of the character. It is below the alphabet's length exactly if the character is in the alphabet.
use mathlib.Core.Path.{◌≡◌, refl, sym, ◌∙◌}
use mathlib.Core.Bool.{Bool, true, false, not, ◌&&◌, ◌||◌, and-false, or_assoc, or-false}
use Prim.Native.Nat.{ℕ, suc, ◌+◌, ◌≤◌}
use native.Mathlib.Omega.{arith}
use mathlib.Core.List.{List, [], ◌∷◌, ◌++◌}
use mathlib.Core.Option.{Option, none, some}
use Rattle.field.proofs.Range.{both}
use Rattle.utf8.specs.Text.{chars, chars_from}
use lib.Dec.{eqb, ltb, leb-suc-suc}
use lib.ListN.{length}
use borrow.Author.Tests.{eq-eqb, ne_eqb, eqb-true, eqb-false, lt-ltb}
use Rattle.alphabet.specs.Letters.{among, all_different, is_alphabet, good_alphabet, or_empty}
use Rattle.alphabet.specs.Letters.{letters, letter_of}

-- ---- among

pub eqb_sym : (a b : ℕ) → eqb a b ≡ eqb b a
eqb_sym a b = go (eqb a b) refl
  where
    go : (t : Bool) → eqb a b ≡ t → eqb a b ≡ eqb b a
    go true e = e ∙ sym (eq-eqb b a (sym (eqb-true a b e)))
    go false e = e ∙ sym (ne_eqb b a (λ q. eqb-false a b e (sym q)))

pub among_append : (c : ℕ) (cs ds : List ℕ) → among c (cs ++ ds) ≡ (among c cs || among c ds)
unfolding among
among_append c [] ds = refl
among_append c (x ∷ cs) ds =
    rw (among_append c cs ds) (sym (or_assoc (eqb c x) (among c cs) (among c ds)))

pub among_snoc : (c : ℕ) (cs : List ℕ) (d : ℕ) → among c (cs ++ (d ∷ [])) ≡ (among c cs || eqb c d)
unfolding among
among_snoc c cs d = among_append c cs (d ∷ []) ∙ rw (or-false (eqb c d))

-- the same tests, grouped by the first character x and by the last character c
regroup : (a e x m : Bool) → (not (a || e) && (x && not m)) ≡ ((not a && x) && not (e || m))
regroup true e x m = refl
regroup false true true m = refl
regroup false true false m = refl
regroup false false x m = refl

pub different_snoc : (cs : List ℕ) (c : ℕ) → all_different (cs ++ (c ∷ []))
    ≡ (all_different cs && not (among c cs))
unfolding all_different
different_snoc [] c = refl
different_snoc (x ∷ cs) c =
    rw (among_snoc x cs c, different_snoc cs c, eqb_sym x c)
    (regroup (among x cs) (eqb c x) (all_different cs) (among c cs))

pub repeated_append : (cs ds : List ℕ) → all_different cs ≡ false → all_different (cs ++ ds)
    ≡ false
unfolding all_different
repeated_append [] ds e = cc
repeated_append (x ∷ cs) ds e = go (among x cs) refl (repeated_append cs ds)
  where
    go : (t : Bool) → among x cs ≡ t
        → (all_different cs ≡ false → all_different (cs ++ ds) ≡ false)
        → all_different (x ∷ (cs ++ ds)) ≡ false
    go true h next = rw (among_append x cs ds, h)
    go false h next = rw (next (rw h at e)) (and-false (not (among x (cs ++ ds))))

-- ---- the letter number

pub letter_most : (cs : List ℕ) (c : ℕ) → letter_of cs c ≤ length cs
unfolding letter_of
letter_most [] c = omega arith
letter_most (d ∷ cs) c = go (eqb c d) refl (letter_most cs c)
  where
    go : (t : Bool) → eqb c d ≡ t → letter_of cs c ≤ length cs → letter_of (d ∷ cs) c
        ≤ suc (length cs)
    go true e h = rw e (omega arith)
    go false e h = rw e (omega arith)

pub letter_below : (cs : List ℕ) (c : ℕ) → ltb (letter_of cs c) (length cs) ≡ among c cs
unfolding letter_of among
letter_below [] c = refl
letter_below (d ∷ cs) c = go (eqb c d) refl (letter_below cs c)
  where
    go : (t : Bool) → eqb c d ≡ t → ltb (letter_of cs c) (length cs) ≡ among c cs
        → ltb (letter_of (d ∷ cs) c) (suc (length cs)) ≡ among c (d ∷ cs)
    go true e h = rw e (lt-ltb 0 (suc (length cs)) (omega arith))
    go false e h = rw e (leb-suc-suc (suc (letter_of cs c)) (length cs) ∙ h)

pub letter_here : (c : ℕ) (cs : List ℕ) → letter_of (c ∷ cs) c ≡ 0
unfolding letter_of
letter_here c cs = rw (eq-eqb c c refl)

-- if a character is not among the first ones, its number counts on after them
pub letter_after : (cs ds : List ℕ) (c : ℕ) → among c cs ≡ false → letter_of (cs ++ ds) c
    ≡ length cs + letter_of ds c
unfolding letter_of among
letter_after [] ds c e = omega arith
letter_after (d ∷ cs) ds c e = go (eqb c d) refl (letter_after cs ds c)
  where
    go : (t : Bool) → eqb c d ≡ t
        → (among c cs ≡ false → letter_of (cs ++ ds) c ≡ length cs + letter_of ds c)
        → letter_of (d ∷ (cs ++ ds)) c ≡ suc (length cs) + letter_of ds c
    go true q next =
        let f : true ≡ false = rw q at e in let z : ◌≡◌ {A = ℕ} 0 1 = cc in omega arith
    go false q next = rw q (omega (arith, next (rw q at e)))

-- ---- a good alphabet

good_in : (n : ℕ) (o : Option (List ℕ)) → is_alphabet n o ≡ true → length (or_empty o) ≡ n
unfolding is_alphabet or_empty
good_in n none e = let z : ◌≡◌ {A = ℕ} 0 1 = cc in omega arith
good_in n (some cs) e = eqb-true (length cs) n (both (eqb (length cs) n) (all_different cs) e).0

pub good_length : (n : ℕ) (bytes : List ℕ) → good_alphabet n bytes ≡ true → length (letters bytes)
    ≡ n
unfolding good_alphabet letters
good_length n bytes e = good_in n (chars bytes) e

-- an alphabet of no bytes has no letters
pub no_letters : (bytes : List ℕ) → length bytes ≡ 0 → letters bytes ≡ []
unfolding letters or_empty chars chars_from
no_letters [] e = refl
no_letters (b ∷ bs) e = absurd (omega arith)
