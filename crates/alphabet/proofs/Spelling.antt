-- The key that a text names, letter by letter. If a character is outside the alphabet or not
-- well-formed, the text names no key, whatever follows.
use mathlib.Core.Path.{◌≡◌, refl, ap, ◌∙◌}
use mathlib.Core.Logic.{◌≢◌}
use mathlib.Core.Bool.{Bool, true, false, cond}
use mathlib.Core.Option.{Option, none, some}
use Prim.Native.Nat.{ℕ, ◌+◌, ◌≤◌, ◌<◌}
use mathlib.Core.List.{List, [], ◌∷◌, ◌++◌}
use lib.Dec.{ltb}
use lib.ListN.{length}
use borrow.Author.Tests.{lt-ltb, le-ltb}
use Rattle.utf8.specs.Table37.{char_len}
use Rattle.utf8.specs.Text.{char_at}
use Rattle.utf8.proofs.Texts.{prepend, chars_at, Passed, passed_none, passed_more, passed_all}
use Rattle.utf8.proofs.Texts.{passed_ill}
use Rattle.alphabet.specs.Letters.{letter_of, with_letter, letters_of_chars, key_of_chars}
use Rattle.alphabet.specs.Letters.{key_of_text}

-- ---- the letters of characters

-- a letter number after the others, `none` if it is not one of the alphabet's n letters
abbrev pub then_letter : ℕ → Option (List ℕ) → ℕ → Option (List ℕ)
then_letter n none x = none
then_letter n (some xs) x = cond (ltb x n) (some (xs ++ (x ∷ []))) none

-- one letter put before and one after, in either order
swap : (n y : ℕ) (o : Option (List ℕ)) (x : ℕ) → with_letter n y (then_letter n o x)
    ≡ then_letter n
    (with_letter n y o) x
unfolding with_letter
swap n y none x = refl
swap n y (some xs) x = go (ltb x n) refl (ltb y n) refl
  where
    go : (a : Bool) → ltb x n ≡ a → (b : Bool) → ltb y n ≡ b
        → with_letter n y (then_letter n (some xs) x) ≡ then_letter n (with_letter n y (some xs)) x
    go true p true q = rw (p, q, p)
    go true p false q = rw (p, q)
    go false p true q = rw (p, q, p)
    go false p false q = rw (p, q)

pub letters_snoc : (alphabet cs : List ℕ) (c : ℕ) → letters_of_chars alphabet (cs ++ (c ∷ []))
    ≡ then_letter (length alphabet) (letters_of_chars alphabet cs) (letter_of alphabet c)
unfolding letters_of_chars
letters_snoc alphabet [] c = refl
letters_snoc alphabet (d ∷ cs) c =
    rw (letters_snoc alphabet cs c)
    (swap (length alphabet) (letter_of alphabet d) (letters_of_chars alphabet cs)
    (letter_of alphabet c))

with_outside : (n x : ℕ) (o : Option (List ℕ)) → ltb x n ≡ false → with_letter n x o ≡ none
unfolding with_letter
with_outside n x none e = refl
with_outside n x (some xs) e = rw e

pub letters_outside : (alphabet cs ds : List ℕ) → letters_of_chars alphabet cs ≡ none
    → letters_of_chars alphabet (cs ++ ds) ≡ none
unfolding letters_of_chars
letters_outside alphabet [] ds e = cc
letters_outside alphabet (c ∷ cs) ds e =
    go (letters_of_chars alphabet cs) refl (ltb (letter_of alphabet c) (length alphabet)) refl
    (letters_outside alphabet cs ds)
  where
    go : (o : Option (List ℕ)) → letters_of_chars alphabet cs ≡ o → (t : Bool)
        → ltb (letter_of alphabet c) (length alphabet) ≡ t
        → (letters_of_chars alphabet cs ≡ none → letters_of_chars alphabet (cs ++ ds) ≡ none)
        → with_letter (length alphabet) (letter_of alphabet c)
        (letters_of_chars alphabet (cs ++ ds))
        ≡ none
    go none h t q next = rw (next h)
    go (some xs) h false q next =
        with_outside (length alphabet) (letter_of alphabet c)
        (letters_of_chars alphabet (cs ++ ds)) q
    go (some xs) h true q next =
        let f : some (letter_of alphabet c ∷ xs) ≡ none = rw (h, q) at e in cc

key_outside : (alphabet cs : List ℕ) (rest : Option (List ℕ)) → letters_of_chars alphabet cs ≡ none
    → key_of_chars alphabet (prepend cs rest) ≡ none
unfolding key_of_chars
key_outside alphabet cs none e = refl
key_outside alphabet cs (some ds) e = letters_outside alphabet cs ds e

-- ---- a loop over a text: xs are the letters of the characters before `at`

pub record Spelling (alphabet text xs : List ℕ) (at : ℕ) : Type 0 where
  pub characters : List ℕ
  pub passed : Passed text characters at
  pub spelled : letters_of_chars alphabet characters ≡ some xs

pub spelling_none : (alphabet text : List ℕ) → Spelling alphabet text [] 0
unfolding letters_of_chars
spelling_none alphabet text = record { characters = []; passed = passed_none text; spelled = refl }

-- one more well-formed character, in the alphabet or not
after : {alphabet text xs : List ℕ} {at : ℕ} (p : Spelling alphabet text xs at) → char_len text at
    ≢ 0
    → (Passed text (p.characters ++ (char_at text at ∷ [])) (at + char_len text at))
    × (letters_of_chars alphabet (p.characters ++ (char_at text at ∷ []))
    ≡ then_letter (length alphabet) (some xs) (letter_of alphabet (char_at text at)))
after {alphabet} {text} {xs} {at} p h = (
  passed_more p.passed refl h refl,
  letters_snoc alphabet p.characters (char_at text at)
      ∙ ap (λ (o : Option (List ℕ)). then_letter (length alphabet) o
      (letter_of alphabet (char_at text at))) p.spelled,
)

module _ {alphabet text xs : List ℕ} {at : ℕ} (p : Spelling alphabet text xs at) where
  pub spelling_more : {n x : ℕ} → n ≡ char_len text at → n ≢ 0
      → x ≡ letter_of alphabet (char_at text at) → x < length alphabet
      → Spelling alphabet text (xs ++ (x ∷ [])) (at + n)
  spelling_more {n} {x} e h d l =
      let q = after p (λ z. h (e ∙ z)) in
      rw (e, d)
      (record {
        characters = p.characters ++ (char_at text at ∷ []);
        passed = q.0;
        spelled = q.1 ∙ rw (lt-ltb _ _ (rw d at l));
      })

  pub spelling_all : length text ≤ at → key_of_text alphabet text ≡ some xs
  unfolding key_of_text
  spelling_all h = rw (passed_all p.passed h) p.spelled

  pub spelling_ill : at < length text → char_len text at ≡ 0 → key_of_text alphabet text ≡ none
  unfolding key_of_text
  spelling_ill h e = rw (passed_ill p.passed h e)

  pub spelling_outside : char_len text at ≢ 0
      → length alphabet ≤ letter_of alphabet (char_at text at)
      → key_of_text alphabet text ≡ none
  unfolding key_of_text
  spelling_outside h l =
      let q = after p h in
      ap (key_of_chars alphabet) q.0.before ∙ key_outside alphabet
      (p.characters ++ (char_at text at ∷ [])) (chars_at text (at + char_len text at))
      (q.1 ∙ rw (le-ltb _ _ l))
