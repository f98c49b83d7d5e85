-- The loop over a text: the letters so far are those of the characters read, and the array holds
-- as many of them as it can.
use Prim.Native.Nat.{ℕ, ◌+◌, ◌≤◌, ◌<◌}
use mathlib.Core.Path.{◌≡◌, refl, sym, ◌∙◌, ap}
use mathlib.Core.Logic.{◌≢◌}
use mathlib.Core.List.{List, [], ◌∷◌, ◌++◌}
use native.Mathlib.Omega.{arith}
use lib.ListN.{length, set, replicate, length-append}
use Rattle.std.specs.Prelude.{Some, None}
use Rattle.utf8.specs.Table37.{char_len}
use Rattle.utf8.specs.Text.{char_at}
use Rattle.head.specs.Fields.{most_letters}
use Rattle.alphabet.specs.Letters.{letter_of, key_of_text}
use Rattle.alphabet.proofs.Spelling.{Spelling, spelling_none, spelling_more, spelling_all}
use Rattle.alphabet.proofs.Spelling.{spelling_ill, spelling_outside}
use Rattle.key.specs.Hand.{padded, in_hand, hand_of}
use Rattle.key.proofs.Hand.{padded_nil, padded_more, padded_full}

pub record Typing (alphabet text kept : List ℕ) (len at : ℕ) : Type 0 where
  pub letters : List ℕ
  pub spelling : Spelling alphabet text letters at
  pub array : kept ≡ padded most_letters letters
  pub count : len ≡ length letters

pub typing_none : (alphabet text : List ℕ) → Typing alphabet text (replicate most_letters 0) 0 0
typing_none alphabet text = record {
  letters = [];
  spelling = spelling_none alphabet text;
  array = sym (padded_nil most_letters);
  count = refl;
}

module _ {alphabet text kept : List ℕ} {len at : ℕ} (t : Typing alphabet text kept len at) where
  -- the length after one letter more
  longer : (x : ℕ) → len + 1 ≡ length (t.letters ++ (x ∷ []))
  longer x = omega (arith, length-append t.letters (x ∷ []), t.count)

  -- one letter more, put into the array where there is room
  pub typing_more : {n x : ℕ} → n ≡ char_len text at → n ≢ 0
      → x ≡ letter_of alphabet (char_at text at) → x < length alphabet → len < most_letters
      → Typing alphabet text (set kept len x) (len + 1) (at + n)
  typing_more {n} {x} e z l b r =
      record {
        letters = t.letters ++ (x ∷ []);
        spelling = spelling_more t.spelling e z l b;
        array =
            ap (λ (a : List ℕ). set a len x) t.array
            ∙ ap (λ (j : ℕ). set (padded most_letters t.letters) j x) t.count
            ∙ padded_more most_letters t.letters x (omega (arith, t.count));
        count = longer x;
      }

  -- one letter more, counted but not kept where there is no room
  pub typing_past : {n x : ℕ} → n ≡ char_len text at → n ≢ 0
      → x ≡ letter_of alphabet (char_at text at) → x < length alphabet → most_letters ≤ len
      → Typing alphabet text kept (len + 1) (at + n)
  typing_past {n} {x} e z l b r =
      record {
        letters = t.letters ++ (x ∷ []);
        spelling = spelling_more t.spelling e z l b;
        array = t.array ∙ padded_full most_letters t.letters x (omega (arith, t.count));
        count = longer x;
      }

  pub typing_all : length text ≤ at
      → Some (record { letters = kept; len = len }) ≡ hand_of (key_of_text alphabet text)
  unfolding hand_of in_hand
  typing_all h =
      rw (spelling_all t.spelling h)
      (λ j. Some (record { letters = t.array j; len = t.count j }))

  pub typing_ill : at < length text → char_len text at ≡ 0
      → None ≡ hand_of (key_of_text alphabet text)
  unfolding hand_of
  typing_ill h e = ap hand_of (sym (spelling_ill t.spelling h e))

  pub typing_outside : char_len text at ≢ 0
      → length alphabet ≤ letter_of alphabet (char_at text at)
      → None ≡ hand_of (key_of_text alphabet text)
  unfolding hand_of
  typing_outside z h = ap hand_of (sym (spelling_outside t.spelling z h))
