-- The characters of a text, one at a time from a place on. Each has at least one byte, so every
-- count that is enough to reach the text's end gives the same characters (`chars_enough`). The
-- other laws therefore need no count.
use mathlib.Core.Path.{◌≡◌, refl, sym, ap, ◌∙◌}
use mathlib.Core.Logic.{◌≢◌}
use mathlib.Core.Bool.{Bool, true, false}
use mathlib.Core.Option.{Option, none, some}
use Prim.Native.Nat.{ℕ, zero, suc, ◌+◌, ◌≤◌, ◌<◌}
use native.Mathlib.Omega.{arith}
use mathlib.Core.List.{List, [], ◌∷◌, ◌++◌, append_assoc, append-nil}
use lib.Dec.{leb}
use lib.ListN.{length}
use borrow.Author.Tests.{le-leb, lt-leb, leb-true, leb-false}
use Rattle.utf8.specs.Table37.{char_len}
use Rattle.utf8.specs.Text.{char_at, in_front, chars_from, chars}
use Rattle.utf8.proofs.Characters.{character}

-- characters put before the characters of the rest
abbrev pub prepend : List ℕ → Option (List ℕ) → Option (List ℕ)
prepend cs none = none
prepend cs (some ds) = some (cs ++ ds)

pub prepend_nil : (r : Option (List ℕ)) → prepend [] r ≡ r
prepend_nil none = refl
prepend_nil (some ds) = refl

pub prepend_append : (cs ds : List ℕ) (r : Option (List ℕ)) → prepend cs (prepend ds r)
    ≡ prepend (cs ++ ds) r
prepend_append cs ds none = refl
prepend_append cs ds (some es) = ap some (sym (append_assoc cs ds es))

in_front_lem : (n c : ℕ) (r : Option (List ℕ)) → n ≢ 0 → in_front n c r ≡ prepend (c ∷ []) r
unfolding in_front
in_front_lem zero c r h = absurd (h refl)
in_front_lem (suc n) c none h = refl
in_front_lem (suc n) c (some cs) h = refl

-- ---- `chars_from`, unfolded

at_end : (more : ℕ) (l : List ℕ) (at : ℕ) → length l ≤ at → chars_from more l at ≡ some []
unfolding chars_from
at_end zero l at h = rw (le-leb (length l) at h)
at_end (suc more) l at h = rw (le-leb (length l) at h)

before_end : (more : ℕ) (l : List ℕ) (at : ℕ) → at < length l → chars_from (suc more) l at
    ≡ in_front (char_len l at) (char_at l at) (chars_from more l (at + char_len l at))
unfolding chars_from
before_end more l at h = rw (lt-leb (length l) at h)

no_character : (more : ℕ) (l : List ℕ) (at : ℕ) → at < length l → char_len l at ≡ 0
    → chars_from (suc more) l at ≡ none
unfolding in_front
no_character more l at h e =
    before_end more l at h ∙ ap
    (λ (n : ℕ). in_front n (char_at l at) (chars_from more l (at + char_len l at))) e

one_more : (more : ℕ) (l : List ℕ) (at : ℕ) → at < length l → char_len l at ≢ 0
    → chars_from (suc more) l at
    ≡ prepend (char_at l at ∷ []) (chars_from more l (at + char_len l at))
one_more more l at h e = before_end more l at h ∙ in_front_lem (char_len l at) (char_at l at)
    (chars_from more l (at + char_len l at)) e

pub chars_enough : (a b : ℕ) (l : List ℕ) (at : ℕ) → length l ≤ at + a → length l ≤ at + b
    → chars_from a l at ≡ chars_from b l at
chars_enough zero b l at ha hb = at_end 0 l at (omega arith) ∙ sym (at_end b l at (omega arith))
chars_enough (suc a) zero l at ha hb =
    at_end (suc a) l at (omega arith) ∙ sym (at_end 0 l at (omega arith))
chars_enough (suc a) (suc b) l at ha hb = go (leb (length l) at) refl (char_len l at) refl
    (λ h. chars_enough a b l (at + char_len l at) (omega arith) (omega arith))
  where
    go : (t : Bool) → leb (length l) at ≡ t → (n : ℕ) → char_len l at ≡ n
        → (char_len l at ≢ 0 → chars_from a l (at + char_len l at) ≡ chars_from b l
        (at + char_len l at))
        → chars_from (suc a) l at ≡ chars_from (suc b) l at
    go true t n e next = let h : length l ≤ at = leb-true _ _ t in
        at_end (suc a) l at h ∙ sym (at_end (suc b) l at h)
    go false t zero e next =
        let h : at < length l = leb-false _ _ t in
        no_character a l at h e ∙ sym (no_character b l at h e)
    go false t (suc n) e next =
        let h : at < length l = leb-false _ _ t in
        let k : char_len l at ≢ 0 = omega arith in
        one_more a l at h k ∙ ap (prepend (char_at l at ∷ [])) (next k) ∙ sym (one_more b l at h k)

-- ---- the characters from a place on

abbrev pub chars_at : List ℕ → ℕ → Option (List ℕ)
chars_at l at = chars_from (length l) l at

pub chars_start : (l : List ℕ) → chars l ≡ chars_at l 0
unfolding chars
chars_start l = refl

pub chars_end : (l : List ℕ) (at : ℕ) → length l ≤ at → chars_at l at ≡ some []
chars_end l at h = at_end (length l) l at h

-- before the end, one step more may be counted: the first character is then taken
enough : (l : List ℕ) (at : ℕ) → at < length l → chars_at l at ≡ chars_from (suc (length l)) l at
enough l at h = chars_enough (length l) (suc (length l)) l at (omega arith) (omega arith)

pub chars_ill : (l : List ℕ) (at : ℕ) → at < length l → char_len l at ≡ 0 → chars_at l at ≡ none
chars_ill l at h e = enough l at h ∙ no_character (length l) l at h e

pub chars_more : (l : List ℕ) (at : ℕ) → at < length l → char_len l at ≢ 0 → chars_at l at
    ≡ prepend (char_at l at ∷ []) (chars_at l (at + char_len l at))
chars_more l at h e = enough l at h ∙ one_more (length l) l at h e

-- ---- a loop over the characters: cs are those before `at`

pub record Passed (l cs : List ℕ) (at : ℕ) : Type 0 where
  pub within : at ≤ length l
  pub before : chars l ≡ prepend cs (chars_at l at)

pub passed_none : (l : List ℕ) → Passed l [] 0
passed_none l =
    record { within = omega arith; before = chars_start l ∙ sym (prepend_nil (chars_at l 0)) }

pub passed_more : {l cs : List ℕ} {at n c : ℕ} → Passed l cs at → n ≡ char_len l at → n ≢ 0
    → c ≡ char_at l at → Passed l (cs ++ (c ∷ [])) (at + n)
passed_more {l} {cs} {at} {n} {c} p e h d =
    let k : char_len l at ≢ 0 = omega arith in
    let w : at + char_len l at ≤ length l = (character l at k).whole in
    record {
      within = omega arith;
      before =
          p.before
          ∙ ap (prepend cs) (chars_more l at (omega arith) k)
          ∙ prepend_append cs (char_at l at ∷ []) (chars_at l (at + char_len l at))
          ∙ rw (e, d);
    }

pub passed_all : {l cs : List ℕ} {at : ℕ} → Passed l cs at → length l ≤ at → chars l ≡ some cs
passed_all {l} {cs} {at} p h = p.before ∙ ap (prepend cs) (chars_end l at h) ∙ simp append-nil

pub passed_ill : {l cs : List ℕ} {at : ℕ} → Passed l cs at → at < length l → char_len l at ≡ 0
    → chars l ≡ none
passed_ill {l} {cs} {at} p h e = p.before ∙ ap (prepend cs) (chars_ill l at h e)
