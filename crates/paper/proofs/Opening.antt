-- 1 to 4, row by row, for every call that opens an image: which row is given when, and what is
-- known where none is. Each law follows the order by the laws of `Hearing`.
use Prim.Native.Nat.{ℕ, ◌+◌, ◌≤◌, ◌<◌}
use mathlib.Core.Path.{◌≡◌, refl, ◌∙◌}
use mathlib.Core.Bool.{Bool, true, false, not, ◌&&◌, and-false}
use mathlib.Core.Option.{none, some}
use mathlib.Core.List.{List, [], ◌∷◌}
use native.Mathlib.Decide.{ℕ_discrete, dec_le}
use native.Mathlib.Omega.{arith}
use lib.ListN.{length, get_or, take, drop, length-take, length-drop}
use lib.Seq.{length-take-le, ext_get_or, get_or-take, get_or-drop}
use lib.Dec.{leb, ltb, eqb}
use borrow.Author.Tests.{lt-ltb, le-ltb, eq-eqb, ne_eqb, leb-true, leb-false, ltb-false, not-false}
use Rattle.field.specs.Range.{between}
use Rattle.head.specs.declared.Head.{Head}
use Rattle.head.specs.Fields.{fields_len, shortest_image, longest_image, permitted, used_len}
use Rattle.head.proofs.Places.{used_le, place_least}
use Rattle.alphabet.specs.Letters.{among, good_alphabet}
use Rattle.paper.specs.Hearing.{Row, first}
use Rattle.paper.specs.Answers.{number_at}
use Rattle.paper.specs.Rows.{row1, row2, row3, row4}
use Rattle.paper.specs.Given.{alphabet_in}
use Rattle.paper.specs.Orders.{opening_rows}
use Rattle.paper.proofs.Hearing.{is_given, not_given, untrue, unfalse, yes_row, no_row}
use Rattle.paper.proofs.Hearing.{passed_row, was_false}
use Rattle.paper.proofs.Numbers.{AllSay, given_says, end, ◌then◌}

-- an order of one row gives that row
last_row : (r : Row) → first (r ∷ []) ≡ r
unfolding first
last_row none = refl
last_row (some s) = refl

-- row 4, by the test whether the used bytes fit
pub fits_4 : (h : Head) (len : ℕ) → leb (used_len h) len ≡ true → row4 h len ≡ none
unfolding row4
fits_4 h len e = not_given 4 0 (le-ltb len (used_len h) (leb-true (used_len h) len e))

pub heard_4 : (h : Head) (len : ℕ) → leb (used_len h) len ≡ false → row4 h len
    ≡ some (number_at 4 0)
unfolding row4
heard_4 h len e = is_given 4 0 (lt-ltb len (used_len h) (leb-false (used_len h) len e))

module _ (h : Head) (alphabet : List ℕ) (len : ℕ) where
  -- the test of row 3
  abbrev pub spoilt : Bool
  spoilt = ltb 0 h.f && eqb (length alphabet) h.f && not (good_alphabet h.n alphabet)

  pub heard_1 : between len shortest_image longest_image ≡ false
      → first (opening_rows h alphabet len)
      ≡ some (number_at 1 0)
  unfolding opening_rows row1
  heard_1 e = yes_row 1 0 _ (unfalse e)

  pub heard_2 : between len shortest_image longest_image ≡ true → permitted h ≡ false
      → first (opening_rows h alphabet len) ≡ some (number_at 2 0)
  unfolding opening_rows row1 row2
  heard_2 e p = no_row 1 0 _ (untrue e) ∙ yes_row 2 0 _ (unfalse p)

  pub heard_3 : between len shortest_image longest_image ≡ true → permitted h ≡ true → spoilt
      ≡ true
      → first (opening_rows h alphabet len) ≡ some (number_at 3 0)
  unfolding opening_rows row1 row2 row3
  heard_3 e p s = no_row 1 0 _ (untrue e) ∙ no_row 2 0 _ (untrue p) ∙ yes_row 3 0 _ s

  -- once 1 to 3 have passed, 4 decides
  pub left_4 : between len shortest_image longest_image ≡ true → permitted h ≡ true → spoilt
      ≡ false
      → first (opening_rows h alphabet len) ≡ row4 h len
  unfolding opening_rows row1 row2 row3
  left_4 e p s =
      no_row 1 0 _ (untrue e) ∙ no_row 2 0 _ (untrue p) ∙ no_row 3 0 _ s ∙ last_row (row4 h len)

  -- what is known of an image once 1 to 4 have passed
  pub record Passed : Type 0 where
    pub allowed : between len shortest_image longest_image ≡ true
    pub head_permitted : permitted h ≡ true
    pub unspoilt : spoilt ≡ false
    pub room : used_len h ≤ len

  pub passed : first (opening_rows h alphabet len) ≡ none → Passed
  unfolding opening_rows row1 row2 row3 row4
  passed e =
      let after1 = passed_row (row1 len) (row2 h ∷ row3 h alphabet ∷ row4 h len ∷ []) e in
      let after2 = passed_row (row2 h) (row3 h alphabet ∷ row4 h len ∷ []) after1.1 in
      let after3 = passed_row (row3 h alphabet) (row4 h len ∷ []) after2.1 in
      let after4 = passed_row (row4 h len) [] after3.1 in
      record {
        allowed = not-false _ (was_false 1 0 _ after1.0);
        head_permitted = not-false _ (was_false 2 0 _ after2.0);
        unspoilt = was_false 3 0 _ after3.0;
        room = ltb-false len (used_len h) (was_false 4 0 _ after4.0);
      }

  pub opening_says : AllSay (1 ∷ 2 ∷ 3 ∷ 4 ∷ []) (opening_rows h alphabet len)
  unfolding opening_rows row1 row2 row3 row4 among
  opening_says =
      given_says 1 0 (not (between len shortest_image longest_image)) refl
      then given_says 2 0 (not (permitted h)) refl
      then given_says 3 0 spoilt refl
      then given_says 4 0 (ltb len (used_len h)) refl
      then end

  -- row 3 asks for a good alphabet only where F is above 0 and all F bytes are there
  pub good_unspoilt : (0 < h.f → length alphabet ≡ h.f → good_alphabet h.n alphabet ≡ true)
      → spoilt ≡ false
  good_unspoilt good = go (dec_le 1 h.f) (ℕ_discrete (length alphabet) h.f)
    where
      go : Dec (0 < h.f) → Dec (length alphabet ≡ h.f) → spoilt ≡ false
      go (no b) d = rw (le-ltb 0 h.f (omega arith))
      go (yes b) (no d) = rw (ne_eqb (length alphabet) h.f d, and-false (ltb 0 h.f))
      go (yes b) (yes e) = rw (good b e) (and-false (ltb 0 h.f && eqb (length alphabet) h.f))

  pub unspoilt_good : spoilt ≡ false → 0 < h.f → length alphabet ≡ h.f
      → good_alphabet h.n alphabet ≡ true
  unspoilt_good s f w =
      not-false _ (simp (lt-ltb 0 h.f f, eq-eqb (length alphabet) h.f w) at s)

-- images of one length with the same F bytes after the fields have the same alphabet
pub alphabet_same : (h : Head) (a b : List ℕ) → length a ≡ length b
    → ((i : ℕ) → i < h.f → get_or a (fields_len + i) 0 ≡ get_or b (fields_len + i) 0)
    → alphabet_in h a
    ≡ alphabet_in h b
unfolding alphabet_in
alphabet_same h a b n e =
    ext_get_or 0 (take h.f (drop fields_len a)) (take h.f (drop fields_len b))
    (simp (length-take, length-drop, n))
    (λ i c.
    let d : i < h.f = omega (arith, simp length-take at c) in
    simp (get_or-take, get_or-drop) (e i d))

-- where the used bytes are inside the image, so are all F bytes of the alphabet
pub alphabet_whole : (h : Head) (l : List ℕ) → used_len h ≤ length l → length (alphabet_in h l)
    ≡ h.f
unfolding alphabet_in
alphabet_whole h l b =
    length-take-le h.f (drop fields_len l)
    (omega (arith, length-drop fields_len l, used_le h 0 (omega arith), place_least h 0))
