-- The whole output by what the check gives, and that its length fits 64 bits: an accepted image
-- has fewer than 2^32 stored keys, each of at most 64 letters.
use Prim.Native.Nat.{ℕ, ◌+◌, ◌*◌, ◌^◌, ◌≤◌, ◌<◌}
use native.Mathlib.Omega.{arith}
use native.Mathlib.Decide.{dec_lt}
use mathlib.Core.Bool.{Bool, true, false, true≢false, cond}
use mathlib.Core.List.{List, [], ◌∷◌, Memᴰ}
use mathlib.Core.Logic.{◌≢◌}
use mathlib.Core.Option.{none, some}
use mathlib.Core.Path.{◌≡◌, refl, sym, ◌∙◌, ap}
use lib.ListN.{length, take, replicate, length-append, length-take}
use lib.Seq.{take_all}
use borrow.Author.Tests.{lt-ltb, le-ltb, ne_eqb}
use Rattle.trie.specs.Table.{answer}
use Rattle.head.specs.Fields.{most_letters}
use Rattle.alphabet.specs.Letters.{among}
use Rattle.paper.specs.Hearing.{Said, Row, Outcome, first, refused_numbers, done_numbers}
use Rattle.paper.specs.Orders.{check_order}
use Rattle.paper.specs.Calls.{table_in, stored_keys, check_of}
use Rattle.paper.specs.Accepted.{Accepted}
use Rattle.paper.proofs.Hearing.{heard_refused, heard_done}
use Rattle.paper.proofs.Numbers.{first_says, one_of}
use Rattle.paper.proofs.CheckCall.{check_numbers, checking_says, check_accepts}
use Rattle.paper.proofs.NextKeyCall.{stored_askable, counted_fits}
use Rattle.depths.proofs.Walkable.{walkable, short}
use Rattle.lines.specs.Lines.{entries_line, entry_line, refused_line}
use Rattle.lines.proofs.LineTexts.{entry_any, entries_long, refused_long}
use Rattle.list.specs.Output.{image_most, work_most, lines_of, listing_text, text_by, output_of}

-- ---- by what the check gives

cond_true : {b : Bool} (x y : List ℕ) → b ≡ true → cond b x y ≡ x
cond_true x y e = rw e

cond_false : {b : Bool} (x y : List ℕ) → b ≡ false → cond b x y ≡ y
cond_false x y e = rw e

-- with any working numbers
module _ (l work : List ℕ) where
  text_refused : {s : Said} → first (check_order l work) ≡ some s
      → text_by (check_of l work).numbers l ≡ refused_line s.number s.place
  unfolding text_by check_of refused_numbers among
  text_refused {s} e =
      let said : among s.number check_numbers ≡ true =
      one_of (first_says (checking_says l work)) e in
      let some_number : s.number ≢ 0 =
      λ z. true≢false (sym said ∙ ap (λ (n : ℕ). among n check_numbers) z) in
      ap (λ (o : Outcome). text_by o.numbers l) (heard_refused _ _ _ e)
      ∙ cond_false _ _ (ne_eqb s.number 0 some_number)

  text_done : first (check_order l work) ≡ none → text_by (check_of l work).numbers l
      ≡ listing_text l
  unfolding text_by check_of done_numbers
  text_done e = ap (λ (o : Outcome). text_by o.numbers l) (heard_done _ _ _ e)

module _ (input : List ℕ) where
  -- "Longer input is `refused 1 at 0`."
  pub output_longer : image_most < length input → output_of input ≡ refused_line 1 0
  unfolding output_of
  output_longer b = cond_true _ _ (lt-ltb image_most (length input) b)

  -- what the check gives, lent 16,384 working numbers
  abbrev pub check_row : Row
  check_row = first (check_order input (replicate work_most 0))

  module _ (b : length input ≤ image_most) where
    pub output_refused : {s : Said} → check_row ≡ some s → output_of input
        ≡ refused_line s.number s.place
    unfolding output_of
    output_refused e =
        cond_false _ _ (le-ltb image_most (length input) b)
        ∙ text_refused input (replicate work_most 0) e

    pub output_listing : check_row ≡ none → output_of input ≡ listing_text input
    unfolding output_of
    output_listing e =
        cond_false _ _ (le-ltb image_most (length input) b)
        ∙ text_done input (replicate work_most 0) e

-- one byte more than an image may have is enough to read
pub front_decides : (input : List ℕ) → output_of (take (image_most + 1) input) ≡ output_of input
front_decides input = go (dec_lt image_most (length input))
  where
    go : Dec (image_most < length input) → output_of (take (image_most + 1) input)
        ≡ output_of input
    go (yes b) =
        output_longer (take (image_most + 1) input)
        (omega (arith, length-take (image_most + 1) input))
        ∙ sym (output_longer input b)
    go (no b) = ap output_of (take_all (image_most + 1) input (omega arith))

-- ---- how long it is

lines_long : (value : List ℕ → ℕ) (keys : List (List ℕ))
    → ((k : List ℕ) → Memᴰ k keys → length k ≤ most_letters)
    → length (lines_of value keys) ≤ length keys * 1367
unfolding lines_of
lines_long value [] few = omega arith
lines_long value (k ∷ keys) few =
    omega (
      arith,
      length-append (entry_line k (value k)) (lines_of value keys),
      entry_any k (value k),
      few k (Memᴰ.head refl),
      lines_long value keys (λ m a. few m (Memᴰ.tail a)),
    )

listing_fits : {l : List ℕ} → Accepted l → length (listing_text l) < 2 ^ 64
unfolding listing_text
listing_fits {l} a =
    let lines = lines_long (answer (table_in l)) (stored_keys l)
    (λ k m. omega (arith, (stored_askable l k m).short, short (walkable a refl))) in
    omega (
      arith,
      length-append (entries_line (length (stored_keys l)))
          (lines_of (answer (table_in l)) (stored_keys l)),
      entries_long (length (stored_keys l)),
      counted_fits a,
    )

pub output_fits : (input : List ℕ) → length (output_of input) < 2 ^ 64
output_fits input = go (dec_lt image_most (length input))
  where
    one_line : (n place : ℕ) → output_of input ≡ refused_line n place
        → length (output_of input) < 2 ^ 64
    one_line n place e = omega (arith, ap length e, refused_long n place)

    by_row : (row : Row) → length input ≤ image_most → check_row input ≡ row
        → length (output_of input) < 2 ^ 64
    by_row none b e =
        let a = check_accepts input (replicate work_most 0) e in
        omega (arith, ap length (output_listing input b e), listing_fits a)
    by_row (some s) b e = one_line s.number s.place (output_refused input b e)

    go : Dec (image_most < length input) → length (output_of input) < 2 ^ 64
    go (yes b) = one_line 1 0 (output_longer input b)
    go (no b) = by_row (check_row input) (omega arith) refl
