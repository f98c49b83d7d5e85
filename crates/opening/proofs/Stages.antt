-- What an opening answers at each way out, from what its stages returned: a refusal that is
-- given, or the head with the letters decoded.
use Prim.Native.Nat.{ℕ, ◌+◌, ◌-◌, ◌≤◌, ◌<◌, min}
use mathlib.Core.Path.{◌≡◌, refl, sym, ◌∙◌, ap}
use mathlib.Core.Bool.{Bool, true, false, not, ◌||◌}
use mathlib.Core.Option.{none, some}
use mathlib.Core.List.{List}
use native.Mathlib.Omega.{arith}
use lib.Dec.{leb, eqb}
use lib.ListN.{length, take, drop, length-drop}
use lib.Seq.{take_all}
use borrow.Author.Tests.{leb-true, leb-false}
use Rattle.std.specs.Prelude.{Result, Ok, Err}
use Rattle.std.proofs.lemmas.Bool.Decides.{nat_tests}
use Rattle.head.specs.declared.Head.{Head}
use Rattle.head.specs.Fields.{fields_len, head_of}
use Rattle.alphabet.specs.declared.codes.Codes.{Codes}
use Rattle.alphabet.specs.Letters.{good_alphabet}
use Rattle.alphabet.proofs.Alphabets.{no_letters}
use Rattle.paper.specs.declared.Refusal.{Refusal}
use Rattle.paper.specs.Hearing.{first}
use Rattle.paper.specs.Answers.{said_of, row_of}
use Rattle.paper.specs.Given.{alphabet_in}
use Rattle.paper.specs.Orders.{opening_rows, opening_rows_of}
use Rattle.paper.proofs.Opening.{spoilt, passed, good_unspoilt, alphabet_whole}
use Rattle.opening.specs.Opened.{Decoded, OpensWith, Opens}

module _ (h : Head) (alphabet : List ℕ) (len : ℕ) where
  -- a refusal that is given
  pub judged_refused : {why : Refusal} {codes : Codes}
      → first (opening_rows h alphabet len) ≡ some (said_of why)
      → OpensWith h alphabet len (Err why) codes
  unfolding row_of
  judged_refused e = record { verdict = sym e; decoded = tt }

  -- no refusal is given
  pub judged_passed : {codes : Codes} → first (opening_rows h alphabet len) ≡ none
      → (length alphabet ≡ h.f → Decoded alphabet codes)
      → OpensWith h alphabet len (Ok tt) codes
  unfolding row_of
  judged_passed e d = record { verdict = sym e; decoded = d }

  -- an image may have no alphabet, or end before its alphabet does
  abbrev pub unread : Bool
  unread = eqb h.f 0 || not (eqb (length alphabet) h.f)

  -- the test of row 3, once the alphabet has been read: where it passes, the letters that there
  -- should be are in the codes
  pub record Read (codes : Codes) : Type 0 where
    pub plain : spoilt h alphabet len ≡ false
    pub decoded : length alphabet ≡ h.f → Decoded alphabet codes

  pub read_none : {codes : Codes} → unread ≡ true → codes.count ≡ 0 → Read codes
  read_none {codes} e z =
      let none_here : length alphabet ≡ h.f → length alphabet ≡ 0 =
      λ w. grind (arith, nat_tests) in
      record {
        plain = good_unspoilt h alphabet len
            (λ b w. let n = none_here w in absurd (omega arith));
        decoded = λ w. ap (λ (j : ℕ). take j codes.list) z
            ∙ sym (no_letters alphabet (none_here w));
      }

  pub read_good : {codes : Codes} → good_alphabet h.n alphabet ≡ true → Decoded alphabet codes
      → Read codes
  read_good e d =
      record { plain = good_unspoilt h alphabet len (λ b w. e); decoded = λ w. d }

  pub spoilt_bad : unread ≡ false → good_alphabet h.n alphabet ≡ false
      → spoilt h alphabet len ≡ true
  spoilt_bad u e = grind (arith, nat_tests)

-- ---- an image

pub opens_refused : (l : List ℕ) {why : Refusal} {codes : Codes}
    → first (opening_rows_of l) ≡ some (said_of why) → Opens l (Err why) codes
unfolding row_of
opens_refused l e = record { verdict = sym e; head = tt; decoded = tt }

-- the part of the image that is judged is its alphabet, or what the image has of it
part : (l : List ℕ) (f end : ℕ) → fields_len ≤ length l → end ≡ min (fields_len + f) (length l)
    → take (end - fields_len) (drop fields_len l) ≡ take f (drop fields_len l)
part l f end h e = go (leb (fields_len + f) (length l)) refl
  where
    go : (b : Bool) → leb (fields_len + f) (length l) ≡ b
        → take (end - fields_len) (drop fields_len l) ≡ take f (drop fields_len l)
    go true b =
        let k : fields_len + f ≤ length l = leb-true _ _ b in
        let so : end - fields_len ≡ f = omega arith in
        ap (λ (j : ℕ). take j (drop fields_len l)) so
    go false b =
        let k : length l < fields_len + f = leb-false _ _ b in
        take_all (end - fields_len) (drop fields_len l) (omega (arith, length-drop fields_len l))
        ∙ sym (take_all f (drop fields_len l) (omega (arith, length-drop fields_len l)))

module _ (l : List ℕ) {h : Head} {end : ℕ} {codes : Codes} (own : h ≡ head_of l)
    (ends : end ≡ min (fields_len + h.f) (length l)) (fields : fields_len ≤ length l)
  where
    -- the judgement of that part is one of the image's own alphabet
    judged_own : {r : Result (Unit {0}) Refusal}
        → OpensWith h (take (end - fields_len) (drop fields_len l)) (length l) r codes
        → OpensWith (head_of l) (alphabet_in (head_of l) l) (length l) r codes
    unfolding alphabet_in
    judged_own j =
        let same : take (end - fields_len) (drop fields_len l)
        ≡ take (head_of l).f (drop fields_len l) =
        part l h.f end fields ends ∙ ap (λ (g : Head). take g.f (drop fields_len l)) own in
        rw (own, same) at j

    pub opens_err : {why : Refusal}
        → OpensWith h (take (end - fields_len) (drop fields_len l)) (length l) (Err why) codes
        → Opens l (Err why) codes
    unfolding opening_rows_of row_of
    opens_err j = record { verdict = (judged_own j).verdict; head = tt; decoded = tt }

    pub opens_ok
        : OpensWith h (take (end - fields_len) (drop fields_len l)) (length l) (Ok tt) codes
        → Opens l (Ok h) codes
    unfolding opening_rows_of row_of
    opens_ok j =
        let o = judged_own j in
        record {
          verdict = o.verdict;
          head = own;
          decoded = o.decoded
              (alphabet_whole (head_of l) l
              (passed (head_of l) (alphabet_in (head_of l) l) (length l) (sym o.verdict)).room);
        }
