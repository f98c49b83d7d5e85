-- A key as it is given, judged with a head and an alphabet: what is answered is the first of 9 and
-- 10 that is given, and a key that passes is the one that is meant. Letters and text differ in how
-- the key in hand is made, and in which of the two rows comes first. `keyed`: where an image with
-- this head and this alphabet has passed 1 to 4, a key that passes is also ready.
use Prim.Native.Nat.{ℕ}
use mathlib.Core.Path.{◌≡◌, refl, sym, ◌∙◌, ap}
use mathlib.Core.Bool.{Bool, true, false, not}
use mathlib.Core.Option.{none, some}
use mathlib.Core.List.{List}
use lib.ListN.{length}
use Rattle.std.specs.Prelude.{Some, None, Result, Ok, Err, IfOk}
use Rattle.field.specs.Range.{between}
use Rattle.head.specs.declared.Head.{Head}
use Rattle.head.specs.Fields.{head_of}
use Rattle.alphabet.specs.declared.codes.Codes.{Codes}
use Rattle.alphabet.specs.Letters.{key_of_text}
use Rattle.alphabet.specs.Judged.{letters_in}
use Rattle.paper.specs.declared.Refusal.{Refusal}
use Rattle.paper.specs.Hearing.{row_when, first}
use Rattle.paper.specs.Answers.{row_of}
use Rattle.paper.specs.Given.{Given, as_letters, as_text, alphabet_in, meant_by, meant_in, key_in}
use Rattle.paper.specs.Orders.{letters_rows, key_rows_by, key_rows}
use Rattle.paper.specs.Rows.{row9, row10, all_below}
use Rattle.paper.proofs.Hearing.{told_passed}
use Rattle.paper.proofs.Keying.{given_meant}
use Rattle.paper.proofs.Known.{Known}
use Rattle.paper.proofs.LookUpCall.{given_fit}
use Rattle.opening.specs.Opened.{Opens}
use Rattle.opening.proofs.Passed.{known_opened}
use Rattle.key.specs.declared.Key.{Key}
use Rattle.key.specs.Hand.{in_hand, Holds, hand_of, meant_with, key_rows_with, JudgedBy}
use Rattle.key.specs.Hand.{letters_of, Ready, Keyed}
use Rattle.key.proofs.Hand.{hand_holds}
use Rattle.key.proofs.Judging.{short, outside, nine_given, ten_decides}
use Rattle.key.proofs.Judging.{text_10, text_by, ready}

-- 10 decides where the length of a key by its letters is allowed
ten : (h : Head) (key : List ℕ) → between (length key) h.min h.max ≡ true → {b : Bool}
    → all_below h.n key ≡ b → first (letters_rows h key) ≡ row_when 10 0 (not b)
unfolding in_hand letters_rows row9 row10
ten h key allowed e =
    ten_decides h (outside h) (hand_holds key) (ap not allowed)
    ∙ ap (λ (t : Bool). row_when 10 0 (not t)) e

module _ {h : Head} {alphabet : List ℕ} where
  -- a key by its letters, of any length, by the test of each row
  pub letters_length : (key : List ℕ) → between (length key) h.min h.max ≡ false
      → JudgedBy h alphabet (as_letters key) (Err Refusal.KeyLength)
  unfolding row_of in_hand key_rows_with letters_rows row9
  letters_length key b =
      record { verdict = sym (nine_given h (outside h) (hand_holds key) (ap not b)); key = tt }

  module _ (key : List ℕ) (allowed : between (length key) h.min h.max ≡ true) where
    pub letters_outside : all_below h.n key ≡ false
        → JudgedBy h alphabet (as_letters key) (Err Refusal.Letter)
    unfolding row_of key_rows_with row_when
    letters_outside b = record { verdict = sym (ten h key allowed b); key = tt }

    pub letters_passed : all_below h.n key ≡ true → {hand : Key} → hand ≡ in_hand key
        → JudgedBy h alphabet (as_letters key) (Ok hand)
    unfolding row_of key_rows_with meant_with hand_of row_when
    letters_passed b made = record { verdict = sym (ten h key allowed b); key = rw made refl }

  -- the same, by the answer of what judges the key in hand
  module _ (key : List ℕ) {hand : Key} (made : hand ≡ in_hand key) {v : Result (Unit {0}) Refusal}
      (told : (k : List ℕ) → Holds hand k → row_of v ≡ first (letters_rows h k)) where
    pub letters_refused : {why : Refusal} → v ≡ Err why
        → JudgedBy h alphabet (as_letters key) (Err why)
    unfolding row_of key_rows_with
    letters_refused e =
        record { verdict = rw e at told key (rw made (hand_holds key)); key = tt }

    pub letters_judged : {x : Unit {0}} → v ≡ Ok x → JudgedBy h alphabet (as_letters key) (Ok hand)
    unfolding row_of key_rows_with meant_with hand_of
    letters_judged e =
        record { verdict = rw e at told key (rw made (hand_holds key)); key = rw made refl }

  -- a key by its text
  pub text_nameless : (text : List ℕ) → hand_of (key_of_text alphabet text) ≡ None
      → JudgedBy h alphabet (as_text text) (Err Refusal.Letter)
  unfolding row_of key_rows_with meant_with
  text_nameless text e =
      record { verdict = sym (text_10 h (key_of_text alphabet text) e); key = tt }

  module _ (text : List ℕ) {hand : Key} (is : hand_of (key_of_text alphabet text) ≡ Some hand)
    where
      pub text_length : between hand.len h.min h.max ≡ false
          → JudgedBy h alphabet (as_text text) (Err Refusal.KeyLength)
      unfolding row_of key_rows_with meant_with row_when
      text_length b = record { verdict = sym (text_by h _ is b); key = tt }

      pub text_passed : between hand.len h.min h.max ≡ true
          → JudgedBy h alphabet (as_text text) (Ok hand)
      unfolding row_of key_rows_with meant_with row_when
      text_passed b = record { verdict = sym (text_by h _ is b); key = sym is }

-- ---- in an image that has been opened

module _ {l : List ℕ} {codes : Codes} {h : Head} (o : Opens l (Ok h) codes) where
  known : Known l h
  known = known_opened o refl

  same_key : (given : Given) → meant_with (letters_in codes) given ≡ meant_in l given
  unfolding meant_with meant_in meant_by
  same_key (as_letters key) = refl
  same_key (as_text text) = ap (λ (a : List ℕ). key_of_text a text) o.decoded

  same_rows : (given : Given) → key_rows_with h (letters_in codes) given ≡ key_rows l given
  unfolding key_rows_with meant_with key_rows key_rows_by meant_by
  same_rows (as_letters key) = ap (λ (g : Head). letters_rows g key) o.head
  same_rows (as_text text) = rw (o.head, o.decoded)

  -- a key that passes is ready, and is the one that is meant
  meant_ready : (given : Given) {hand : Key}
      → Some hand ≡ hand_of (meant_with (letters_in codes) given)
      → first (key_rows l given) ≡ none
      → Ready (head_of l) hand × (letters_of hand ≡ key_in l given)
  unfolding hand_of key_rows key_in meant_in
  meant_ready given {hand} is passed =
      let key : List ℕ = key_in l given in
      let named : meant_in l given ≡ some key =
      given_meant (head_of l) (alphabet_in (head_of l) l) given passed in
      let same : Some hand ≡ Some (in_hand key) = is ∙ ap hand_of (same_key given ∙ named) in
      let made : hand ≡ in_hand key = cc in
      let fit = given_fit l given known.opened passed in
      ready (head_of l) (rw made (hand_holds key))
      (short (head_of l) (rw o.head at known.image.head_permitted) fit.allowed) fit.below

  pub keyed : {given : Given} {r : Result Key Refusal} → JudgedBy h (letters_in codes) given r
      → Keyed l given r
  keyed {given} {r} j = record { verdict = told; key = by_case r j.key told }
    where
      told : row_of r ≡ first (key_rows l given)
      told = j.verdict ∙ ap first (same_rows given)

      by_case : (v : Result Key Refusal)
          → IfOk v (λ k. Some k ≡ hand_of (meant_with (letters_in codes) given))
          → row_of v ≡ first (key_rows l given)
          → IfOk v (λ k. Ready (head_of l) k × (letters_of k ≡ key_in l given))
      by_case (Ok hand) is told = meant_ready given is (told_passed told refl)
      by_case (Err why) is told = tt
