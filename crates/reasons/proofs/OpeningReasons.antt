-- 1 to 4, for make and for every call that opens an image: each row is given exactly where its
-- reason applies. A chain of tests within limits fails where one field is outside its limits; an
-- alphabet is good where its bytes are N different well-formed characters.
use Prim.Native.Nat.{ℕ, ◌+◌, ◌≤◌, ◌<◌}
use mathlib.Core.Path.{◌≡◌, refl, sym, ◌∙◌}
use mathlib.Core.Logic.{◌↔◌}
use mathlib.Core.Bool.{Bool, true, false, not, ◌&&◌, true≢false, false≢true}
use mathlib.Core.Option.{Option, none, some}
use mathlib.Core.List.{List, [], ◌∷◌, Memᴰ}
use native.Mathlib.Decide.{dec_lt}
use native.Mathlib.Omega.{arith}
use lib.Dec.{ltb, eqb}
use lib.ListN.{length, take, drop, length-take, length-drop}
use lib.Seq.{length-take-le}
use borrow.Author.Tests.{ltb-true, lt-ltb, eqb-true, eq-eqb, not-true}
use Rattle.field.specs.Range.{between}
use Rattle.field.proofs.Range.{both, true_between}
use Rattle.utf8.specs.Text.{chars}
use Rattle.head.specs.declared.Head.{Head}
use Rattle.head.specs.Fields.{most_links, most_link_bytes, most_data_bytes, most_alphabet}
use Rattle.head.specs.Fields.{most_letters}
use Rattle.head.specs.Fields.{fields_len, shortest_image, longest_image, head_of, permitted}
use Rattle.head.specs.Fields.{used_len}
use Rattle.head.proofs.Permitted.{Bounds, bounds}
use Rattle.alphabet.specs.Letters.{among, all_different, is_alphabet, good_alphabet}
use Rattle.paper.specs.Hearing.{Row}
use Rattle.paper.specs.Rows.{row1, row2, row3, row4}
use Rattle.paper.specs.Given.{alphabet_in}
use Rattle.paper.specs.Orders.{opening_rows, opening_rows_of}
use Rattle.paper.specs.Calls.{fresh_head}
use Rattle.reasons.specs.Reasons.{◌when◌}
use Rattle.reasons.specs.CheckReasons.{WrongLength, FieldOutside, n_below, n_above, a_below}
use Rattle.reasons.specs.CheckReasons.{a_above, d_below, d_above, f_above, min_above}
use Rattle.reasons.specs.CheckReasons.{max_above, Different, Characters, opening_reasons}
use Rattle.reasons.specs.CheckReasons.{make_reasons}
use Rattle.reasons.proofs.FirstReason.{Fits, AllFit, when_fits}
use Rattle.reasons.proofs.KeyReasons.{outside, among_member}

-- ---- 1

one_fits : (len : ℕ) → Fits (row1 len) (1 when WrongLength len)
unfolding row1
one_fits len =
    let w = outside len shortest_image longest_image in
    when_fits 1 0 (not (between len shortest_image longest_image)) w.0 w.1

-- ---- 2

within_bounds : (h : Head) → Bounds h → ¬ FieldOutside h
within_bounds h b (n_below c) = omega (arith, b.n_least)
within_bounds h b (n_above c) = omega (arith, b.n_most)
within_bounds h b (a_below c) = omega (arith, b.a_least)
within_bounds h b (a_above c) = omega (arith, b.a_most)
within_bounds h b (d_below c) = omega (arith, b.d_least)
within_bounds h b (d_above c) = omega (arith, b.d_most)
within_bounds h b (f_above c) = omega (arith, b.f_most)
within_bounds h b (min_above c) = omega (arith, b.min_most)
within_bounds h b (max_above c) = omega (arith, b.max_most)

all_within : (h : Head) → Bounds h → permitted h ≡ true
unfolding permitted
all_within h b =
    rw (
      true_between h.n 1 most_links b.n_least b.n_most,
      true_between h.a 1 most_link_bytes b.a_least b.a_most,
      true_between h.d 1 most_data_bytes b.d_least b.d_most,
      true_between h.f 0 most_alphabet (omega arith) b.f_most,
      true_between h.min 0 h.max (omega arith) b.min_most,
      true_between h.max 0 most_letters (omega arith) b.max_most,
    )

-- a field that is outside, where the head is not permitted
some_field : (h : Head) → permitted h ≡ false → FieldOutside h
some_field h e =
    go (dec_lt h.n 1) (dec_lt most_links h.n) (dec_lt h.a 1) (dec_lt most_link_bytes h.a)
    (dec_lt h.d 1) (dec_lt most_data_bytes h.d) (dec_lt most_alphabet h.f)
    (dec_lt h.max h.min) (dec_lt most_letters h.max)
  where
    go : Dec (h.n < 1) → Dec (most_links < h.n) → Dec (h.a < 1) → Dec (most_link_bytes < h.a)
        → Dec (h.d < 1) → Dec (most_data_bytes < h.d) → Dec (most_alphabet < h.f)
        → Dec (h.max < h.min) → Dec (most_letters < h.max)
        → FieldOutside h
    go (yes b) _ _ _ _ _ _ _ _ = n_below b
    go (no _) (yes b) _ _ _ _ _ _ _ = n_above b
    go (no _) (no _) (yes b) _ _ _ _ _ _ = a_below b
    go (no _) (no _) (no _) (yes b) _ _ _ _ _ = a_above b
    go (no _) (no _) (no _) (no _) (yes b) _ _ _ _ = d_below b
    go (no _) (no _) (no _) (no _) (no _) (yes b) _ _ _ = d_above b
    go (no _) (no _) (no _) (no _) (no _) (no _) (yes b) _ _ = f_above b
    go (no _) (no _) (no _) (no _) (no _) (no _) (no _) (yes b) _ = min_above b
    go (no _) (no _) (no _) (no _) (no _) (no _) (no _) (no _) (yes b) = max_above b
    go (no n) (no n') (no a) (no a') (no d) (no d') (no f) (no min) (no max) =
        let b : Bounds h =
        record {
          n_least = omega arith;
          n_most = omega arith;
          a_least = omega arith;
          a_most = omega arith;
          d_least = omega arith;
          d_most = omega arith;
          f_most = omega arith;
          min_most = omega arith;
          max_most = omega arith;
        } in
        absurd (true≢false (sym (all_within h b) ∙ e))

-- where no field is outside, every field is within its limits
pub fields_within : (h : Head) → ¬ FieldOutside h → Bounds h
fields_within h inside = go (permitted h) refl
  where
    go : (b : Bool) → permitted h ≡ b → Bounds h
    go true e = bounds h e
    go false e = absurd (inside (some_field h e))

two_fits : (h : Head) → Fits (row2 h) (2 when FieldOutside h)
unfolding row2
two_fits h =
    when_fits 2 0 (not (permitted h)) (λ e. some_field h (not-true _ e)) (λ o. from o (permitted h)
    refl)
  where
    from : FieldOutside h → (b : Bool) → permitted h ≡ b → not b ≡ true
    from o false e = refl
    from o true e = absurd (within_bounds h (bounds h e) o)

-- ---- 3

different_true : (cs : List ℕ) → (all_different cs ≡ true) ↔ Different cs
unfolding all_different
different_true [] = (λ e. tt, λ d. refl)
different_true (c ∷ cs) = (to (different_true cs).0, from (different_true cs).1)
  where
    to : (all_different cs ≡ true → Different cs) → (not (among c cs) && all_different cs) ≡ true
        → (¬ Memᴰ c cs) × Different cs
    to rest e =
        let (a, b) = both (not (among c cs)) (all_different cs) e in
        (λ m. true≢false (sym ((among_member c cs).1 m) ∙ not-true _ a), rest b)

    from : (Different cs → all_different cs ≡ true) → (¬ Memᴰ c cs) × Different cs
        → (not (among c cs) && all_different cs) ≡ true
    from rest d = go (among c cs) refl
      where
        go : (b : Bool) → among c cs ≡ b → (not b && all_different cs) ≡ true
        go false e = rest d.1
        go true e = absurd (d.0 ((among_member c cs).0 e))

-- the test for a good alphabet, as a statement
pub good_characters : (n : ℕ) (bytes : List ℕ) → (good_alphabet n bytes ≡ true)
    ↔ Characters n bytes
unfolding good_alphabet is_alphabet
good_characters n bytes = (to (chars bytes) refl, from)
  where
    to : (o : Option (List ℕ)) → chars bytes ≡ o → is_alphabet n o ≡ true → Characters n bytes
    to none f e = absurd (false≢true e)
    to (some cs) f e =
        let (a, b) = both (eqb (length cs) n) (all_different cs) e in
        (cs, f, eqb-true (length cs) n a, (different_true cs).0 b)

    from : Characters n bytes → is_alphabet n (chars bytes) ≡ true
    from s = let (cs, f, m, d) = s in rw (f, eq-eqb (length cs) n m) ((different_true cs).1 d)

-- a row that fits a reason fits another statement of it
same_reason : (r : Row) (number : ℕ) {A B : Type 0} → (A → B) → (B → A) → Fits r (number when A)
    → Fits r (number when B)
same_reason none number to from f = λ b. f (from b)
same_reason (some s) number to from f = (to f.0, f.1)

-- the test of row 3, where "the F bytes all inside the image" is said in two ways
three_fits : (h : Head) (alphabet : List ℕ) {Inside : Type 0}
    → (0 < h.f → length alphabet ≡ h.f → Inside) → (0 < h.f → Inside → length alphabet ≡ h.f)
    → Fits (row3 h alphabet) (3 when ((0 < h.f) × Inside × (¬ Characters h.n alphabet)))
unfolding row3
three_fits h alphabet {Inside} inside all =
    when_fits 3 0
    (ltb 0 h.f && eqb (length alphabet) h.f && not (good_alphabet h.n alphabet)) to from
  where
    to : (ltb 0 h.f && eqb (length alphabet) h.f && not (good_alphabet h.n alphabet))
        ≡ true → (0 < h.f) × Inside × (¬ Characters h.n alphabet)
    to e =
        let (ab, c) = both (ltb 0 h.f && eqb (length alphabet) h.f) _ e in
        let (a, b) = both (ltb 0 h.f) (eqb (length alphabet) h.f) ab in
        let above = ltb-true 0 h.f a in (
          above,
          inside above (eqb-true (length alphabet) h.f b),
          λ s. true≢false (sym ((good_characters h.n alphabet).1 s) ∙ not-true _ c),
        )

    from : (0 < h.f) × Inside × (¬ Characters h.n alphabet)
        → (ltb 0 h.f && eqb (length alphabet) h.f && not (good_alphabet h.n alphabet))
        ≡ true
    from s = go (good_alphabet h.n alphabet) refl
      where
        go : (b : Bool) → good_alphabet h.n alphabet ≡ b
            → (ltb 0 h.f && eqb (length alphabet) h.f && not b) ≡ true
        go false e =
            rw (lt-ltb 0 h.f s.0, eq-eqb (length alphabet) h.f (all s.0 s.1))
        go true e = absurd (s.2 ((good_characters h.n alphabet).0 e))

-- ---- 4

four_fits : (h : Head) (len : ℕ) → Fits (row4 h len) (4 when (len < used_len h))
unfolding row4
four_fits h len = when_fits 4 0 (ltb len (used_len h)) (ltb-true len (used_len h))
    (lt-ltb len (used_len h))

-- ---- 1 to 4

-- the F bytes are all inside the image exactly where as many are read
all_inside : (l : List ℕ) (f : ℕ) → 0 < f
    → (length (take f (drop fields_len l)) ≡ f) ↔ (fields_len + f ≤ length l)
all_inside l f b = (
  λ e. omega (arith, length-take f (drop fields_len l), length-drop fields_len l),
  λ c. length-take-le f (drop fields_len l) (omega (arith, length-drop fields_len l)),
)

pub opening_fits : (l : List ℕ) → AllFit (opening_rows_of l) (opening_reasons l)
unfolding opening_rows_of opening_rows opening_reasons alphabet_in
opening_fits l = (
  one_fits (length l),
  (
    two_fits (head_of l),
    (
      three_fits (head_of l) (alphabet_in (head_of l) l)
          (λ b e. omega (arith, (all_inside l (head_of l).f b).0 e))
          (λ b c. (all_inside l (head_of l).f b).1 (omega arith)),
      (four_fits (head_of l) (length l), tt),
    ),
  ),
)

pub make_fits : (image : List ℕ) (n a d : ℕ) (alphabet : List ℕ) (least most : ℕ)
    → AllFit (opening_rows (fresh_head n a d alphabet least most) alphabet (length image))
    (make_reasons image n a d alphabet least most)
unfolding opening_rows make_reasons fresh_head
make_fits image n a d alphabet least most =
    let h : Head = fresh_head n a d alphabet least most in (
      one_fits (length image),
      (
        two_fits h,
        (
          same_reason (row3 h alphabet) 3 (λ s. (s.0, s.2)) (λ s. (s.0, refl, s.1))
              (three_fits h alphabet {Inside = length alphabet ≡ h.f} (λ b e. e) (λ b e. e)),
          (four_fits h (length image), tt),
        ),
      ),
    )
