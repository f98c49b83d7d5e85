-- What the loops keep. In a search, `hit` is true exactly if the code is among those passed. In
-- the pass that judges, the codes so far are the characters so far, all different, and none is
-- above `top`. So a code above `top` is new, and any other is new exactly if it is not among them.
use mathlib.Core.Path.{◌≡◌, refl, sym, ap, ◌∙◌, subst}
use mathlib.Core.Logic.{◌≢◌}
use mathlib.Core.Bool.{Bool, true, false, ◌||◌, and-true, and-false, true≢false}
use mathlib.Core.Option.{Option, none, some}
use Prim.Native.Nat.{ℕ, suc, ◌+◌, ◌≤◌, ◌<◌}
use native.Mathlib.Numerals.{add-one}
use native.Mathlib.Omega.{arith}
use mathlib.Core.List.{List, [], ◌∷◌, ◌++◌}
use lib.Dec.{eqb}
use lib.ListN.{length, get_or, set, take, drop, length-set, length-append}
use lib.Seq.{split_at, take_all, take-suc, take-suc-set, length-take-le}
use borrow.Author.Tests.{eqb-false, ne_eqb, ltb-false}
use Rattle.utf8.specs.Table37.{char_len}
use Rattle.utf8.specs.Text.{char_at}
use Rattle.utf8.proofs.Texts.{prepend, chars_at, Passed, passed_none, passed_more, passed_all}
use Rattle.utf8.proofs.Texts.{passed_ill}
use Rattle.alphabet.specs.Letters.{among, all_different, is_alphabet, good_alphabet, or_empty}
use Rattle.alphabet.specs.Letters.{letters, letter_of}
use Rattle.alphabet.specs.declared.codes.Codes.{Codes}
use Rattle.alphabet.specs.Judged.{Judged, letters_in}
use Rattle.alphabet.proofs.Alphabets.{eqb_sym, among_snoc, different_snoc, repeated_append}
use Rattle.alphabet.proofs.Alphabets.{letter_below, letter_after, letter_here}

-- ---- searching

-- `hit` is true exactly if the code is among the first i
pub record Searching (codes : List ℕ) (code : ℕ) (hit : Bool) (i : ℕ) : Type 0 where
  pub told : hit ≡ among code (take i codes)

pub searching_none : (codes : List ℕ) (code : ℕ) → Searching codes code false 0
unfolding among
searching_none codes code = record { told = refl }

module _ {codes : List ℕ} {code : ℕ} {hit : Bool} {i : ℕ} (p : Searching codes code hit i) where
  pub searching_more : i < length codes
      → Searching codes code (hit || eqb (get_or codes i 0) code) (i + 1)
  searching_more h =
      record {
        told = rw (
          add-one i,
          take-suc codes i 0 h,
          among_snoc code (take i codes)
              (get_or codes i 0),
          eqb_sym code (get_or codes i 0),
          p.told,
        );
      }

  pub searching_all : length codes ≤ i → hit ≡ among code codes
  searching_all h = p.told ∙ rw (take_all i codes h)

-- a search that stops at the code
module _ {codes : List ℕ} {code i : ℕ} (p : Searching codes code false i) where
  pub searching_on : i < length codes → (get_or codes i 0 ≡ code → ⊥)
      → Searching codes code false (i + 1)
  searching_on h d = subst (λ (t : Bool). Searching codes code t (i + 1))
      (ne_eqb (get_or codes i 0) code d) (searching_more p h)

  pub searching_found : i < length codes → get_or codes i 0 ≡ code → i ≡ letter_of codes code
  searching_found h e =
      let rest : List ℕ = drop (suc i) codes in
      let split : codes ≡ take i codes ++ (code ∷ rest) =
      split_at codes i 0 h ∙ ap (λ (c : ℕ). take i codes ++ (c ∷ rest)) e in
      let after : letter_of codes code ≡ length (take i codes) + letter_of (code ∷ rest) code =
      ap (λ (l : List ℕ). letter_of l code) split
      ∙ letter_after (take i codes) (code ∷ rest) code (sym p.told) in
      omega (arith, after, letter_here code rest, length-take-le i codes (omega arith))

  pub searching_missed : length codes ≤ i → length codes ≤ letter_of codes code
  searching_missed h =
      ltb-false (letter_of codes code) (length codes)
      (letter_below codes code ∙ sym (searching_all p h))

neither : (a b : Bool) → (a || b) ≡ false → (a ≡ false) × (b ≡ false)
neither true b e = absurd (true≢false e)
neither false b e = (refl, e)

-- four codes at once, none of which is the one sought
pub searching_four : {codes : List ℕ} {code i : ℕ} → Searching codes code false i
    → i + 4 ≤ length codes
    → (((eqb (get_or codes i 0) code || eqb (get_or codes (i + 1) 0) code)
    || eqb (get_or codes (i + 2) 0) code) || eqb (get_or codes (i + 3) 0) code) ≡ false
    → Searching codes code false (i + 4)
searching_four {codes} {code} {i} p room e =
    let two : (i + 1) + 1 ≡ i + 2 = omega arith in
    let three : (i + 2) + 1 ≡ i + 3 = omega arith in
    let four : (i + 3) + 1 ≡ i + 4 = omega arith in
    let (abc, d) = neither _ _ e in
    let (ab, c) = neither _ _ abc in
    let (a, b) = neither _ _ ab in
    let p1 = searching_on p (omega arith) (eqb-false _ _ a) in
    let p2 = subst (Searching codes code false) two
    (searching_on p1 (omega arith) (eqb-false _ _ b)) in
    let p3 = subst (Searching codes code false) three
    (searching_on p2 (omega arith) (eqb-false _ _ c)) in
    subst (Searching codes code false) four (searching_on p3 (omega arith) (eqb-false _ _ d))

-- ---- judging

too_many : (n : ℕ) (cs : List ℕ) → n < length cs → (rest : Option (List ℕ))
    → is_alphabet n (prepend cs rest) ≡ false
unfolding is_alphabet
too_many n cs h none = refl
too_many n cs h (some ds) =
    rw (ne_eqb (length (cs ++ ds)) n (λ e. omega (arith, length-append cs ds)))

not_new : (n : ℕ) (cs : List ℕ) → all_different cs ≡ false → (rest : Option (List ℕ))
    → is_alphabet n (prepend cs rest) ≡ false
unfolding is_alphabet
not_new n cs e none = refl
not_new n cs e (some ds) = rw (repeated_append cs ds e) (and-false (eqb (length (cs ++ ds)) n))

-- what is judged so far: `count` codes, which are the characters of the bytes before `at`
pub record Judging (n : ℕ) (bytes codes : List ℕ) (count top at : ℕ) : Type 0 where
  pub room : n ≤ length codes
  pub counted : count ≤ n
  pub passed : Passed bytes (take count codes) at
  pub different : all_different (take count codes) ≡ true
  pub above : (c : ℕ) → top < c → among c (take count codes) ≡ false

pub judging_none : (n : ℕ) (bytes codes : List ℕ) → n ≤ length codes → Judging n bytes codes 0 0 0
unfolding among all_different
judging_none n bytes codes h =
    record {
      room = h;
      counted = omega arith;
      passed = passed_none bytes;
      different = refl;
      above = λ c l. refl;
    }

module _ {n : ℕ} {bytes codes : List ℕ} {count top at : ℕ} (p : Judging n bytes codes count top at)
  where
    long : length (take count codes) ≡ count
    long = length-take-le count codes (omega (arith, p.room, p.counted))

    -- one more character, which is new
    pub judging_more : {len code higher : ℕ} → count < n → len ≡ char_len bytes at → len ≢ 0
        → code ≡ char_at bytes at → among code (take count codes) ≡ false → top ≤ higher
        → code ≤ higher
        → Judging n bytes (set codes count code) (count + 1) higher (at + len)
    judging_more {len} {code} {higher} h e ne d new up down =
        let grown : take (count + 1) (set codes count code) ≡ take count codes ++ (code ∷ []) =
        rw (add-one count) (take-suc-set codes count code (omega (arith, p.room)))
        in
        record {
          room = simp length-set p.room;
          counted = omega arith;
          passed = rw grown (passed_more p.passed e ne d);
          different = rw (grown, different_snoc (take count codes) code, p.different, new);
          above = λ c l. rw (
            grown,
            among_snoc c (take count codes) code,
            p.above c (omega arith),
            ne_eqb c code (λ q. omega arith),
          );
        }

    -- the answer is false if the bytes are no alphabet
    refused : (r : Codes) → good_alphabet n bytes ≡ false → Judged n bytes false r
    refused r h =
        record {
          good = sym h;
          spelled = λ q. absurd (let z : ◌≡◌ {A = ℕ} 0 1 = cc in omega arith);
        }

    pub judging_ill : (r : Codes) → at < length bytes → char_len bytes at ≡ 0
        → Judged n bytes false r
    unfolding good_alphabet
    judging_ill r h e = refused r (rw (passed_ill p.passed h e))

    -- the bytes begin with the characters so far and the one at `at`, whatever follows
    begins : (r : Codes) → char_len bytes at ≢ 0
        → ((rest : Option (List ℕ))
        → is_alphabet n (prepend (take count codes ++ (char_at bytes at ∷ [])) rest) ≡ false)
        → Judged n bytes false r
    unfolding good_alphabet
    begins r h e =
        refused r (rw (passed_more p.passed refl h refl).before
        (e (chars_at bytes (at + char_len bytes at))))

    pub judging_many : (r : Codes) → char_len bytes at ≢ 0 → n ≤ count → Judged n bytes false r
    judging_many r h l =
        begins r h (too_many n (take count codes ++ (char_at bytes at ∷ []))
        (simp length-append (omega (arith, long))))

    pub judging_again : (r : Codes) → char_len bytes at ≢ 0
        → among (char_at bytes at) (take count codes) ≡ true → Judged n bytes false r
    judging_again r h e =
        begins r h
        (not_new n (take count codes ++ (char_at bytes at ∷ []))
        (rw (different_snoc (take count codes) (char_at bytes at), e)
        (and-false (all_different (take count codes)))))

    pub judging_all : (r : Codes) → letters_in r ≡ take count codes → length bytes ≤ at
        → Judged n bytes (eqb count n) r
    unfolding good_alphabet is_alphabet letters or_empty
    judging_all r q h =
        record {
          good = rw (passed_all p.passed h, long, p.different) (sym (and-true (eqb count n)));
          spelled = λ e. q ∙ rw (passed_all p.passed h) refl;
        }
