-- 9 and 10, by letters and by text: each row is given exactly where its reason applies. A letter
-- is N or more if the test over the key fails; a text names no key if it is not well-formed or if
-- one of its characters is not a letter of the alphabet.
use Prim.Native.Nat.{ℕ, suc, ◌+◌, ◌≤◌, ◌<◌}
use mathlib.Core.Path.{◌≡◌, refl, sym, ◌∙◌, ap}
use mathlib.Core.Logic.{◌↔◌, ◌≢◌, ◌⊎◌, inl, inr, ⊎_elim}
use mathlib.Core.Bool.{Bool, true, false, not, ◌||◌, cond, true≢false, false≢true, and-false}
use mathlib.Core.Bool.{or-false, or-true}
use mathlib.Core.Option.{Option, none, some, some-injective}
use mathlib.Core.List.Memᴰ
use mathlib.Core.List.{List, [], ◌∷◌, Memᴰ}
use native.Mathlib.Decide.{ℕ_discrete, dec_lt}
use native.Mathlib.Omega.{arith}
use lib.Dec.{ltb, eqb}
use lib.ListN.{length, drop, length-take}
use borrow.Author.Tests.{ltb-false, eqb-true, eq-eqb, le-ltb, not-true}
use Rattle.field.specs.Range.{between}
use Rattle.field.proofs.Range.{between_true, true_between}
use Rattle.utf8.specs.Table37.{char_len}
use Rattle.utf8.specs.Text.{char_at, chars}
use Rattle.utf8.proofs.Texts.{prepend, chars_at, chars_start, chars_ill, chars_more}
use Rattle.head.specs.declared.Head.{Head}
use Rattle.head.specs.Fields.{fields_len, head_of}
use Rattle.alphabet.specs.Letters.{among, letters, letter_of, with_letter, letters_of_chars}
use Rattle.alphabet.specs.Letters.{or_empty}
use Rattle.alphabet.specs.Letters.{key_of_chars, key_of_text}
use Rattle.alphabet.proofs.Alphabets.{letter_below, no_letters}
use Rattle.paper.specs.Rows.{row9, all_below, row10, is_none, row10text}
use Rattle.paper.specs.Given.{Given, as_letters, as_text, alphabet_in, meant_by, meant_in, key_in}
use Rattle.paper.specs.Orders.{letters_rows, text_rows, key_rows_by, key_rows}
use Rattle.reasons.specs.Reasons.{◌when◌, LengthOutside, LetterOutside, TextOutside}
use Rattle.reasons.specs.Reasons.{key_reasons}
use Rattle.paper.proofs.Hearing.{unfalse}
use Rattle.reasons.proofs.FirstReason.{Fits, AllFit, when_fits, NoPlace, NoPlaces}
use Rattle.reasons.proofs.FirstReason.{when_no_place}

-- ---- 9

pub outside : (x low high : ℕ) → (not (between x low high) ≡ true) ↔ ((x < low) ⊎ (high < x))
outside x low high = (λ e. to e (dec_lt x low) (dec_lt high x), from)
  where
    to : not (between x low high) ≡ true → Dec (x < low) → Dec (high < x)
        → (x < low) ⊎ (high < x)
    to e (yes b) _ = inl b
    to e (no _) (yes c) = inr c
    to e (no b) (no c) =
        absurd (true≢false (sym (true_between x low high (omega arith) (omega arith))
        ∙ not-true _ e))

    from : (x < low) ⊎ (high < x) → not (between x low high) ≡ true
    from o = go (between x low high) refl o
      where
        go : (b : Bool) → between x low high ≡ b → (x < low) ⊎ (high < x) → not b ≡ true
        go false e o = refl
        go true e o = let (a, b) = between_true x low high e in
            absurd (⊎_elim (λ c. omega arith) (λ c. omega arith) o)

nine_fits : (h : Head) (key : List ℕ) → Fits (row9 h key) (9 when LengthOutside h key)
unfolding row9
nine_fits h key =
    let w = outside (length key) h.min h.max in
    when_fits 9 0 (not (between (length key) h.min h.max)) w.0 w.1

-- ---- 10 for letters

some_letter : (n : ℕ) (key : List ℕ) → all_below n key ≡ false
    → (x : ℕ) × Memᴰ x key × (n ≤ x)
unfolding all_below
some_letter n [] e = absurd (true≢false e)
some_letter n (y ∷ key) e = go (ltb y n) refl (some_letter n key)
  where
    go : (b : Bool) → ltb y n ≡ b
        → (all_below n key ≡ false → (x : ℕ) × Memᴰ x key × (n ≤ x))
        → (x : ℕ) × Memᴰ x (y ∷ key) × (n ≤ x)
    go false f rest = (y, Memᴰ.head refl, ltb-false y n f)
    go true f rest = let (x, m, b) = rest (rw f at e) in (x, Memᴰ.tail m, b)

no_letter : (n : ℕ) (key : List ℕ) {x : ℕ} → Memᴰ x key → n ≤ x → all_below n key ≡ false
unfolding all_below
no_letter n [] m b = absurd (Memᴰ.not-nil m)
no_letter n (y ∷ key) m b =
    ⊎_elim (λ e. rw (le-ltb y n (omega arith)))
    (λ t. rw (no_letter n key t b) (and-false (ltb y n))) (Memᴰ.cases_cons m)

pub ten_fits : (h : Head) (key : List ℕ) → Fits (row10 h key) (10 when LetterOutside h key)
unfolding row10
ten_fits h key =
    when_fits 10 0 (not (all_below h.n key)) (λ e. some_letter h.n key (not-true _ e))
    (λ o. let (x, m, b) = o in unfalse (no_letter h.n key m b))

-- ---- 10 for text

-- the test for a character of an alphabet, as a statement
pub among_member : (c : ℕ) (cs : List ℕ) → (among c cs ≡ true) ↔ Memᴰ c cs
unfolding among
among_member c [] = (λ e. absurd (false≢true e), λ m. absurd (Memᴰ.not-nil m))
among_member c (d ∷ cs) = (to (among_member c cs).0, from (among_member c cs).1)
  where
    to : (among c cs ≡ true → Memᴰ c cs) → (eqb c d || among c cs) ≡ true
        → Memᴰ c (d ∷ cs)
    to rest e = go (eqb c d) refl
      where
        go : (b : Bool) → eqb c d ≡ b → Memᴰ c (d ∷ cs)
        go true f = Memᴰ.head (eqb-true c d f)
        go false f = Memᴰ.tail (rest (rw f at e))

    from : (Memᴰ c cs → among c cs ≡ true) → Memᴰ c (d ∷ cs)
        → (eqb c d || among c cs) ≡ true
    from rest m = ⊎_elim (λ e. rw (eq-eqb c d e)) (λ t. rw (rest t) (or-true (eqb c d)))
        (Memᴰ.cases_cons m)

-- characters name no key where a later one or the first is outside the alphabet
with_none : (n x : ℕ) (o : Option (List ℕ)) → is_none (with_letter n x o)
    ≡ (is_none o || not (ltb x n))
unfolding with_letter is_none
with_none n x none = refl
with_none n x (some xs) = go (ltb x n) refl
  where
    go : (b : Bool) → ltb x n ≡ b → is_none (cond (ltb x n) (some (x ∷ xs)) none) ≡ not (ltb x n)
    go true e = rw e
    go false e = rw e

module _ (alphabet : List ℕ) where
  one_none : (c : ℕ) (cs : List ℕ) → is_none (letters_of_chars alphabet (c ∷ cs))
      ≡ (is_none (letters_of_chars alphabet cs) || not (among c alphabet))
  unfolding letters_of_chars
  one_none c cs =
      with_none (length alphabet) (letter_of alphabet c) (letters_of_chars alphabet cs)
      ∙ ap (λ (b : Bool). is_none (letters_of_chars alphabet cs) || not b)
      (letter_below alphabet c)

  -- a character that is outside the alphabet
  abbrev Strange : List ℕ → Type 0
  Strange cs = (c : ℕ) × Memᴰ c cs × (¬ Memᴰ c alphabet)

  some_strange : (cs : List ℕ) → is_none (letters_of_chars alphabet cs) ≡ true → Strange cs
  unfolding letters_of_chars is_none
  some_strange [] e = absurd (false≢true e)
  some_strange (c ∷ cs) e =
      go (among c alphabet) refl (some_strange cs)
    where
      go : (b : Bool) → among c alphabet ≡ b
          → (is_none (letters_of_chars alphabet cs) ≡ true → Strange cs)
          → Strange (c ∷ cs)
      go false f rest = (
        c,
        Memᴰ.head refl,
        λ m. true≢false (sym ((among_member c alphabet).1 m) ∙ f),
      )
      go true f rest =
          let g : (is_none (letters_of_chars alphabet cs) || not (among c alphabet)) ≡ true =
          sym (one_none c cs) ∙ e in
          let (d, m, far) = rest (sym (or-false _) ∙ (rw f at g)) in
          (d, Memᴰ.tail m, far)

  strange_none : (cs : List ℕ) {c : ℕ} → Memᴰ c cs → ¬ Memᴰ c alphabet
      → is_none (letters_of_chars alphabet cs) ≡ true
  strange_none [] m far = absurd (Memᴰ.not-nil m)
  strange_none (d ∷ cs) {c} m far =
      one_none d cs ∙ ⊎_elim (λ e. here e) (λ t. rw (strange_none cs t far))
      (Memᴰ.cases_cons m)
    where
      here : c ≡ d → (is_none (letters_of_chars alphabet cs) || not (among d alphabet)) ≡ true
      here e = go (among d alphabet) refl
        where
          go : (b : Bool) → among d alphabet ≡ b
              → (is_none (letters_of_chars alphabet cs) || not (among d alphabet)) ≡ true
          go false f = rw f (or-true (is_none (letters_of_chars alphabet cs)))
          go true f = absurd (far (Memᴰ.cast e ((among_member d alphabet).0 f)))

-- the same by the characters of a text
some_outside : (alphabet text : List ℕ) (o : Option (List ℕ)) → chars text ≡ o
    → is_none (key_of_chars (letters alphabet) o) ≡ true
    → TextOutside alphabet text
unfolding key_of_chars
some_outside alphabet text none f e = inl f
some_outside alphabet text (some cs) f e =
    let (c, m, far) = some_strange (letters alphabet) cs e in inr (cs, f, c, m, far)

outside_none : (alphabet text : List ℕ) → TextOutside alphabet text
    → is_none (key_of_chars (letters alphabet) (chars text)) ≡ true
unfolding key_of_chars is_none
outside_none alphabet text (inl e) = rw e
outside_none alphabet text (inr s) =
    let (cs, e, c, m, far) = s in rw e (strange_none (letters alphabet) cs m far)

text_fits : (alphabet text : List ℕ)
    → Fits (row10text (meant_by alphabet (as_text text))) (10 when TextOutside alphabet text)
unfolding row10text meant_by key_of_text
text_fits alphabet text =
    when_fits 10 0 (is_none (key_of_text (letters alphabet) text))
    (some_outside alphabet text (chars text) refl) (outside_none alphabet text)

-- ---- what the two mean for a text

-- a text that is not empty has a character
not_empty : (c : ℕ) (o : Option (List ℕ)) → prepend (c ∷ []) o ≢ some []
not_empty c none e = let z : ◌≡◌ {A = ℕ} 0 1 = cc in omega arith
not_empty c (some ds) e = let z : ◌≡◌ {A = ℕ} 0 1 = cc in omega arith

some_character : (text : List ℕ) → 0 < length text → chars text ≢ some []
some_character text b e = go (ℕ_discrete (char_len text 0) 0)
  where
    go : Dec (char_len text 0 ≡ 0) → ⊥
    go (yes ill) =
        let f : none ≡ some [] = sym (chars_start text ∙ chars_ill text 0 b ill) ∙ e in
        let z : ◌≡◌ {A = ℕ} 0 1 = cc in
        omega arith
    go (no well) =
        not_empty (char_at text 0) (chars_at text (0 + char_len text 0))
        (sym (chars_start text ∙ chars_more text 0 b well) ∙ e)

-- "if F is 0, .. no text but the empty one names a key": 10 applies to every other text
pub outside_no_alphabet : (l text : List ℕ) → (head_of l).f ≡ 0 → 0 < length text
    → TextOutside (alphabet_in (head_of l) l) text
unfolding alphabet_in
outside_no_alphabet l text e b = go (chars text) refl
  where
    none_there : letters (alphabet_in (head_of l) l) ≡ []
    none_there =
        no_letters (alphabet_in (head_of l) l)
        (omega (arith, length-take (head_of l).f (drop fields_len l)))

    go : (o : Option (List ℕ)) → chars text ≡ o → TextOutside (alphabet_in (head_of l) l) text
    go none f = inl f
    go (some []) f = absurd (some_character text b f)
    go (some (c ∷ cs)) f =
        inr (c ∷ cs, f, c, Memᴰ.head refl, rw none_there (λ m. Memᴰ.not-nil m))

-- one letter more
with_length : (n x m : ℕ) (o : Option (List ℕ)) {k : List ℕ}
    → ((j : List ℕ) → o ≡ some j → length j ≡ m)
    → with_letter n x o ≡ some k → length k ≡ suc m
unfolding with_letter
with_length n x m none rest e = let z : ◌≡◌ {A = ℕ} 0 1 = cc in absurd (omega arith)
with_length n x m (some xs) {k} rest e = go (ltb x n) refl
  where
    go : (b : Bool) → ltb x n ≡ b → length k ≡ suc m
    go true b =
        let f : some (x ∷ xs) ≡ some k = rw b at e in
        sym (ap length (some-injective (x ∷ xs) k f)) ∙ ap suc (rest xs refl)
    go false b =
        let f : none ≡ some k = rw b at e in let z : ◌≡◌ {A = ℕ} 0 1 = cc in absurd (omega arith)

spelled_length : (alphabet cs : List ℕ) {k : List ℕ} → letters_of_chars alphabet cs ≡ some k
    → length k ≡ length cs
unfolding letters_of_chars
spelled_length alphabet [] e = ap length (sym (some-injective [] _ e))
spelled_length alphabet (c ∷ cs) e =
    with_length (length alphabet) (letter_of alphabet c) (length cs) (letters_of_chars alphabet cs)
    (λ j. spelled_length alphabet cs) e

-- the length of the key that a text means is the number of its characters
pub meant_length : (l text cs : List ℕ) {k : List ℕ} → chars text ≡ some cs
    → meant_in l (as_text text) ≡ some k
    → length k ≡ length cs
unfolding meant_in meant_by key_of_text key_of_chars
meant_length l text cs e f =
    spelled_length (letters (alphabet_in (head_of l) l)) cs
    (sym (ap (key_of_chars (letters (alphabet_in (head_of l) l))) e) ∙ f)

-- ---- 9 and 10, by letters or by text

pub key_fits : (l : List ℕ) (given : Given) → AllFit (key_rows l given) (key_reasons l given)
unfolding key_rows key_rows_by letters_rows text_rows key_reasons key_in meant_in
key_fits l (as_letters key) = (nine_fits (head_of l) key, (ten_fits (head_of l) key, tt))
key_fits l (as_text text) = (
  text_fits (alphabet_in (head_of l) l) text,
  (nine_fits (head_of l) (key_in l (as_text text)), tt),
)

-- ---- 9 to 13 name no place

nine_no_place : (h : Head) (key : List ℕ) → NoPlace (row9 h key)
unfolding row9
nine_no_place h key = when_no_place 9 (not (between (length key) h.min h.max))

pub key_no_places : (l : List ℕ) (given : Given) → NoPlaces (key_rows l given)
unfolding key_rows key_rows_by letters_rows text_rows row10 row10text
key_no_places l (as_letters key) = (
  nine_no_place (head_of l) key,
  (when_no_place 10 (not (all_below (head_of l).n key)), tt),
)
key_no_places l (as_text text) = (
  when_no_place 10 (is_none (meant_by (alphabet_in (head_of l) l) (as_text text))),
  (nine_no_place (head_of l) (or_empty (meant_by (alphabet_in (head_of l) l) (as_text text))), tt),
)
