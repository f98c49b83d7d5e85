-- Demand 2, "A lookup that 01 doesn't refuse answers what TRIEFF's walk answers", by letters and
-- by text. Where no link on the key's path is bad, each is at most G: there the table has what
-- 002 reads, and an empty link ends both walks with 0. A text that names a key names the one
-- that 002 makes of it, since the alphabet of an opened image has N letters or none.
use Prim.Native.Nat.{ℕ, zero, suc, ◌+◌, ◌*◌, ◌≤◌, ◌<◌}
use mathlib.Core.Path.{◌≡◌, refl, sym, ◌∙◌, ap}
use mathlib.Core.Bool.{Bool, true, false, cond}
use mathlib.Core.Option.{Option, none, some}
use mathlib.Core.List.{List, [], ◌∷◌, ◌++◌, map}
use native.Mathlib.Decide.{ℕ_discrete}
use native.Mathlib.Omega.{arith}
use lib.Dec.{ltb}
use lib.ListN.{length}
use borrow.Author.Tests.{le-ltb, lt-leb}
use Rattle.field.specs.Field.{field_at}
use Rattle.field.proofs.Range.{between_true}
use Rattle.utf8.specs.Text.{chars}
use Rattle.trie.specs.Table.{LettersBelow, follow, descend, value_at, answer, fault}
use Rattle.trie.proofs.LettersBelow.{letters_more}
use Rattle.trie.proofs.Walk.{follow_empty, follow_on}
use Rattle.trie.proofs.Faults.{fault_none, value_nil, value_empty, value_on}
use Rattle.head.specs.declared.Head.{Head}
use Rattle.head.specs.Fields.{head_of, node_width, node_place}
use Rattle.alphabet.specs.Letters.{among, letters, or_empty, letter_of, with_letter}
use Rattle.alphabet.specs.Letters.{letters_of_chars}
use Rattle.alphabet.specs.Letters.{key_of_chars, key_of_text}
use Rattle.alphabet.proofs.Alphabets.{good_length, no_letters}
use Rattle.node.specs.Image.{link_place, data_place, table_of}
use Rattle.node.proofs.Tables.{child_in, value_in}
use Rattle.paper.specs.Hearing.{Row, Outcome, first, done_numbers}
use Rattle.paper.specs.Rows.{bad_link, is_none, row6_at, row6path}
use Rattle.paper.specs.Given.{Given, as_letters, as_text, alphabet_in, meant_by, meant_in, key_in}
use Rattle.paper.specs.Orders.{opening_rows_of, key_rows_by, key_rows, look_up_order}
use Rattle.paper.specs.Calls.{table_in, look_up_of}
use Rattle.paper.specs.Walk002.{data_read, link_read, unless_empty, query_from, query002}
use Rattle.paper.specs.Walk002.{index_of, chars_query, query_given, query_made, query_of002}
use Rattle.paper.specs.Granted.{Fit}
use Rattle.paper.proofs.Hearing.{passed_row, passed_parts, heard_done}
use Rattle.paper.proofs.Numbers.{Says, end, ◌then◌, at_says, parts_say, first_says}
use Rattle.paper.proofs.Numbers.{none_heard}
use Rattle.paper.proofs.Opening.{Passed, passed, opening_says, unspoilt_good}
use Rattle.paper.proofs.Opening.{alphabet_whole}
use Rattle.paper.proofs.Keying.{some_found, letters_fit, text_fit, given_says_key}
use Rattle.paper.proofs.Named.{named_letters}
use Rattle.paper.proofs.Linking.{not_bad}

-- ---- 002's reads and the table

-- 002's test for an empty link is the walk's
unless : (c : ℕ) (on : ℕ → ℕ) → unless_empty c on ≡ follow c 0 on
unfolding unless_empty follow
unless zero on = refl
unless (suc c) on = refl

module _ (h : Head) (l : List ℕ) where
  data_read_lem : (q : ℕ) → q ≤ h.g → data_read h l q ≡ (table_of h l).value q
  unfolding data_read data_place node_place node_width
  data_read_lem q b =
      let same : q * (h.n * h.a + h.d) + h.f + 28 + h.n * h.a ≡ data_place h q =
      omega arith in
      ap (λ (at : ℕ). field_at l at h.d) same ∙ sym (value_in h l q b)

  pub link_read_lem : (q x : ℕ) → q ≤ h.g → x < h.n → link_read h l q x ≡ (table_of h l).child q x
  unfolding link_read link_place node_place node_width
  link_read_lem q x b c =
      let same : q * (h.n * h.a + h.d) + h.f + 28 + x * h.a ≡ link_place h q x = omega arith in
      ap (λ (at : ℕ). field_at l at h.a) same ∙ sym (child_in h l q x b c)

  -- one letter of 002's walk, from a node up to G
  queried : (q x : ℕ) (xs : List ℕ) → q ≤ h.g → x < h.n
      → query_from h l q (x ∷ xs) ≡ follow ((table_of h l).child q x) 0 (λ c. query_from h l c xs)
  unfolding query_from
  queried q x xs b c = rw (lt-leb h.n x c, link_read_lem q x b c)
      (unless ((table_of h l).child q x) (λ c. query_from h l c xs))

  -- the two walks answer the same from any node up to G
  abbrev Agree : ℕ → List ℕ → Type 0
  Agree q k =
      q ≤ h.g → LettersBelow h.n k → fault (bad_link h.g) (table_of h l) q k ≡ none
      → value_at (table_of h l) (descend (table_of h l) q k) ≡ query_from h l q k

  agree_nil : (q : ℕ) → Agree q []
  unfolding query_from
  agree_nil q b s f = value_nil (table_of h l) q ∙ sym (data_read_lem q b)

  agree_more : (q x : ℕ) (xs : List ℕ) → ((c : ℕ) → Agree c xs) → Agree q (x ∷ xs)
  agree_more q x xs next b s f = go (ℕ_discrete c 0) ∙ sym (queried q x xs b s.0)
    where
      c : ℕ
      c = (table_of h l).child q x

      go : Dec (c ≡ 0) → value_at (table_of h l) (descend (table_of h l) q (x ∷ xs))
          ≡ follow c 0 (λ p. query_from h l p xs)
      go (yes e) =
          value_empty (table_of h l) q x xs e ∙ sym (follow_empty c 0 (λ p. query_from h l p xs) e)
      go (no e) =
          let on = fault_none (bad_link h.g) (table_of h l) q x xs refl e f in
          value_on (table_of h l) q x xs refl e
          ∙ next c ((not_bad h.g c).0 on.0) s.1 on.1
          ∙ sym (follow_on c 0 (λ p. query_from h l p xs) e)

  agree : (q : ℕ) (k : List ℕ) → Agree q k
  agree q [] = agree_nil q
  agree q (x ∷ xs) = agree_more q x xs (λ c. agree c xs)

-- ---- the key that a text names

-- where characters name a key, its letters are what 002 finds for them
abbrev Spells : Head → List ℕ → List ℕ → Option (List ℕ) → Type 0
Spells h alphabet cs none = Unit {0}
Spells h alphabet cs (some k) = map (index_of h alphabet) cs ≡ k

module _ (h : Head) (alphabet : List ℕ) where
  index_in : (c : ℕ) → ltb (letter_of alphabet c) (length alphabet) ≡ true → index_of h alphabet c
      ≡ letter_of alphabet c
  unfolding index_of
  index_in c e = rw e

  spells_more : (c : ℕ) (cs : List ℕ) (o : Option (List ℕ)) → Spells h alphabet cs o
      → Spells h alphabet (c ∷ cs) (with_letter (length alphabet) (letter_of alphabet c) o)
  unfolding with_letter
  spells_more c cs none s = tt
  spells_more c cs (some k) s = go (ltb x (length alphabet)) refl
    where
      x : ℕ
      x = letter_of alphabet c

      go : (t : Bool) → ltb x (length alphabet) ≡ t → Spells h alphabet (c ∷ cs)
          (cond (ltb x (length alphabet)) (some (x ∷ k)) none)
      go true e = rw e (rw (index_in c e, s))
      go false e = rw e tt

  spells : (cs : List ℕ) → Spells h alphabet cs (letters_of_chars alphabet cs)
  unfolding letters_of_chars
  spells [] = refl
  spells (c ∷ cs) = spells_more c cs (letters_of_chars alphabet cs) (spells cs)

-- the letters of the image's alphabet
abbrev allowed_in : List ℕ → List ℕ
allowed_in l = letters (alphabet_in (head_of l) l)

-- an opened image has at most N of them: N, or none where F is 0
pub alphabet_most : (l : List ℕ) → first (opening_rows_of l) ≡ none → length (allowed_in l)
    ≤ (head_of l).n
unfolding opening_rows_of
alphabet_most l e = go (ℕ_discrete (head_of l).f 0)
  where
    p : Passed (head_of l) (alphabet_in (head_of l) l) (length l)
    p = passed (head_of l) (alphabet_in (head_of l) l) (length l) e

    whole : length (alphabet_in (head_of l) l) ≡ (head_of l).f
    whole = alphabet_whole (head_of l) l p.room

    go : Dec ((head_of l).f ≡ 0) → length (allowed_in l) ≤ (head_of l).n
    go (yes z) = rw (no_letters (alphabet_in (head_of l) l) (whole ∙ z)) (omega arith)
    go (no z) =
        omega (
          arith,
          good_length (head_of l).n (alphabet_in (head_of l) l)
              (unspoilt_good (head_of l) (alphabet_in (head_of l) l) (length l) p.unspoilt
              (omega arith) whole),
        )

-- where a text names a key, 002 makes the same key of it
named_002 : (l : List ℕ) (cs : Option (List ℕ)) → is_none (key_of_chars (allowed_in l) cs) ≡ false
    → chars_query l cs ≡ some (or_empty (key_of_chars (allowed_in l) cs))
unfolding key_of_chars chars_query is_none or_empty
named_002 l none e = let z : ◌≡◌ {A = ℕ} 0 1 = cc in absurd (omega arith)
named_002 l (some cs) e =
    go (letters_of_chars (allowed_in l) cs) (spells (head_of l) (allowed_in l) cs) e
  where
    go : (named : Option (List ℕ)) → Spells (head_of l) (allowed_in l) cs named → is_none named
        ≡ false
        → chars_query l (some cs) ≡ some (or_empty named)
    go none s f = let z : ◌≡◌ {A = ℕ} 0 1 = cc in absurd (omega arith)
    go (some k) s f = ap (λ (j : List ℕ). some j) s

-- where 1 to 4, 9 and 10 pass, the key that is meant is fit
pub given_fit : (l : List ℕ) (given : Given) → first (opening_rows_of l) ≡ none
    → first (key_rows l given) ≡ none → Fit (head_of l) (key_in l given)
unfolding key_rows key_rows_by key_in meant_in meant_by or_empty
given_fit l (as_letters key) opened passes = letters_fit (head_of l) key passes
given_fit l (as_text text) opened passes =
    let named : Option (List ℕ) = key_of_text (allowed_in l) text in
    let t = text_fit (head_of l) named passes in
    record {
      allowed = t.1;
      below = letters_more _ _ (or_empty named) (alphabet_most l opened)
          (named_letters (allowed_in l) text (some_found named t.0));
    }

-- ---- a lookup that is not refused

-- the numbers of its refusals
abbrev pub look_up_numbers : List ℕ
look_up_numbers = 1 ∷ 2 ∷ 3 ∷ 4 ∷ 9 ∷ 10 ∷ 6 ∷ []

-- what is known of a lookup that is not refused
pub record Unrefused (l : List ℕ) (given : Given) : Type 0 where
  pub none_given : first (look_up_order l given) ≡ none
  pub opened : first (opening_rows_of l) ≡ none
  pub key_passed : first (key_rows l given) ≡ none
  pub path : fault (bad_link (head_of l).g) (table_in l) 0 (key_in l given) ≡ none

no_fault : (at : Option ℕ) → row6_at at ≡ none → at ≡ none
unfolding row6_at
no_fault none e = refl
no_fault (some q) e = let z : ◌≡◌ {A = ℕ} 0 1 = cc in absurd (omega arith)

-- where 9 and 10 pass, 002's query is the key that is meant
pub meant_002 : (l : List ℕ) (given : Given) → first (key_rows l given) ≡ none
    → query_given l given
    ≡ some (key_in l given)
unfolding key_rows key_rows_by key_in meant_in meant_by or_empty query_given key_of_text
meant_002 l (as_letters key) e = refl
meant_002 l (as_text text) e =
    named_002 l (chars text) (text_fit (head_of l) (key_of_text (allowed_in l) text) e).0

module _ (l : List ℕ) (given : Given) where
  pub looking_says : Says look_up_numbers (first (look_up_order l given))
  unfolding look_up_order key_rows opening_rows_of row6path among
  looking_says =
      let path =
      at_says {numbers = 6 ∷ []}
      (fault (bad_link (head_of l).g) (table_of (head_of l) l) 0 (key_in l given)) refl in
      let keyed = given_says_key (head_of l) (alphabet_in (head_of l) l) given in
      first_says (parts_say (opening_says (head_of l) (alphabet_in (head_of l) l) (length l))
      (parts_say keyed (path then end)))

  pub unrefused : (look_up_of l given).numbers.number ≡ 0 → Unrefused l given
  unfolding look_up_of look_up_order row6path table_in among
  unrefused e =
      let passes : first (look_up_order l given) ≡ none = none_heard [] _ looking_says refl e in
      let last : List Row = row6path (head_of l) (table_of (head_of l) l) (key_in l given) ∷ [] in
      let after4 = passed_parts (opening_rows_of l) (key_rows l given ++ last) passes in
      let after10 = passed_parts (key_rows l given) last after4.1 in
      record {
        none_given = passes;
        opened = after4.0;
        key_passed = after10.0;
        path = no_fault _ (passed_row _ [] after10.1).0;
      }

  -- the core: once all rows have passed, our walk answers what 002's walk answers
  answered : Unrefused l given → (look_up_of l given).numbers.value ≡ query002 l (key_in l given)
  unfolding look_up_of query002 answer table_in done_numbers
  answered o =
      let key : List ℕ = key_in l given in
      let k = given_fit l given o.opened o.key_passed in
      let b = between_true (length key) (head_of l).min (head_of l).max k.allowed in
      ap (λ (r : Outcome). r.numbers.value)
      (heard_done (first (look_up_order l given)) [] _ o.none_given)
      ∙ agree (head_of l) l 0 key (omega arith) k.below o.path
      ∙ sym (rw (
        le-ltb (length key) (head_of l).min b.0,
        le-ltb (head_of l).max (length key)
            b.1,
      ))

  -- a lookup whose number is 0 answers the value that 002's walk answers
  pub looks_up_002 : (look_up_of l given).numbers.number ≡ 0 → (look_up_of l given).numbers.value
      ≡ query_of002 l given
  unfolding query_of002 query_made
  looks_up_002 e =
      let o = unrefused e in
      answered o ∙ sym (ap (query_made l) (meant_002 l given o.key_passed))
