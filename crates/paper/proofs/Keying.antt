-- 9 and 10, for every call: what is known of a key that passes them, by letters, by text and for
-- next key, and which numbers they give. Each law follows the two rows by the laws of `Hearing`.
use Prim.Native.Nat.{ℕ, ◌≤◌}
use mathlib.Core.Path.{◌≡◌, refl, ap, ◌∙◌}
use mathlib.Core.Logic.{◌↔◌}
use mathlib.Core.Bool.{true, false, not}
use mathlib.Core.Option.{Option, none, some}
use mathlib.Core.List.{List, [], ◌∷◌}
use native.Mathlib.Omega.{arith}
use lib.Dec.{ltb}
use lib.ListN.{length}
use borrow.Author.Tests.{lt-ltb, le-ltb, ltb-true, not-false}
use Rattle.field.specs.Range.{between}
use Rattle.field.proofs.Range.{both}
use Rattle.trie.specs.Table.{LettersBelow}
use Rattle.head.specs.declared.Head.{Head}
use Rattle.alphabet.specs.Letters.{among, or_empty}
use Rattle.paper.specs.Hearing.{first}
use Rattle.paper.specs.Rows.{row9, row9next, all_below, row10, is_none, row10text}
use Rattle.paper.specs.Given.{Given, as_letters, as_text, meant_by}
use Rattle.paper.specs.Orders.{letters_rows, text_rows, key_rows_by, next_rows}
use Rattle.paper.specs.Granted.{Fit}
use Rattle.paper.proofs.Hearing.{untrue, was_false, first_nil, no_row, passed_row}
use Rattle.paper.proofs.Numbers.{Says, AllSay, end, ◌then◌, given_says}

-- 10 passes exactly where every letter is below N
pub below_letters : (n : ℕ) (k : List ℕ) → (all_below n k ≡ true) ↔ LettersBelow n k
unfolding all_below
below_letters n [] = (λ e. tt, λ s. refl)
below_letters n (x ∷ k) = (
  λ e. let u =
      both (ltb x n) (all_below n k) e in (ltb-true x n u.0, (below_letters n k).0 u.1),
  λ s. rw (lt-ltb x n s.0, (below_letters n k).1 s.1),
)

-- a key that is there is the one that `or_empty` gives
pub some_found : (found : Option (List ℕ)) → is_none found ≡ false → found ≡ some (or_empty found)
unfolding is_none or_empty
some_found none e = let z : ◌≡◌ {A = ℕ} 0 1 = cc in absurd (omega arith)
some_found (some k) e = refl

-- ---- a key that passes

pub letters_fit : (h : Head) (key : List ℕ) → first (letters_rows h key) ≡ none → Fit h key
unfolding letters_rows row9 row10
letters_fit h key e =
    let after9 = passed_row (row9 h key) (row10 h key ∷ []) e in
    let after10 = passed_row (row10 h key) [] after9.1 in
    record {
      allowed = not-false _ (was_false 9 0 _ after9.0);
      below = (below_letters h.n key).0 (not-false _ (was_false 10 0 _ after10.0));
    }

-- the proof does not ask which of the two rows comes first
pub text_fit : (h : Head) (named : Option (List ℕ)) → first (text_rows h named) ≡ none
    → (is_none named ≡ false) × (between (length (or_empty named)) h.min h.max ≡ true)
unfolding text_rows row10text row9
text_fit h named e =
    let one = passed_row _ _ e in
    let other = passed_row _ _ one.1 in
    let ten : row10text named ≡ none = cc in
    let nine : row9 h (or_empty named) ≡ none = cc in
    (was_false 10 0 _ ten, not-false _ (was_false 9 0 _ nine))

-- a key that is fit passes
pub fit_letters : {h : Head} {key : List ℕ} → Fit h key → first (letters_rows h key) ≡ none
unfolding letters_rows row9 row10
fit_letters {h} {key} f = no_row 9 0 _ (untrue f.allowed) ∙ no_row 10 0 _
    (untrue ((below_letters h.n key).1 f.below)) ∙ first_nil

pub fit_text : {h : Head} {key : List ℕ} → Fit h key → first (text_rows h (some key)) ≡ none
unfolding text_rows row10text is_none row9 or_empty
fit_text f = no_row 10 0 _ refl ∙ no_row 9 0 _ (untrue f.allowed) ∙ first_nil

-- ---- a key by letters or by text

-- where 9 and 10 pass, a key is meant
pub given_meant : (h : Head) (alphabet : List ℕ) (given : Given)
    → first (key_rows_by h alphabet given) ≡ none
    → meant_by alphabet given ≡ some (or_empty (meant_by alphabet given))
unfolding key_rows_by meant_by or_empty
given_meant h alphabet (as_letters key) e = refl
given_meant h alphabet (as_text text) e =
    let named = meant_by alphabet (as_text text) in some_found named (text_fit h named e).0

-- where the key that is meant is fit, 9 and 10 pass
pub fit_given : (h : Head) (alphabet : List ℕ) (given : Given) {key : List ℕ}
    → meant_by alphabet given ≡ some key → Fit h key
    → first (key_rows_by h alphabet given) ≡ none
unfolding key_rows_by meant_by
fit_given h alphabet (as_letters k) {key} e f = let same : k ≡ key = cc in fit_letters (rw same f)
fit_given h alphabet (as_text text) e f =
    ap (λ (named : Option (List ℕ)). first (text_rows h named)) e ∙ fit_text f

-- ---- the key given to next key: "For next key, 9 means only a key longer than max"
pub record Askable (h : Head) (key : List ℕ) : Type 0 where
  pub short : length key ≤ h.max
  pub below : LettersBelow h.n key

pub askable_passes : (h : Head) (key : List ℕ) → Askable h key → first (next_rows h key) ≡ none
unfolding next_rows row9next row10
askable_passes h key a =
    no_row 9 0 _ (le-ltb h.max (length key) a.short) ∙ no_row 10 0 _
    (untrue ((below_letters h.n key).1 a.below)) ∙ first_nil

-- ---- the numbers

abbrev pub key_numbers : List ℕ
key_numbers = 9 ∷ 10 ∷ []

nine_says : (h : Head) (key : List ℕ) → Says key_numbers (row9 h key)
unfolding row9 among
nine_says h key = given_says 9 0 (not (between (length key) h.min h.max)) refl

ten_says : (h : Head) (key : List ℕ) → Says key_numbers (row10 h key)
unfolding row10 among
ten_says h key = given_says 10 0 (not (all_below h.n key)) refl

letters_say : (h : Head) (key : List ℕ) → AllSay key_numbers (letters_rows h key)
unfolding letters_rows
letters_say h key = nine_says h key then ten_says h key then end

text_says : (h : Head) (named : Option (List ℕ)) → AllSay key_numbers (text_rows h named)
unfolding text_rows row10text among
text_says h named = let ten : Says key_numbers (row10text named) =
    given_says 10 0 (is_none named) refl in search (◌then◌, end, nine_says)

pub given_says_key : (h : Head) (alphabet : List ℕ) (given : Given)
    → AllSay key_numbers (key_rows_by h alphabet given)
unfolding key_rows_by
given_says_key h alphabet (as_letters key) = letters_say h key
given_says_key h alphabet (as_text text) = text_says h (meant_by alphabet (as_text text))

pub next_says : (h : Head) (key : List ℕ) → AllSay key_numbers (next_rows h key)
unfolding next_rows row9next among
next_says h key = given_says 9 0 (ltb h.max (length key)) refl then ten_says h key then end
