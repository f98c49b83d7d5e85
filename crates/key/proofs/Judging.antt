-- 9 and 10, row by row, for a key in hand. A key whose length is allowed has at most max
-- letters, and max is at most 64, so the key is held whole. A key that passes is ready for a
-- walk: its letters are those of the array, and all are below N.
use Prim.Native.Nat.{ℕ, ◌≤◌}
use mathlib.Core.Path.{◌≡◌, refl, sym, ◌∙◌, ap}
use mathlib.Core.Bool.{Bool, true, false, not, ◌&&◌}
use mathlib.Core.Option.{Option, none, some}
use mathlib.Core.List.{List, [], ◌∷◌}
use native.Mathlib.Omega.{arith}
use lib.Dec.{ltb}
use lib.ListN.{length}
use borrow.Author.Tests.{ltb-false, not-false}
use Rattle.std.specs.Prelude.{Some, None}
use Rattle.std.specs.List.{list_all}
use Rattle.field.specs.Range.{between}
use Rattle.field.proofs.Range.{between_true}
use Rattle.head.specs.declared.Head.{Head}
use Rattle.head.specs.Fields.{permitted, most_letters}
use Rattle.head.proofs.Permitted.{bounds}
use Rattle.trie.specs.Table.{LettersBelow}
use Rattle.trie.proofs.LettersBelow.{letters_more}
use Rattle.alphabet.specs.Letters.{or_empty, key_of_text}
use Rattle.paper.specs.Hearing.{Row, row_when, first}
use Rattle.paper.specs.Answers.{number_at}
use Rattle.paper.specs.Rows.{row9, row9next, row10, row10text, all_below, is_none}
use Rattle.paper.specs.Orders.{letters_rows, next_rows, text_rows}
use Rattle.paper.proofs.Hearing.{was_false, yes_row, no_row, passed_row}
use Rattle.paper.proofs.Keying.{below_letters, letters_fit, text_fit, some_found}
use Rattle.paper.proofs.Named.{named_letters}
use Rattle.key.specs.declared.Key.{Key}
use Rattle.key.specs.Hand.{in_hand, Holds, hand_of, letters_of, Ready}
use Rattle.key.proofs.Hand.{hand_holds}

-- the letters of a key that is held whole are those of the array
pub held : {hand : Key} {k : List ℕ} → Holds hand k → hand.len ≤ most_letters → letters_of hand ≡ k
held {hand} {k} o h = rw o.len (o.letters (rw o.len at h))

-- a key whose length is allowed is held whole
pub short : (h : Head) {len : ℕ} → permitted h ≡ true → between len h.min h.max ≡ true
    → len ≤ most_letters
short h {len} p b =
    let m = bounds h p in let u = between_true len h.min h.max b in omega arith

-- 10, by the letters of a key that is held whole
pub ten_by : (h : Head) {hand : Key} {k : List ℕ} {b : Bool} → Holds hand k
    → hand.len ≤ most_letters → all_below h.n (letters_of hand) ≡ b
    → row10 h k ≡ row_when 10 0 (not b)
unfolding row10
ten_by h o l e = ap (λ (t : Bool). row_when 10 0 (not t)) (rw (held o l) at e)

-- ---- 9 by a test of the length, then 10, for a key by its letters

pub alone : (r : Row) → first (r ∷ []) ≡ r
unfolding first
alone none = refl
alone (some s) = refl

-- the test of 9
abbrev pub outside : Head → ℕ → Bool
outside h len = not (between len h.min h.max)

-- the test of 9 for next key
abbrev pub longer : Head → ℕ → Bool
longer h len = ltb h.max len

module _ (h : Head) (test : ℕ → Bool) {hand : Key} {k : List ℕ} (o : Holds hand k) where
  pub nine_given : test hand.len ≡ true → first (row_when 9 0 (test (length k)) ∷ row10 h k ∷ [])
      ≡ some (number_at 9 0)
  nine_given e = yes_row 9 0 _ (sym (ap test o.len) ∙ e)

  pub ten_decides : test hand.len ≡ false
      → first (row_when 9 0 (test (length k)) ∷ row10 h k ∷ []) ≡ row10 h k
  ten_decides e = no_row 9 0 _ (sym (ap test o.len) ∙ e) ∙ alone (row10 h k)

-- ---- 10, then 9, for a key by its text

-- a text that names no key
pub text_10 : (h : Head) (named : Option (List ℕ)) → hand_of named ≡ None
    → first (text_rows h named) ≡ some (number_at 10 0)
unfolding hand_of text_rows row10text is_none
text_10 h none e = yes_row 10 0 _ refl
text_10 h (some k) e = cc

-- a text that names a key: 9 by the key's length
pub text_by : (h : Head) (named : Option (List ℕ)) {hand : Key} → hand_of named ≡ Some hand
    → {b : Bool} → between hand.len h.min h.max ≡ b
    → first (text_rows h named) ≡ row_when 9 0 (not b)
unfolding hand_of in_hand text_rows row10text is_none row9 or_empty
text_by h none e b = cc
text_by h (some k) {hand} e b =
    let same : in_hand k ≡ hand = cc in
    no_row 10 0 _ refl ∙ alone _
    ∙ ap (λ (t : Bool). row_when 9 0 (not t))
    (ap (λ (g : Key). between g.len h.min h.max) same ∙ b)

-- ---- the letters of a key

pub below_is : (n : ℕ) (k : List ℕ) → list_all (λ x. ltb x n) k ≡ all_below n k
unfolding all_below
below_is n [] = refl
below_is n (x ∷ k) = ap (λ (t : Bool). ltb x n && t) (below_is n k)

-- ---- what is known of a key that has passed 9 and 10

pub ready : (h : Head) {hand : Key} {k : List ℕ} → Holds hand k → length k ≤ most_letters
    → LettersBelow h.n k
    → Ready h hand × (letters_of hand ≡ k)
ready h {hand} {k} o s l =
    let fits : hand.len ≤ most_letters = rw o.len s in
    let e = held o fits in
    (record { short = fits; letters = rw e l }, e)

-- where neither 9 nor 10 is given for letters
neither : (h : Head) (k : List ℕ) {test : Bool} → first (row_when 9 0 test ∷ row10 h k ∷ []) ≡ none
    → (test ≡ false) × LettersBelow h.n k
unfolding row10
neither h k {test} e =
    let u = passed_row _ _ e in
    let v = passed_row _ _ u.1 in
    (was_false 9 0 test u.0, (below_letters h.n k).0 (not-false _ (was_false 10 0 _ v.0)))

pub letters_ready : (h : Head) {hand : Key} {k : List ℕ} → permitted h ≡ true → Holds hand k
    → first (letters_rows h k) ≡ none
    → Ready h hand × (letters_of hand ≡ k)
letters_ready h {k = k} p o e =
    let f = letters_fit h k e in ready h o (short h p f.allowed) f.below

pub next_ready : (h : Head) {hand : Key} {k : List ℕ} → permitted h ≡ true → Holds hand k
    → first (next_rows h k) ≡ none
    → Ready h hand × (letters_of hand ≡ k) × (hand.len ≤ h.max)
unfolding next_rows row9next
next_ready h {hand} {k} p o e =
    let u = neither h k e in
    let most : length k ≤ h.max = ltb-false _ _ u.0 in
    let r = ready h o (omega (arith, bounds h p)) u.1 in
    (r.0, r.1, rw o.len most)

-- the same for a text, whose letters are those of an alphabet of at most N letters
pub text_ready : (h : Head) {hand : Key} (alphabet text : List ℕ) {named : Option (List ℕ)}
    → permitted h ≡ true → Some hand ≡ hand_of named
    → named ≡ key_of_text alphabet text → length alphabet ≤ h.n → first (text_rows h named) ≡ none
    → Ready h hand × (named ≡ some (letters_of hand))
unfolding hand_of
text_ready h {hand} alphabet text {named} p e spelt few passed =
    let t = text_fit h named passed in
    let is = some_found named t.0 in
    let kept : Some hand ≡ Some (in_hand (or_empty named)) = e ∙ ap hand_of is in
    let same : hand ≡ in_hand (or_empty named) = cc in
    let among = named_letters alphabet text (sym spelt ∙ is) in
    let o : Holds hand (or_empty named) = rw same (hand_holds (or_empty named)) in
    let r = ready h o (short h p t.1) (letters_more _ _ (or_empty named) few among) in
    (r.0, is ∙ ap some (sym r.1))
