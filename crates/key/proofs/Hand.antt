-- The key in hand of a list of letters holds the list: the list is the front of the array where
-- it fits, and zeros fill the rest. Each law follows the array from its front.
use Prim.Native.Nat.{ℕ, zero, suc, ◌≤◌, ◌<◌, min}
use mathlib.Core.Path.{◌≡◌, refl, sym, ◌∙◌, ap}
use mathlib.Core.List.{List, [], ◌∷◌, ◌++◌}
use native.Mathlib.Nat.{le_of_suc-le-suc, not-suc-le-zero}
use native.Mathlib.Omega.{arith}
use lib.ListN.{length, get_or, take, drop, set, replicate}
use lib.Seq.{length-take-le, drop-cons, get_or-take}
use Rattle.trie.specs.Table.{LettersBelow}
use Rattle.trie.proofs.LettersBelow.{letters_at}
use Rattle.head.specs.Fields.{most_letters}
use Rattle.key.specs.declared.Key.{Key}
use Rattle.key.specs.Hand.{padded, in_hand, Holds, letters_of}

pub take_padded : (w : ℕ) (k : List ℕ) → length k ≤ w → take (length k) (padded w k) ≡ k
unfolding padded
take_padded zero [] h = refl
take_padded zero (x ∷ k) h = absurd (not-suc-le-zero h)
take_padded (suc w) [] h = refl
take_padded (suc w) (x ∷ k) h = ap (λ (l : List ℕ). x ∷ l) (take_padded w k (le_of_suc-le-suc h))

pub padded_nil : (w : ℕ) → padded w [] ≡ replicate w 0
unfolding padded
padded_nil zero = refl
padded_nil (suc w) = ap (λ (l : List ℕ). 0 ∷ l) (padded_nil w)

-- one letter more, where there is room for it
pub padded_more : (w : ℕ) (k : List ℕ) (x : ℕ) → length k < w → set (padded w k) (length k) x
    ≡ padded w (k ++ (x ∷ []))
unfolding padded
padded_more zero k x h = absurd (not-suc-le-zero h)
padded_more (suc w) [] x h = refl
padded_more (suc w) (y ∷ k) x h =
    ap (λ (l : List ℕ). y ∷ l) (padded_more w k x (le_of_suc-le-suc h))

-- one letter more, where there is no room for it
pub padded_full : (w : ℕ) (k : List ℕ) (x : ℕ) → w ≤ length k
    → padded w k ≡ padded w (k ++ (x ∷ []))
unfolding padded
padded_full zero k x h = refl
padded_full (suc w) [] x h = absurd (not-suc-le-zero h)
padded_full (suc w) (y ∷ k) x h =
    ap (λ (l : List ℕ). y ∷ l) (padded_full w k x (le_of_suc-le-suc h))

-- the letters that are copied into an array of zeros: all of them, or as many as it can hold
pub copied : (w : ℕ) (k : List ℕ) (m : ℕ) → m ≡ min (length k) w
    → take m k ++ drop m (replicate w 0) ≡ padded w k
unfolding padded
copied zero k zero e = refl
copied zero k (suc m) e = absurd (omega arith)
copied (suc w) [] zero e = sym (padded_nil (suc w))
copied (suc w) [] (suc m) e = absurd (omega arith)
copied (suc w) (x ∷ k) zero e = absurd (omega arith)
copied (suc w) (x ∷ k) (suc m) e =
    ap (λ (l : List ℕ). x ∷ l) (copied w k m (omega arith))

pub hand_holds : (k : List ℕ) → Holds (in_hand k) k
unfolding in_hand
hand_holds k = record { len = refl; letters = λ h. take_padded most_letters k h }

-- ---- the letters of a key in hand that is held whole

module _ (hand : Key) (w : length hand.letters ≡ most_letters) (s : hand.len ≤ most_letters)
  where
    pub letters_count : length (letters_of hand) ≡ hand.len
    letters_count = length-take-le hand.len hand.letters (omega arith)

    -- the letters from the i-th on
    pub letters_from : (i : ℕ) → i < hand.len → drop i (letters_of hand) ≡ get_or hand.letters i 0
        ∷ drop (suc i) (letters_of hand)
    letters_from i h =
        drop-cons (letters_of hand) i 0 (omega (arith, letters_count))
        ∙ ap (λ (x : ℕ). x ∷ drop (suc i) (letters_of hand))
        (get_or-take hand.len hand.letters i 0 h)

    pub letter_below : (n i : ℕ) → LettersBelow n (letters_of hand) → i < hand.len
        → get_or hand.letters i 0 < n
    letter_below n i l h =
        rw (get_or-take hand.len hand.letters i 0 h) at
        (letters_at n (letters_of hand) l i (omega (arith, letters_count)))
