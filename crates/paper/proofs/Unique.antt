-- 01, "Where the written promises must bite": "Prove that any pair of outcomes allowed by it is
-- equal". An answer is recovered from its numbers, and an outcome is the numbers and the
-- buffers; so one law serves all calls and all forms of answer.
use Prim.Native.Nat.{ℕ, zero, suc}
use mathlib.Core.Path.{◌≡◌, refl, sym, ◌∙◌, ap}
use mathlib.Core.Bool.{Bool, true, false}
use mathlib.Core.List.{List, [], ◌∷◌}
use native.Mathlib.Nat.{suc-ne-zero}
use borrow.Author.Tests.{ne_eqb}
use lib.Dec.{eqb}
use lib.ListN.{get_or}
use Rattle.std.specs.Prelude.{ℤ, Result, Ok, Err}
use Rattle.paper.specs.declared.Refusal.{Refusal}
use Rattle.paper.specs.declared.Refusal.TheVariants.{ImageLength, HeadField, Alphabet}
use Rattle.paper.specs.declared.Refusal.TheVariants.{ImageRoom, TooFewNumbers, Link}
use Rattle.paper.specs.declared.Refusal.TheVariants.{LinkedTwice, NotLinked, KeyLength}
use Rattle.paper.specs.declared.Refusal.TheVariants.{Letter, ValueTooGreat, NoAddress}
use Rattle.paper.specs.declared.Refusal.TheVariants.{NoRoom, ShortBuffer, NoKey}
use Rattle.paper.specs.declared.Refusal.TheVariants.{NotReached, Hidden, CountsDiffer}
use Rattle.paper.specs.declared.Noted.{Noted}
use Rattle.paper.specs.declared.Found.{Found}
use Rattle.paper.specs.Hearing.{Numbers, Outcome, outcome, refused_numbers, done_numbers}
use Rattle.paper.specs.Answers.{said_of, refusal_numbers, done_of, value_of, stored_of}
use Rattle.paper.specs.Answers.{noted_of, found_of}
use Rattle.paper.specs.Given.{Given}
use Rattle.paper.specs.Promises.{Makes, Checks, CountsKeys, LooksUp, Stores, StoresWrites}
use Rattle.paper.specs.Promises.{Mends, Nexts}

-- ---- an answer is recovered from its numbers

-- the refusal with this number and place; `NoKey` stands for the numbers that no refusal has
refusal_in : Numbers → Refusal
refusal_in m =
    get_or
    (NoKey ∷ ImageLength ∷ HeadField ∷ Alphabet ∷ ImageRoom ∷ TooFewNumbers ∷ Link m.place
    ∷ LinkedTwice m.place ∷ NotLinked m.place ∷ KeyLength ∷ Letter ∷ ValueTooGreat
    ∷ NoAddress ∷ NoRoom ∷ ShortBuffer ∷ NoKey ∷ NotReached m.place ∷ NoKey ∷ NoKey
    ∷ Hidden m.place ∷ NoKey ∷ NoKey ∷ NoKey ∷ NoKey ∷ NoKey ∷ CountsDiffer m.place ∷ [])
    m.number NoKey

refusal_back : (r : Refusal) → refusal_in (refusal_numbers r) ≡ r
unfolding refusal_in refusal_numbers refused_numbers
refusal_back ImageLength = refl
refusal_back HeadField = refl
refusal_back Alphabet = refl
refusal_back ImageRoom = refl
refusal_back TooFewNumbers = refl
refusal_back (Link q) = refl
refusal_back (LinkedTwice x) = refl
refusal_back (NotLinked x) = refl
refusal_back KeyLength = refl
refusal_back Letter = refl
refusal_back ValueTooGreat = refl
refusal_back NoAddress = refl
refusal_back NoRoom = refl
refusal_back ShortBuffer = refl
refusal_back NoKey = refl
refusal_back (NotReached q) = refl
refusal_back (Hidden q) = refl
refusal_back (CountsDiffer q) = refl

-- number 0 is done, every other a refusal
by_number : {X : Type 0} → ℕ → X → X → X
by_number zero done refused = done
by_number (suc n) done refused = refused

by_refusal : {X : Type 0} (done refused : X) (r : Refusal)
    → by_number (refusal_numbers r).number done refused ≡ refused
unfolding by_number refusal_numbers refused_numbers
by_refusal done refused ImageLength = refl
by_refusal done refused HeadField = refl
by_refusal done refused Alphabet = refl
by_refusal done refused ImageRoom = refl
by_refusal done refused TooFewNumbers = refl
by_refusal done refused (Link q) = refl
by_refusal done refused (LinkedTwice x) = refl
by_refusal done refused (NotLinked x) = refl
by_refusal done refused KeyLength = refl
by_refusal done refused Letter = refl
by_refusal done refused ValueTooGreat = refl
by_refusal done refused NoAddress = refl
by_refusal done refused NoRoom = refl
by_refusal done refused ShortBuffer = refl
by_refusal done refused NoKey = refl
by_refusal done refused (NotReached q) = refl
by_refusal done refused (Hidden q) = refl
by_refusal done refused (CountsDiffer q) = refl

-- so no refusal's number is 0
pub refusal_said : (r : Refusal) → eqb (said_of r).number 0 ≡ false
unfolding by_number refusal_numbers refused_numbers
refusal_said r = by_test (said_of r).number ∙ by_refusal true false r
  where
    by_test : (n : ℕ) → eqb n 0 ≡ by_number n true false
    by_test zero = refl
    by_test (suc n) = ne_eqb (suc n) 0 (suc-ne-zero n)

-- the answers of a type are recovered from their numbers
pub record Told (R : Type 0) (numbers_of : R → Numbers) : Type 0 where
  pub back : Numbers → R
  pub inverse : (r : R) → back (numbers_of r) ≡ r

-- an answer that is done, with what it answers, or refused: either is recovered from the numbers
tell_by : {X : Type 0} → (Numbers → X) → Numbers → Result X Refusal
tell_by done m = by_number m.number (Ok (done m)) (Err (refusal_in m))

tell_refused : {X : Type 0} (done : Numbers → X) (r : Refusal)
    → tell_by done (refusal_numbers r) ≡ Err r
unfolding tell_by
tell_refused {X} done r =
    let refused : Refusal → Result X Refusal = λ why. Err why in
    by_refusal (Ok (done (refusal_numbers r))) (refused (refusal_in (refusal_numbers r))) r
    ∙ ap refused (refusal_back r)

pub told_done : Told (Result (Unit {0}) Refusal) done_of
unfolding tell_by by_number done_of done_numbers
told_done = record { back = tell_by (λ m. tt); inverse = inverse }
  where
    inverse : (r : Result (Unit {0}) Refusal) → tell_by (λ m. tt) (done_of r) ≡ r
    inverse (Ok x) = refl
    inverse (Err r) = tell_refused (λ m. tt) r

pub told_value : Told (Result ℕ Refusal) value_of
unfolding tell_by by_number value_of done_numbers
told_value = record { back = tell_by (λ m. m.value); inverse = inverse }
  where
    inverse : (r : Result ℕ Refusal) → tell_by (λ m. m.value) (value_of r) ≡ r
    inverse (Ok v) = refl
    inverse (Err r) = tell_refused (λ m. m.value) r

pub told_stored : Told (Result ℤ Refusal) stored_of
unfolding tell_by by_number stored_of done_numbers
told_stored = record { back = tell_by (λ m. m.change); inverse = inverse }
  where
    inverse : (r : Result ℤ Refusal) → tell_by (λ m. m.change) (stored_of r) ≡ r
    inverse (Ok c) = refl
    inverse (Err r) = tell_refused (λ m. m.change) r

-- the change and the number of writes in the numbers of a store with writes
noted_in : Numbers → Noted
noted_in m = record { change = m.change; writes = m.length }

pub told_noted : Told (Result Noted Refusal) noted_of
unfolding tell_by by_number noted_in noted_of done_numbers
told_noted = record { back = tell_by noted_in; inverse = inverse }
  where
    inverse : (r : Result Noted Refusal) → tell_by noted_in (noted_of r) ≡ r
    inverse (Ok n) = refl
    inverse (Err r) = tell_refused noted_in r

-- the length and the value in the numbers of a key that was found
found_in : Numbers → Found
found_in m = record { length = m.length; value = m.value }

pub told_found : Told (Result Found Refusal) found_of
unfolding tell_by by_number found_in found_of done_numbers
told_found = record { back = tell_by found_in; inverse = inverse }
  where
    inverse : (r : Result Found Refusal) → tell_by found_in (found_of r) ≡ r
    inverse (Ok f) = refl
    inverse (Err r) = tell_refused found_in r

-- ---- the law

-- two answers with their buffers that are one outcome are equal
pub one_outcome : {R : Type 0} {numbers_of : R → Numbers} → Told R numbers_of
    → (r s : R) (ls ms : List (List ℕ)) (o : Outcome)
    → outcome (numbers_of r) ls ≡ o → outcome (numbers_of s) ms ≡ o → (r ≡ s) × (ls ≡ ms)
one_outcome {R} {numbers_of} t r s ls ms o p q =
    let e : outcome (numbers_of r) ls ≡ outcome (numbers_of s) ms = p ∙ sym q in (
      sym (t.inverse r) ∙ ap t.back (ap (λ (x : Outcome). x.numbers) e) ∙ t.inverse s,
      ap (λ (x : Outcome). x.lent) e,
    )

pub one : {a b : List ℕ} → (a ∷ []) ≡ (b ∷ []) → a ≡ b
one e = cc

pub two : {a b c d : List ℕ} → (a ∷ c ∷ []) ≡ (b ∷ d ∷ []) → (a ≡ b) × (c ≡ d)
two e = (cc, cc)

pub three : {a b c d i j : List ℕ} → (a ∷ c ∷ i ∷ []) ≡ (b ∷ d ∷ j ∷ [])
    → (a ≡ b) × ((c ≡ d) × (i ≡ j))
three e = (cc, (cc, cc))

-- ---- the calls, for every form of answer that is recovered from its numbers: a Rattle enum, a
-- C struct

module _ {R : Type 0} {numbers_of : R → Numbers} (told : Told R numbers_of) {r s : R} where
  pub makes_once : (image : List ℕ) (n a d : ℕ) (alphabet : List ℕ) (least most : ℕ) {i j : List ℕ}
      → Makes image n a d alphabet least most (numbers_of r) i
      → Makes image n a d alphabet least most (numbers_of s) j → (r ≡ s) × (i ≡ j)
  makes_once image n a d alphabet least most p q =
      let u = one_outcome told r s _ _ _ p q in (u.0, one u.1)

  pub checks_once : (l work : List ℕ) {i j : List ℕ} → Checks l work (numbers_of r) i
      → Checks l work (numbers_of s) j → (r ≡ s) × (i ≡ j)
  checks_once l work p q = let u = one_outcome told r s _ _ _ p q in (u.0, one u.1)

  pub counts_keys_once : (l work : List ℕ) {i j : List ℕ} → CountsKeys l work (numbers_of r) i
      → CountsKeys l work (numbers_of s) j → (r ≡ s) × (i ≡ j)
  counts_keys_once l work p q = let u = one_outcome told r s _ _ _ p q in (u.0, one u.1)

  pub looks_up_once : (l : List ℕ) (given : Given) → LooksUp l given (numbers_of r)
      → LooksUp l given (numbers_of s) → r ≡ s
  looks_up_once l given p q = (one_outcome told r s _ _ _ p q).0

  pub stores_once : (l work : List ℕ) (given : Given) (value : ℕ) {i j v w : List ℕ}
      → Stores l work given value (numbers_of r) i v
      → Stores l work given value (numbers_of s) j w → (r ≡ s) × ((i ≡ j) × (v ≡ w))
  stores_once l work given value p q = let u = one_outcome told r s _ _ _ p q in (u.0, two u.1)

  pub stores_writes_once : (l work : List ℕ) (given : Given) (value : ℕ) (list : List ℕ)
      {i j v w m n : List ℕ}
      → StoresWrites l work given value list (numbers_of r) i v m
      → StoresWrites l work given value list (numbers_of s) j w n
      → (r ≡ s) × ((i ≡ j) × ((v ≡ w) × (m ≡ n)))
  stores_writes_once l work given value list p q =
      let u = one_outcome told r s _ _ _ p q in (u.0, three u.1)

  pub mends_once : (l work : List ℕ) {i j v w : List ℕ} → Mends l work (numbers_of r) i v
      → Mends l work (numbers_of s) j w
      → (r ≡ s) × ((i ≡ j) × (v ≡ w))
  mends_once l work p q = let u = one_outcome told r s _ _ _ p q in (u.0, two u.1)

  pub nexts_once : (l work key : List ℕ) (after : Bool) (buffer : List ℕ) {v w i j : List ℕ}
      → Nexts l work key after buffer (numbers_of r) v i
      → Nexts l work key after buffer (numbers_of s) w j → (r ≡ s) × ((v ≡ w) × (i ≡ j))
  nexts_once l work key after buffer p q =
      let u = one_outcome told r s _ _ _ p q in (u.0, two u.1)
