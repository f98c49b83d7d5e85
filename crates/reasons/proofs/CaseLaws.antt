-- 01, "Cases from one small file": two of the cases that are run, as laws on every image. With
-- the greatest G that 32 bits hold the used length is above the longest image; with links of one
-- byte and 256 nodes no further address fits.
use Prim.Native.Nat.{ℕ, ◌+◌, ◌-◌, ◌^◌, ◌≤◌, ◌<◌}
use mathlib.Core.Path.{◌≡◌, refl, ◌∙◌, ap}
use mathlib.Core.Logic.{inl, inr}
use mathlib.Core.Bool.{Bool, true, ◌&&◌}
use mathlib.Core.Option.{none, some}
use mathlib.Core.List.{List, ◌++◌}
use native.Mathlib.Decide.{dec_lt}
use native.Mathlib.Nat.{mul-le-mul_right}
use native.Mathlib.Omega.{arith}
use lib.Dec.{ltb}
use lib.ListN.{length}
use borrow.Author.Tests.{lt-ltb}
use Rattle.head.specs.declared.Head.{Head}
use Rattle.head.specs.Fields.{longest_image, head_of, used_len}
use Rattle.head.proofs.Places.{used, width_least}
use Rattle.alphabet.specs.Letters.{or_empty}
use Rattle.paper.specs.Hearing.{Outcome, first, refused_numbers}
use Rattle.paper.specs.Answers.{number_at}
use Rattle.paper.specs.Rows.{row11, row12}
use Rattle.paper.specs.Given.{Given, alphabet_in, meant_in, key_in}
use Rattle.paper.specs.Orders.{check_order, key_rows, adding_rows, new_of, store_order}
use Rattle.paper.specs.Calls.{check_of, count_of, look_up_of, store_of, next_key_of}
use Rattle.paper.specs.Accepted.{Accepted}
use Rattle.paper.specs.Granted.{Fit}
use Rattle.reasons.specs.CheckReasons.{WrongLength, FieldOutside, AlphabetWrong}
use Rattle.reasons.specs.CheckReasons.{greatest, opening_reasons, check_reasons, look_up_reasons}
use Rattle.reasons.specs.CheckReasons.{store_any_reasons, next_key_reasons}
use Rattle.paper.proofs.Hearing.{first_none, yes_row, second_part, heard_refused}
use Rattle.paper.proofs.Keying.{fit_given}
use Rattle.paper.proofs.CheckCall.{accepted_checks}
use Rattle.paper.proofs.StoreCall.{none_11, valued}
use Rattle.reasons.proofs.OpeningReasons.{fields_within}
use Rattle.reasons.proofs.CheckReasons.{check_number_exactly, count_number_exactly}
use Rattle.reasons.proofs.CheckReasons.{look_up_number_exactly, store_any_number_exactly}
use Rattle.reasons.proofs.CheckReasons.{next_key_number_exactly}

-- ---- "G = FFFFFFFF, with nothing earlier wrong, gives 4 at any permitted length"

module _ (l : List ℕ) (great : (head_of l).g ≡ greatest) (long : ¬ WrongLength (length l))
    (inside : ¬ FieldOutside (head_of l)) (good : ¬ AlphabetWrong l) where
  too_long : length l < used_len (head_of l)
  too_long = go (dec_lt longest_image (length l))
    where
      go : Dec (longest_image < length l) → length l < used_len (head_of l)
      go (yes b) = absurd (long (inr b))
      go (no b) =
          let wide = width_least (fields_within (head_of l) inside) in
          omega (arith, used (head_of l), mul-le-mul_right ((head_of l).g + 1) wide)

  -- check and number of keys
  pub great_check : (work : List ℕ) → (check_of l work).numbers.number ≡ 4
  unfolding check_reasons opening_reasons
  great_check work =
      (check_number_exactly l work 4).1
      (inr (long, inr (inside, inr (good, inl (too_long, refl)))))

  pub great_count : (work : List ℕ) → (count_of l work).numbers.number ≡ 4
  unfolding check_reasons opening_reasons
  great_count work =
      (count_number_exactly l work 4).1
      (inr (long, inr (inside, inr (good, inl (too_long, refl)))))

  -- look up, store and next key
  pub great_look_up : (given : Given) → (look_up_of l given).numbers.number ≡ 4
  unfolding look_up_reasons opening_reasons
  great_look_up given =
      (look_up_number_exactly l given 4).1
      (inr (long, inr (inside, inr (good, inl (too_long, refl)))))

  pub great_store : (work : List ℕ) (given : Given) (value : ℕ)
      → (store_of l work given value).numbers.number ≡ 4
  unfolding store_any_reasons check_reasons opening_reasons
  great_store work given value =
      (store_any_number_exactly l work given value 4).1
      (inr (long, inr (inside, inr (good, inl (too_long, refl)))))

  pub great_next_key : (work key : List ℕ) (after : Bool) (buffer : List ℕ)
      → (next_key_of l work key after buffer).numbers.number ≡ 4
  unfolding next_key_reasons check_reasons opening_reasons
  great_next_key work key after buffer =
      (next_key_number_exactly l work key after buffer 4).1
      (inr (long, inr (inside, inr (good, inl (too_long, refl)))))

-- ---- "A = 1 with G = 255 and a new node wanted gives 12"

module _ {l key : List ℕ} (work : List ℕ) (given : Given) (value : ℕ) (a : Accepted l)
    (lent : (head_of l).g + 1 ≤ length work) (meant : meant_in l given ≡ some key)
    (fit : Fit (head_of l) key) (fits : value < 256 ^ (head_of l).d) where
  -- the key given passes 9 and 10, and is the key meant
  passes : first (key_rows l given) ≡ none
  unfolding key_rows meant_in
  passes = fit_given (head_of l) (alphabet_in (head_of l) l) given meant fit

  same : key_in l given ≡ key
  unfolding key_in or_empty
  same = ap or_empty meant

  -- where the greatest address of A bytes is below G + k, the order gives 12
  twelve : 0 < new_of (head_of l) l key value
      → 256 ^ (head_of l).a - 1 < (head_of l).g + new_of (head_of l) l key value
      → first (store_order l work given value) ≡ some (number_at 12 0)
  unfolding store_order adding_rows row12
  twelve wanted over =
      let h : Head = head_of l in
      let k : ℕ = new_of h l (key_in l given) value in
      let new : 0 < k = rw same wanted in
      let above : 256 ^ h.a - 1 < h.g + k = rw same over in
      let test : (ltb 0 k && ltb (256 ^ h.a - 1) (h.g + k)) ≡ true =
      rw (lt-ltb 0 k new, lt-ltb (256 ^ h.a - 1) (h.g + k) above) in
      second_part (check_order l work) (key_rows l given ++ valued l (key_in l given) value)
      (accepted_checks l work a lent)
      ∙ second_part (key_rows l given) (valued l (key_in l given) value) passes
      ∙ first_none (row11 h value) _ ((none_11 h value).1 fits)
      ∙ yes_row 12 0 _ test

  -- a key that fits, a value that fits and enough working numbers on an accepted image
  pub no_address : (head_of l).a ≡ 1 → (head_of l).g ≡ 255 → 0 < new_of (head_of l) l key value
      → (store_of l work given value).numbers.number ≡ 12
  unfolding store_of refused_numbers
  no_address one full wanted =
      let power : 256 ^ (head_of l).a ≡ 256 = rw one in
      ap (λ (o : Outcome). o.numbers.number)
      (heard_refused _ _ _ (twelve wanted (omega (arith, power, full, wanted))))
