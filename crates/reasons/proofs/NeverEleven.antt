-- 02, Ask 6: "11 is never given for D = 8". So it is of every sort of store, on any image: a value
-- of 64 bits fits eight bytes, so row 11 is not given, and no other row has its number.
use Prim.Native.Nat.{ℕ, ◌-◌, ◌+◌, ◌*◌, ◌^◌, ◌<◌}
use mathlib.Core.Path.{◌≡◌, refl, sym, ap, ◌∙◌}
use mathlib.Core.Logic.{◌≢◌}
use mathlib.Core.Bool.{false, ◌&&◌, true≢false}
use mathlib.Core.List.{List, [], ◌∷◌}
use native.Mathlib.Omega.{arith}
use lib.Dec.{ltb}
use lib.ListN.{length}
use Rattle.head.specs.declared.Head.{Head}
use Rattle.head.specs.Fields.{head_of, node_width, used_len}
use Rattle.alphabet.specs.Letters.{among}
use Rattle.paper.specs.Hearing.{Row, Outcome, heard, refused_numbers, done_numbers}
use Rattle.paper.specs.Rows.{row11, row12, row13}
use Rattle.paper.specs.Given.{Given, alphabet_in, key_in}
use Rattle.paper.specs.Orders.{key_rows, adding_rows, new_of, store_order}
use Rattle.paper.specs.Calls.{writes_in, store_of, store_writes_of}
use Rattle.position.specs.Counts.{row5again}
use Rattle.position.specs.Orders.{store_counts_order}
use Rattle.position.specs.Calls.{store_counts_of}
use Rattle.paper.proofs.Numbers.{Says, silent, saying, AllSay, end, ◌then◌, given_says, parts_say}
use Rattle.paper.proofs.Numbers.{first_says}
use Rattle.paper.proofs.Keying.{given_says_key}
use Rattle.paper.proofs.CheckCall.{checking_says}
use Rattle.paper.proofs.StoreCall.{valued, eleven_never, writes_number}
use Rattle.position.proofs.Plain.{counts_say}

-- where a number is not among those of the rows, and not that of a call that is done, it is not
-- the answer's
never_heard : {numbers : List ℕ} {r : Row} (kept : List (List ℕ)) (done : Outcome) (n : ℕ)
    → Says numbers r → among n numbers ≡ false → done.numbers.number ≢ n
    → (heard r kept done).numbers.number ≢ n
unfolding heard refused_numbers
never_heard kept done n silent z other e = other e
never_heard {numbers} kept done n (saying p) z other e =
    true≢false (sym p ∙ ap (λ (m : ℕ). among m numbers) e ∙ z)

module _ (l work : List ℕ) (given : Given) (value : ℕ) (wide : (head_of l).d ≡ 8)
    (bits : value < 2 ^ 64) where
  -- the rows of a value that fits
  rest_says : AllSay (12 ∷ 13 ∷ []) (valued l (key_in l given) value)
  unfolding adding_rows row12 row13 among
  rest_says =
      let h : Head = head_of l in
      let k : ℕ = new_of h l (key_in l given) value in
      let eleven : Says (12 ∷ 13 ∷ []) (row11 h value) =
      rw (eleven_never h value wide bits) silent in
      eleven
      then given_says 12 0 (ltb 0 k && ltb (256 ^ h.a - 1) (h.g + k)) refl
      then given_says 13 0 (ltb 0 k && ltb (length l) (used_len h + k * node_width h)) refl
      then end

  -- a store
  pub store_never_eleven : (store_of l work given value).numbers.number ≢ 11
  unfolding store_of store_order key_rows done_numbers among
  store_never_eleven =
      never_heard _ _ 11
      (first_says (parts_say (checking_says l work)
      (parts_say (given_says_key (head_of l) (alphabet_in (head_of l) l) given) rest_says)))
      refl (λ e. omega arith)

  -- a store with writes
  pub store_writes_never_eleven : (list : List ℕ)
      → (store_writes_of l work given value list).numbers.number ≢ 11
  unfolding store_writes_of
  store_writes_never_eleven list =
      rw (writes_number (writes_in l (key_in l given) value) list (store_of l work given value))
      store_never_eleven

  -- a store with counts
  pub store_counts_never_eleven : (counts : List ℕ)
      → (store_counts_of l work given value counts).numbers.number ≢ 11
  unfolding store_counts_of store_counts_order key_rows row5again done_numbers among
  store_counts_never_eleven counts =
      let k : ℕ = new_of (head_of l) l (key_in l given) value in
      never_heard _ _ 11
      (first_says (parts_say (counts_say l work counts)
      (parts_say (given_says_key (head_of l) (alphabet_in (head_of l) l) given)
      (parts_say rest_says
      (given_says {numbers = 5 ∷ []} 5 0 (ltb (length counts) ((head_of l).g + k + 1)) refl
      then end)))))
      refl (λ e. omega arith)
