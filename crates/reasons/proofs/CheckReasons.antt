-- "The first that applies is given, in this order", for every base call on any image: the number
-- that it answers is that of the first reason that applies, and its place is the one that the
-- table names. Each row of the order is given exactly where its reason applies.
use Prim.Native.Nat.{ℕ, ◌+◌, ◌-◌, ◌*◌, ◌^◌, ◌≤◌, ◌<◌}
use mathlib.Core.Path.{◌≡◌, refl, sym, ◌∙◌}
use mathlib.Core.Logic.{◌↔◌, ◌≢◌, inl, inr}
use mathlib.Core.Bool.{Bool, true, false, not, ◌&&◌, cond, true≢false, false≢true}
use mathlib.Core.Option.{Option, none, some}
use mathlib.Core.List.{List, [], ◌∷◌, ◌++◌, Memᴰ}
use native.Mathlib.Omega.{arith}
use lib.Dec.{ltb, eqb}
use lib.ListN.{length}
use lib.Seq.{sets}
use borrow.Author.Tests.{ltb-true, lt-ltb}
use Rattle.field.specs.Range.{between}
use Rattle.trie.specs.Keys.{meets}
use Rattle.trie.proofs.Listing.{first_none}
use Rattle.head.specs.declared.Head.{Head}
use Rattle.head.specs.Fields.{shortest_image, longest_image, head_of, permitted, node_width}
use Rattle.head.specs.Fields.{used_len}
use Rattle.alphabet.specs.Letters.{or_empty}
use Rattle.node.specs.Image.{table_of}
use Rattle.node.specs.Writes.{Write, noted}
use Rattle.paper.specs.Hearing.{Row, Outcome, outcome, done_numbers}
use Rattle.paper.specs.Rows.{row1, row2, row3, row4, row5, row6path, row9, row9next}
use Rattle.paper.specs.Rows.{all_below}
use Rattle.paper.specs.Rows.{row10, is_none, row10text, row11, row12, row13, row14, row15}
use Rattle.paper.specs.Given.{Given, as_letters, as_text, alphabet_in, meant_by, key_in}
use Rattle.paper.specs.Orders.{opening_rows, opening_rows_of, node_rows, check_order, letters_rows}
use Rattle.paper.specs.Orders.{text_rows, key_rows_by, key_rows, next_rows, look_up_order}
use Rattle.paper.specs.Orders.{adding_rows, new_of, store_order, next_key_order}
use Rattle.paper.specs.Calls.{fresh_head, make_of, check_of, count_of, look_up_of, store_of}
use Rattle.paper.specs.Calls.{writes_in, with_writes, store_writes_of, stored_keys, next_in}
use Rattle.paper.specs.Calls.{found_in, next_key_of}
use Rattle.reasons.specs.Reasons.{◌when◌, FirstApplies, key_reasons, value_reasons}
use Rattle.reasons.specs.CheckReasons.{opening_reasons, make_reasons, node_reasons}
use Rattle.reasons.specs.CheckReasons.{check_reasons}
use Rattle.reasons.specs.CheckReasons.{RightPlace, BreaksOnPath, look_up_reasons, PathPlace}
use Rattle.reasons.specs.CheckReasons.{store_any_reasons, StoredKey, asked_reasons}
use Rattle.reasons.specs.CheckReasons.{next_key_reasons}
use Rattle.reasons.proofs.FirstReason.{AllFit, parts_fit, when_fits, heard_exactly, AllTell}
use Rattle.reasons.proofs.FirstReason.{parts_tell, when_tells, heard_tells}
use Rattle.reasons.proofs.KeyReasons.{ten_fits, key_fits}
use Rattle.paper.proofs.Opening.{spoilt}
use Rattle.reasons.proofs.OpeningReasons.{opening_fits, make_fits}
use Rattle.reasons.proofs.LinkReasons.{six_fits, seven_fits, eight_fits, sixteen_fits}
use Rattle.reasons.proofs.LinkReasons.{placeless, six_tells, seven_tells, eight_tells}
use Rattle.reasons.proofs.LinkReasons.{sixteen_tells, nineteen_fits, nineteen_tells}
use Rattle.reasons.proofs.PathReasons.{path_fits, path_tells}
use Rattle.paper.proofs.StoreCall.{valued}
use Rattle.paper.proofs.NextKeyCall.{stored_exactly}
use Rattle.reasons.proofs.Reasons.{five_fits, value_fits}
use Rattle.paper.proofs.StoreCall.{writes_number}

-- ---- 1 to 4 name no place

opening_tells : (right : ℕ → ℕ → Type 0) (h : Head) (alphabet : List ℕ) (len : ℕ)
    → ((n : ℕ) → n ≤ 4 → right n 0)
    → AllTell right (opening_rows h alphabet len)
unfolding opening_rows row1 row2 row3 row4
opening_tells right h alphabet len no_place = (
  when_tells right 1 0 (not (between len shortest_image longest_image)) (no_place 1 (omega arith)),
  (
    when_tells right 2 0 (not (permitted h)) (no_place 2 (omega arith)),
    (
      when_tells right 3 0 (spoilt h alphabet len) (no_place 3 (omega arith)),
      (when_tells right 4 0 (ltb len (used_len h)) (no_place 4 (omega arith)), tt),
    ),
  ),
)

-- ---- make

module _ (image : List ℕ) (n a d : ℕ) (alphabet : List ℕ) (least most : ℕ) where
  -- "make: 1, 2, 3, 4"
  pub make_number_exactly : (m : ℕ)
      → ((make_of image n a d alphabet least most).numbers.number ≡ m)
      ↔ FirstApplies (make_reasons image n a d alphabet least most) m
  unfolding make_of done_numbers
  make_number_exactly m =
      heard_exactly (opening_rows (fresh_head n a d alphabet least most) alphabet (length image))
      (make_reasons image n a d alphabet least most) _ _ refl
      (make_fits image n a d alphabet least most) refl m

  pub make_place : (make_of image n a d alphabet least most).numbers.place ≡ 0
  unfolding make_of done_numbers
  make_place =
      heard_tells (λ _ place. place ≡ 0)
      (opening_rows (fresh_head n a d alphabet least most) alphabet (length image)) _ _
      (opening_tells (λ _ place. place ≡ 0) (fresh_head n a d alphabet least most) alphabet
      (length image) (λ _ _. refl)) refl

-- ---- check and number of keys

-- 6 to 8, 16 and 19
node_fits : (l : List ℕ) → AllFit (node_rows (head_of l) (table_of (head_of l) l)) (node_reasons l)
unfolding node_rows node_reasons
node_fits l = (six_fits l, (seven_fits l, (eight_fits l, (sixteen_fits l, (nineteen_fits l, tt)))))

node_tells : (l : List ℕ) → AllTell (RightPlace l) (node_rows (head_of l) (table_of (head_of l) l))
unfolding node_rows
node_tells l =
    (six_tells l, (seven_tells l, (eight_tells l, (sixteen_tells l, (nineteen_tells l, tt)))))

module _ (l work : List ℕ) where
  -- 5 to 8, 16 and 19
  abbrev from_five : List Row
  from_five = row5 (head_of l) (length work) ∷ node_rows (head_of l) (table_of (head_of l) l)

  pub check_fits : AllFit (check_order l work) (check_reasons l work)
  unfolding check_order check_reasons row5
  check_fits =
      parts_fit (opening_rows_of l) from_five (opening_reasons l)
      (5 when (length work < (head_of l).g + 1) ∷ node_reasons l) (opening_fits l)
      (five_fits (length work) ((head_of l).g + 1), node_fits l)

  -- "check .. : 1 to 8", 16 and 19, each exactly when the table says, for any image
  pub check_number_exactly : (n : ℕ) → ((check_of l work).numbers.number ≡ n)
      ↔ FirstApplies (check_reasons l work) n
  unfolding check_of done_numbers
  check_number_exactly n =
      heard_exactly (check_order l work) (check_reasons l work) _ _ refl check_fits refl n

  -- "check and number of keys: 1 to 8", 16 and 19
  pub count_number_exactly : (n : ℕ) → ((count_of l work).numbers.number ≡ n)
      ↔ FirstApplies (check_reasons l work) n
  unfolding count_of done_numbers
  count_number_exactly n =
      heard_exactly (check_order l work) (check_reasons l work) _ _ refl check_fits refl n

  pub check_tells : AllTell (RightPlace l) (check_order l work)
  unfolding check_order opening_rows_of row5
  check_tells =
      parts_tell (RightPlace l) (opening_rows_of l) from_five
      (opening_tells (RightPlace l) (head_of l) (alphabet_in (head_of l) l) (length l)
      (λ n b. placeless l n (inl (omega arith)))) (
        when_tells (RightPlace l) 5 0 (ltb (length work) ((head_of l).g + 1))
            (placeless l 5 (inl (omega arith))),
        node_tells l,
      )

  -- 6 at the "lowest node that holds one", 7 and 8 at the "lowest such address"; "A place not
  -- named is 0"
  pub check_place : RightPlace l (check_of l work).numbers.number (check_of l work).numbers.place
  unfolding check_of done_numbers
  check_place =
      heard_tells (RightPlace l) (check_order l work) _ _ check_tells
      (placeless l 0 (inl (omega arith)))

  pub count_place : RightPlace l (count_of l work).numbers.number (count_of l work).numbers.place
  unfolding count_of done_numbers
  count_place =
      heard_tells (RightPlace l) (check_order l work) _ _ check_tells
      (placeless l 0 (inl (omega arith)))

-- ---- 9 to 13 name no place

key_tells : (right : ℕ → ℕ → Type 0) (l : List ℕ) (given : Given) → right 9 0 → right 10 0
    → AllTell right (key_rows l given)
unfolding key_rows key_rows_by letters_rows text_rows row9 row10 row10text
key_tells right l (as_letters key) nine ten = (
  when_tells right 9 0 (not (between (length key) (head_of l).min (head_of l).max)) nine,
  (when_tells right 10 0 (not (all_below (head_of l).n key)) ten, tt),
)
key_tells right l (as_text text) nine ten =
    let named = meant_by (alphabet_in (head_of l) l) (as_text text) in (
      when_tells right 10 0 (is_none named) ten,
      (
        when_tells right 9 0
            (not (between (length (or_empty named)) (head_of l).min (head_of l).max)) nine,
        tt,
      ),
    )

value_tells : (right : ℕ → ℕ → Type 0) (l key : List ℕ) (value : ℕ) → right 11 0 → right 12 0
    → right 13 0
    → AllTell right (valued l key value)
unfolding adding_rows row11 row12 row13
value_tells right l key value eleven twelve thirteen =
    let h : Head = head_of l in
    let k : ℕ = new_of h l key value in (
      when_tells right 11 0 (ltb (256 ^ h.d - 1) value) eleven,
      (
        when_tells right 12 0 (ltb 0 k && ltb (256 ^ h.a - 1) (h.g + k)) twelve,
        (
          when_tells right 13 0 (ltb 0 k && ltb (length l) (used_len h + k * node_width h))
              thirteen,
          tt,
        ),
      ),
    )

-- ---- look up

module _ (l : List ℕ) (given : Given) where
  -- 6 on the key's path
  abbrev on_path : List Row
  on_path = row6path (head_of l) (table_of (head_of l) l) (key_in l given) ∷ []

  look_up_fits : AllFit (look_up_order l given) (look_up_reasons l given)
  unfolding look_up_order look_up_reasons
  look_up_fits =
      let path : AllFit on_path (6 when BreaksOnPath l (key_in l given) ∷ []) =
      (path_fits l (key_in l given), tt) in
      parts_fit (opening_rows_of l) (key_rows l given ++ on_path) (opening_reasons l)
      (key_reasons l given ++ (6 when BreaksOnPath l (key_in l given) ∷ [])) (opening_fits l)
      (parts_fit (key_rows l given) on_path (key_reasons l given) _ (key_fits l given) path)

  -- "look up: 1 to 4, 9, 10, then 6", for any image
  pub look_up_number_exactly : (n : ℕ) → ((look_up_of l given).numbers.number ≡ n)
      ↔ FirstApplies (look_up_reasons l given) n
  unfolding look_up_of done_numbers
  look_up_number_exactly n =
      heard_exactly (look_up_order l given) (look_up_reasons l given) _ _ refl look_up_fits refl n

  -- a number without a place
  pathless : (n : ℕ) → n ≢ 6 → PathPlace l (key_in l given) n 0
  pathless n d = record { six = λ e. absurd (d e); others = λ _. refl }

  look_up_tells : AllTell (PathPlace l (key_in l given)) (look_up_order l given)
  unfolding look_up_order opening_rows_of
  look_up_tells =
      let right : ℕ → ℕ → Type 0 = PathPlace l (key_in l given) in
      let path : AllTell right on_path = (path_tells l (key_in l given), tt) in
      parts_tell right (opening_rows_of l) (key_rows l given ++ on_path)
      (opening_tells right (head_of l) (alphabet_in (head_of l) l) (length l)
      (λ n b. pathless n (λ e. omega arith)))
      (parts_tell right (key_rows l given) on_path
      (key_tells right l given (pathless 9 (λ e. omega arith)) (pathless 10 (λ e. omega arith)))
      path)

  -- "the first refusal met on the way down is the answer, and its place is the node that holds
  -- that link"; "A place not named is 0"
  pub look_up_place :
      PathPlace l (key_in l given) (look_up_of l given).numbers.number
      (look_up_of l given).numbers.place
  unfolding look_up_of done_numbers
  look_up_place =
      heard_tells (PathPlace l (key_in l given)) (look_up_order l given) _ _ look_up_tells
      (pathless 0 (λ e. omega arith))

-- ---- store

module _ (l work : List ℕ) (given : Given) (value : ℕ) where
  -- 9 to 13
  abbrev from_nine : List Row
  from_nine = key_rows l given ++ valued l (key_in l given) value

  store_any_fits : AllFit (store_order l work given value) (store_any_reasons l work given value)
  unfolding store_order store_any_reasons
  store_any_fits =
      parts_fit (check_order l work) from_nine (check_reasons l work)
      (key_reasons l given ++ value_reasons l value (new_of (head_of l) l (key_in l given) value))
      (check_fits l work)
      (parts_fit (key_rows l given) (valued l (key_in l given) value) (key_reasons l given) _
      (key_fits l given) (value_fits l (key_in l given) value))

  -- "store: 1 to 8, 9, 10, 11, 12, 13", with 16 and 19 after 8, for any image
  pub store_any_number_exactly : (n : ℕ) → ((store_of l work given value).numbers.number ≡ n)
      ↔ FirstApplies (store_any_reasons l work given value) n
  unfolding store_of done_numbers
  store_any_number_exactly n =
      heard_exactly (store_order l work given value) (store_any_reasons l work given value) _ _
      refl
      store_any_fits refl n

  store_any_tells : AllTell (RightPlace l) (store_order l work given value)
  unfolding store_order
  store_any_tells =
      parts_tell (RightPlace l) (check_order l work) from_nine (check_tells l work)
      (parts_tell (RightPlace l) (key_rows l given) (valued l (key_in l given) value)
      (key_tells (RightPlace l) l given (placeless l 9 (inr (omega arith, omega arith)))
      (placeless l 10 (inr (omega arith, omega arith))))
      (value_tells (RightPlace l) l (key_in l given) value
      (placeless l 11 (inr (omega arith, omega arith)))
      (placeless l 12 (inr (omega arith, omega arith)))
      (placeless l 13 (inr (omega arith, omega arith)))))

  pub store_any_place :
      RightPlace l (store_of l work given value).numbers.number
      (store_of l work given value).numbers.place
  unfolding store_of done_numbers
  store_any_place =
      heard_tells (RightPlace l) (store_order l work given value) _ _ store_any_tells
      (placeless l 0 (inl (omega arith)))

-- ---- store with writes

-- its number and place are the store's
writes_right : (right : ℕ → ℕ → Type 0) (ws : List Write) (list : List ℕ) (o : Outcome)
    → right 0 0 → right o.numbers.number o.numbers.place
    → right (with_writes ws list o).numbers.number (with_writes ws list o).numbers.place
unfolding with_writes done_numbers
writes_right right ws list o z r = go (eqb o.numbers.number 0)
  where
    by_test : Bool → Outcome
    by_test b =
        cond b
        (outcome (done_numbers (length ws) o.numbers.change 0)
        (o.lent ++ (sets list 0 (noted ws) ∷ [])))
        (outcome o.numbers (o.lent ++ (list ∷ [])))

    go : (b : Bool) → right (by_test b).numbers.number (by_test b).numbers.place
    go true = z
    go false = r

module _ (l work : List ℕ) (given : Given) (value : ℕ) (list : List ℕ) where
  pub store_writes_any_number_exactly : (n : ℕ)
      → ((store_writes_of l work given value list).numbers.number ≡ n)
      ↔ FirstApplies (store_any_reasons l work given value) n
  unfolding store_writes_of
  store_writes_any_number_exactly n =
      rw (writes_number (writes_in l (key_in l given) value) list (store_of l work given value))
      (store_any_number_exactly l work given value n)

  pub store_writes_any_place :
      RightPlace l (store_writes_of l work given value list).numbers.number
      (store_writes_of l work given value list).numbers.place
  unfolding store_writes_of
  store_writes_any_place =
      writes_right (RightPlace l) (writes_in l (key_in l given) value) list
      (store_of l work given value) (placeless l 0 (inl (omega arith)))
      (store_any_place l work given value)

-- ---- next key

-- no key is found exactly where no stored key meets the request
found_none : (l key : List ℕ) (after : Bool)
    → (is_none (next_in l key after) ≡ true)
    ↔ ((k : List ℕ) → StoredKey l k → ¬ (meets after key k ≡ true))
unfolding next_in is_none
found_none l key after = (
  λ e k s m. true≢false
      (sym m ∙ missed.0 (empty (next_in l key after) e) k
      ((stored_exactly l k).1 (s.least, s.most, s.data_there))),
  λ h. rw (missed.1 (λ k there. untold (meets after key k) (h k (stored k there)))),
)
  where
    missed : (next_in l key after ≡ none)
        ↔ ((k : List ℕ) → Memᴰ k (stored_keys l) → meets after key k ≡ false)
    missed = first_none (meets after key) (stored_keys l)

    empty : (o : Option (List ℕ)) → is_none o ≡ true → o ≡ none
    empty none e = refl
    empty (some k) e = absurd (false≢true e)

    untold : (b : Bool) → ¬ (b ≡ true) → b ≡ false
    untold true d = absurd (d refl)
    untold false d = refl

    stored : (k : List ℕ) → Memᴰ k (stored_keys l) → StoredKey l k
    stored k there =
        let (a, b, c) = (stored_exactly l k).0 there in
        record { least = a; most = b; data_there = c }

module _ (l work key : List ℕ) (after : Bool) (buffer : List ℕ) where
  -- 9, 10, 14 and 15
  abbrev asked : List Row
  asked =
      next_rows (head_of l) key
      ++ (row14 (head_of l) (length buffer) ∷ row15 (next_in l key after) ∷ [])

  asked_fits : AllFit asked (asked_reasons l key after buffer)
  unfolding next_rows row9next row14 row15 asked_reasons
  asked_fits =
      let most : ℕ = (head_of l).max in
      let w = found_none l key after in (
        when_fits 9 0 (ltb most (length key)) (ltb-true most (length key))
            (lt-ltb most (length key)),
        (
          ten_fits (head_of l) key,
          (
            when_fits 14 0 (ltb (length buffer) most) (ltb-true (length buffer) most)
                (lt-ltb (length buffer) most),
            (when_fits 15 0 (is_none (next_in l key after)) w.0 w.1, tt),
          ),
        ),
      )

  abbrev order : List Row
  order = next_key_order l work key (length buffer) (next_in l key after)

  next_key_fits : AllFit order (next_key_reasons l work key after buffer)
  unfolding next_key_order next_key_reasons
  next_key_fits =
      parts_fit (check_order l work) asked (check_reasons l work)
      (asked_reasons l key after buffer)
      (check_fits l work) asked_fits

  -- "next key: 1 to 8, 9, 10, 14, 15", with 16 and 19 after 8, for any image
  pub next_key_number_exactly : (n : ℕ)
      → ((next_key_of l work key after buffer).numbers.number ≡ n)
      ↔ FirstApplies (next_key_reasons l work key after buffer) n
  unfolding next_key_of found_in done_numbers
  next_key_number_exactly n =
      heard_exactly order (next_key_reasons l work key after buffer) _ _ refl next_key_fits refl n

  asked_tells : AllTell (RightPlace l) asked
  unfolding next_rows row9next row10 row14 row15
  asked_tells = (
    when_tells (RightPlace l) 9 0 (ltb (head_of l).max (length key))
        (placeless l 9 (inr (omega arith, omega arith))),
    (
      when_tells (RightPlace l) 10 0 (not (all_below (head_of l).n key))
          (placeless l 10 (inr (omega arith, omega arith))),
      (
        when_tells (RightPlace l) 14 0 (ltb (length buffer) (head_of l).max)
            (placeless l 14 (inr (omega arith, omega arith))),
        (
          when_tells (RightPlace l) 15 0 (is_none (next_in l key after))
              (placeless l 15 (inr (omega arith, omega arith))),
          tt,
        ),
      ),
    ),
  )

  pub next_key_place :
      RightPlace l (next_key_of l work key after buffer).numbers.number
      (next_key_of l work key after buffer).numbers.place
  unfolding next_key_of next_key_order found_in done_numbers
  next_key_place =
      heard_tells (RightPlace l) order _ _
      (parts_tell (RightPlace l) (check_order l work) asked (check_tells l work) asked_tells)
      (placeless l 0 (inl (omega arith)))
