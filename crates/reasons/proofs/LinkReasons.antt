-- 6 to 8, 16 and 19: each row is given exactly where its reason applies, and its place is the
-- lowest node or address that the reason speaks of. An address that is counted twice stands in two
-- links: in two of one node, or in one of each of two nodes.
use Prim.Native.Nat.{ℕ, zero, suc, ◌+◌, ◌≤◌, ◌<◌}
use mathlib.Core.Path.{◌≡◌, refl, sym, ◌∙◌}
use mathlib.Core.Logic.{◌↔◌, ◌≢◌, ◌⊎◌, inl, inr, ⊎_elim}
use mathlib.Core.Bool.{Bool, true, false, not, true≢false}
use mathlib.Core.List.{List, []}
use native.Mathlib.Decide.{ℕ_discrete, dec_le}
use native.Mathlib.Omega.{arith}
use lib.Dec.{ltb}
use lib.ListN.{length}
use borrow.Author.Tests.{lt-ltb, ltb-true, ltb-false, leb-true, le-leb, eqb-true, eq-eqb}
use borrow.Author.Tests.{not-true}
use Rattle.field.proofs.Range.{both}
use Rattle.trie.specs.Table.{Table, complete, descend}
use Rattle.trie.specs.Lowest.{lowest}
use Rattle.trie.specs.Tree.{depth_of, depth_within}
use Rattle.trie.proofs.Walk.{descend_nil}
use Rattle.trie.proofs.Depth.{reached_depth, depth_reached, walk_within, within_walk}
use Rattle.trie.proofs.Lowest.{lowest_least, none_lowest, lowest_found, any_found}
use Rattle.trie.proofs.Counted.{Sums, some_part}
use Rattle.head.specs.declared.Head.{Head}
use Rattle.head.specs.Fields.{head_of}
use Rattle.node.specs.Image.{table_of}
use Rattle.node.proofs.Tables.{framed}
use Rattle.paper.specs.Hearing.{Row, row_when}
use Rattle.paper.specs.Rows.{bad_link, holds_bad, row_when_lowest, row6, times_in, times, row7}
use Rattle.paper.specs.Rows.{row8, row16, is_hidden, row19}
use Rattle.paper.specs.Calls.{table_in}
use Rattle.reasons.specs.Reasons.{◌when◌}
use Rattle.reasons.specs.CheckReasons.{Breaks, HoldsBreaking, StandsIn, InTwo, InNone}
use Rattle.reasons.specs.CheckReasons.{Unreached, Hidden, LowestOf, RightPlace}
use Rattle.reasons.proofs.FirstReason.{Fits, Tells, tell_alike}
use Rattle.paper.proofs.Linking.{holds_bad_lem, one_hit, hit_most, in_node, in_nodes}
use Rattle.paper.proofs.Linking.{counted, counted_once, holds, count, twice, nowhere, unreached}

-- ---- rows with a place

-- a row for the lowest number that passes a test, where the test says of the numbers from a on
-- whether `one` is so, and `one` is so of no other number
module _ (number : ℕ) (test : ℕ → Bool) (a k : ℕ) {one : ℕ → Type 0}
    (to : (y : ℕ) → a ≤ y → y < a + k → test y ≡ true → one y)
    (from : (y : ℕ) → one y → (a ≤ y) × (y < a + k) × (test y ≡ true)) where
  -- a row that is given fits the reason, and its place is the lowest
  abbrev Both : Row → Type 0
  Both r =
      Fits r (number when ((y : ℕ) × one y))
      × Tells (λ n place. (n ≡ number) × LowestOf one place) r

  both_fit : Both (row_when_lowest number test a k)
  unfolding row_when_lowest row_when
  both_fit = go (ltb (lowest test a k) (a + k)) refl
    where
      go : (b : Bool) → ltb (lowest test a k) (a + k) ≡ b
          → Both (row_when number (lowest test a k) b)
      go true e =
          let low : ℕ = lowest test a k in
          let high : low < a + k = ltb-true low (a + k) e in
          let found = lowest_found test a k high in
          let here : one low = to low (lowest_least test a k) high found.0 in (
            ((low, here), refl),
            (
              refl,
              (
                here,
                λ y b o. let (c, d, f) = from y o in
                    true≢false (sym f ∙ found.1 y c (omega arith)),
              ),
            ),
          )
      go false e = (
        λ s. let (y, o) = s in
            let (c, d, f) = from y o in
            let over = ltb-false (lowest test a k) (a + k) e in
            true≢false (sym f ∙ none_lowest test a k over y c d),
        tt,
      )

  pub lowest_fits : Fits (row_when_lowest number test a k) (number when ((y : ℕ) × one y))
  lowest_fits = both_fit.0

  pub lowest_tells : Tells (λ n place. (n ≡ number) × LowestOf one place)
      (row_when_lowest number test a k)
  lowest_tells = both_fit.1

-- ---- 6

-- the test for a bad link, as a statement
pub bad_breaks : (g c : ℕ) → (bad_link g c ≡ true) ↔ Breaks g c
unfolding bad_link
bad_breaks g c = (ltb-true g c, lt-ltb g c)

-- a node that holds a bad link, and the link
bad_held : (g : ℕ) (t : Table) (q m : ℕ) → holds_bad g t q m ≡ true
    → (i : ℕ) × (i < m) × (bad_link g (t.child q i) ≡ true)
unfolding holds_bad
bad_held g t q m e = any_found (λ i. bad_link g (t.child q i)) m e

-- ---- 7 and 8

-- of the first k parts of a sum one is above 1, or two are above 0
abbrev AboveOne : (ℕ → ℕ) → ℕ → Type 0
AboveOne part k =
    ((i : ℕ) × (i < k) × (2 ≤ part i))
    ⊎ ((i : ℕ) × (j : ℕ) × (i < k) × (j < k) × (1 ≤ part i) × (1 ≤ part j) × (i ≢ j))

-- so it is where the sum is above 1
some_two : {s part : ℕ → ℕ} → Sums s part → (k : ℕ) → 2 ≤ s k → AboveOne part k
some_two sums zero h = absurd (omega (arith, sums.start))
some_two {s} {part} sums (suc k) h = go (dec_le 2 (part k)) (dec_le 1 (part k)) (some_two sums k)
  where
    go : Dec (2 ≤ part k) → Dec (1 ≤ part k) → (2 ≤ s k → AboveOne part k)
        → AboveOne part (suc k)
    go (yes b) _ rest = inl (k, omega arith, b)
    go (no b) (yes c) rest =
        let (i, d, e) = some_part sums k (omega (arith, sums.more k)) in
        inr (i, k, omega arith, omega arith, e, c, λ f. omega arith)
    go (no b) (no c) rest =
        ⊎_elim (λ f. let (i, d, e) = f in inl (i, omega arith, e))
        (λ f. let (i, j, d, e, u, v, apart) = f in
        inr (i, j, omega arith, omega arith, u, v, apart))
        (rest (omega (arith, sums.more k)))

module _ (t : Table) (x n k : ℕ) where
  -- x stands in link i of node q, one of the first k nodes with n links each
  record Inside (q i : ℕ) : Type 0 where
    node : q < k
    letter : i < n
    holding : t.child q i ≡ x

  -- an address that is counted stands in a link
  one_link : 1 ≤ times t n x k → (q : ℕ) × (i : ℕ) × Inside q i
  one_link h =
      let (q, a, u) = some_part (in_nodes t x n) k h in
      let (i, b, v) = some_part (in_node t x q) n u in
      (q, i, record { node = a; letter = b; holding = one_hit x (t.child q i) v })

  -- one that is counted twice stands in two
  abbrev Two : Type 0
  Two =
      (q : ℕ) × (i : ℕ) × (p : ℕ) × (j : ℕ)
      × Inside q i × Inside p j × (¬ ((q ≡ p) × (i ≡ j)))

  two_links : 2 ≤ times t n x k → Two
  two_links h = ⊎_elim in_one in_two (some_two (in_nodes t x n) k h)
    where
      in_one : (q : ℕ) × (q < k) × (2 ≤ times_in t x q n) → Two
      in_one s =
          let (q, a, u) = s in
          ⊎_elim (λ f. absurd (omega (arith, f.2, hit_most x (t.child q f.0))))
          (λ f.
          let (i, j, b, c, v, w, apart) = f in (
            q,
            i,
            q,
            j,
            record { node = a; letter = b; holding = one_hit x (t.child q i) v },
            record { node = a; letter = c; holding = one_hit x (t.child q j) w },
            λ same. apart same.1,
          ))
          (some_two (in_node t x q) n u)

      in_two : (q : ℕ) × (p : ℕ) × (q < k) × (p < k) × (1 ≤ times_in t x q n)
          × (1 ≤ times_in t x p n) × (q ≢ p)
          → Two
      in_two s =
          let (q, p, a, b, u, v, apart) = s in
          let (i, c, e) = some_part (in_node t x q) n u in
          let (j, d, f) = some_part (in_node t x p) n v in (
            q,
            i,
            p,
            j,
            record { node = a; letter = c; holding = one_hit x (t.child q i) e },
            record { node = b; letter = d; holding = one_hit x (t.child p j) f },
            λ same. apart same.0,
          )

-- ---- 6 to 8, 16 and 19 of an image

module _ (l : List ℕ) where
  abbrev head : Head
  head = head_of l

  abbrev table : Table
  table = table_of (head_of l) l

  six_to : (q : ℕ) → 0 ≤ q → q < 0 + (head.g + 1) → holds head table q ≡ true → HoldsBreaking l q
  unfolding table_in
  six_to q low high e =
      let (i, b, s) = bad_held head.g table q head.n e in
      (omega arith, i, b, (bad_breaks head.g (table.child q i)).0 s)

  six_from : (q : ℕ) → HoldsBreaking l q
      → (0 ≤ q) × (q < 0 + (head.g + 1)) × (holds head table q ≡ true)
  unfolding table_in
  six_from q s =
      let (a, i, b, breaks) = s in (
        omega arith,
        omega arith,
        holds_bad_lem head.g table q head.n b
            ((bad_breaks head.g (table.child q i)).1 breaks),
      )

  stands_in : {x q i : ℕ} → Inside table x head.n (head.g + 1) q i → StandsIn l x q i
  unfolding table_in
  stands_in s = record { node = omega (arith, s.node); letter = s.letter; holds = s.holding }

  seven_to : (x : ℕ) → 1 ≤ x → x < 1 + head.g → twice head table x ≡ true → InTwo l x
  seven_to x low high e =
      let (q, i, p, j, one, other, apart) =
      two_links table x head.n (head.g + 1) (leb-true 2 (count head table x) e) in
      ((low, omega arith), q, i, p, j, stands_in one, stands_in other, apart)

  seven_from : (x : ℕ) → InTwo l x → (1 ≤ x) × (x < 1 + head.g) × (twice head table x ≡ true)
  unfolding table_in
  seven_from x s =
      let (address, q, i, p, j, one, other, apart) = s in (
        address.0,
        omega (arith, address.1),
        le-leb 2 (count head table x) (enough q i p j one other apart
            (dec_le 2 (count head table x))),
      )
    where
      enough : (q i p j : ℕ) → StandsIn l x q i → StandsIn l x p j → ¬ ((q ≡ p) × (i ≡ j))
          → Dec (2 ≤ count head table x)
          → 2 ≤ count head table x
      enough q i p j one other apart (yes b) = b
      enough q i p j one other apart (no b) =
          absurd (apart (counted_once table x head.n {k = head.g + 1}
          (omega (arith, one.node)) one.letter (omega (arith, other.node)) other.letter
          one.holds other.holds (omega arith)))

  eight_to : (x : ℕ) → 1 ≤ x → x < 1 + head.g → nowhere head table x ≡ true → InNone l x
  unfolding table_in
  eight_to x low high e = (
    (low, omega arith),
    λ q i s. omega (
      arith,
      eqb-true (count head table x) 0 e,
      counted table x head.n {q = q} {i = i} {k = head.g + 1} (omega (arith, s.node))
          s.letter s.holds,
    ),
  )

  eight_from : (x : ℕ) → InNone l x → (1 ≤ x) × (x < 1 + head.g) × (nowhere head table x ≡ true)
  eight_from x s = (
    s.0.0,
    omega (arith, s.0.1),
    eq-eqb (count head table x) 0 (zero_times (dec_le 1 (count head table x))),
  )
    where
      zero_times : Dec (1 ≤ count head table x) → count head table x ≡ 0
      zero_times (no b) = omega arith
      zero_times (yes b) =
          let (q, i, there) = one_link table x head.n (head.g + 1) b in
          absurd (s.1 q i (stands_in there))

  sixteen_to : (x : ℕ) → 1 ≤ x → x < 1 + head.g → unreached head table x ≡ true → Unreached l x
  unfolding table_in
  sixteen_to x low high e = (
    omega arith,
    λ r. omega (
      arith,
      ltb-true head.g (depth_of table head.n head.g x) e,
      reached_depth table head.n head.g (framed head l) x (omega arith) r,
    ),
  )

  sixteen_from : (x : ℕ) → Unreached l x
      → (1 ≤ x) × (x < 1 + head.g) × (unreached head table x ≡ true)
  unfolding table_in
  sixteen_from x s = (
    above (ℕ_discrete x 0),
    omega (arith, s.0),
    lt-ltb head.g depth (deep (dec_le depth head.g)),
  )
    where
      depth : ℕ
      depth = depth_of table head.n head.g x

      above : Dec (x ≡ 0) → 1 ≤ x
      above (yes z) = absurd (s.1 (rw z ([], descend_nil table 0)))
      above (no d) = omega arith

      deep : Dec (depth ≤ head.g) → head.g < depth
      deep (yes b) = absurd (s.1 (depth_reached table head.n head.g x b))
      deep (no b) = omega arith

  -- a walk of min to max letters leads to a node exactly if it is at such a depth
  nineteen_to : (x : ℕ) → 0 ≤ x → x < 0 + (head.g + 1) → is_hidden head table x ≡ true → Hidden l x
  unfolding table_in is_hidden
  nineteen_to x low high e =
      let (full, deep) =
      both (ltb 0 (table.value x))
      (not (depth_within table head.n head.g head.min head.max x)) e in
      let there = ltb-true 0 (table.value x) full in (
        omega arith,
        λ z. omega arith,
        λ k w. outside k w (not-true _ deep) (dec_le head.min (length k))
            (dec_le (length k) head.max),
      )
    where
      outside : (k : List ℕ) → descend table 0 k ≡ complete x
          → depth_within table head.n head.g head.min head.max x ≡ false
          → Dec (head.min ≤ length k) → Dec (length k ≤ head.max)
          → (length k < head.min) ⊎ (head.max < length k)
      outside k w f (no b) _ = inl (omega arith)
      outside k w f (yes b) (no c) = inr (omega arith)
      outside k w f (yes b) (yes c) =
          absurd (true≢false (sym
          (walk_within table head.n head.g (framed head l) head.min head.max x k w b c)
          ∙ f))

  nineteen_from : (x : ℕ) → Hidden l x
      → (0 ≤ x) × (x < 0 + (head.g + 1)) × (is_hidden head table x ≡ true)
  unfolding table_in is_hidden
  nineteen_from x s = (
    omega arith,
    omega (arith, s.0),
    rw (lt-ltb 0 (table.value x) (omega (arith, s.1))) (rw (shut (within x) refl)),
  )
    where
      within : ℕ → Bool
      within y = depth_within table head.n head.g head.min head.max y

      shut : (b : Bool) → within x ≡ b → within x ≡ false
      shut false e = e
      shut true e =
          let (k, w, low, high) =
          within_walk table head.n head.g head.min head.max x e in
          absurd (⊎_elim (λ b. omega arith) (λ b. omega arith) (s.2 k w))

  pub six_fits : Fits (row6 head table) (6 when ((q : ℕ) × HoldsBreaking l q))
  unfolding row6
  six_fits = lowest_fits 6 (holds head table) 0 (head.g + 1) six_to six_from

  pub seven_fits : Fits (row7 head table) (7 when ((x : ℕ) × InTwo l x))
  unfolding row7
  seven_fits = lowest_fits 7 (twice head table) 1 head.g seven_to seven_from

  pub eight_fits : Fits (row8 head table) (8 when ((x : ℕ) × InNone l x))
  unfolding row8
  eight_fits = lowest_fits 8 (nowhere head table) 1 head.g eight_to eight_from

  pub sixteen_fits : Fits (row16 head table) (16 when ((x : ℕ) × Unreached l x))
  unfolding row16
  sixteen_fits = lowest_fits 16 (unreached head table) 1 head.g sixteen_to sixteen_from

  pub nineteen_fits : Fits (row19 head table) (19 when ((x : ℕ) × Hidden l x))
  unfolding row19
  nineteen_fits = lowest_fits 19 (is_hidden head table) 0 (head.g + 1) nineteen_to nineteen_from

  -- ---- their places

  -- a number without a place
  pub placeless : (n : ℕ) → (n ≤ 5) ⊎ ((9 ≤ n) × (n ≤ 15)) → RightPlace l n 0
  placeless n far =
      record {
        six = λ e. absurd (⊎_elim (λ b. omega arith) (λ b. omega arith) far);
        seven = λ e. absurd (⊎_elim (λ b. omega arith) (λ b. omega arith) far);
        eight = λ e. absurd (⊎_elim (λ b. omega arith) (λ b. omega arith) far);
        sixteen = λ e. absurd (⊎_elim (λ b. omega arith) (λ b. omega arith) far);
        nineteen = λ e. absurd (⊎_elim (λ b. omega arith) (λ b. omega arith) far);
        others = λ _ _ _ _ _. refl;
      }

  six_right : (n place : ℕ) → (n ≡ 6) × LowestOf (HoldsBreaking l) place → RightPlace l n place
  six_right n place s =
      record {
        six = λ _. s.1;
        seven = λ e. absurd (omega (arith, s.0));
        eight = λ e. absurd (omega (arith, s.0));
        sixteen = λ e. absurd (omega (arith, s.0));
        nineteen = λ e. absurd (omega (arith, s.0));
        others = λ d _ _ _ _. absurd (d s.0);
      }

  seven_right : (n place : ℕ) → (n ≡ 7) × LowestOf (InTwo l) place → RightPlace l n place
  seven_right n place s =
      record {
        six = λ e. absurd (omega (arith, s.0));
        seven = λ _. s.1;
        eight = λ e. absurd (omega (arith, s.0));
        sixteen = λ e. absurd (omega (arith, s.0));
        nineteen = λ e. absurd (omega (arith, s.0));
        others = λ _ d _ _ _. absurd (d s.0);
      }

  eight_right : (n place : ℕ) → (n ≡ 8) × LowestOf (InNone l) place → RightPlace l n place
  eight_right n place s =
      record {
        six = λ e. absurd (omega (arith, s.0));
        seven = λ e. absurd (omega (arith, s.0));
        eight = λ _. s.1;
        sixteen = λ e. absurd (omega (arith, s.0));
        nineteen = λ e. absurd (omega (arith, s.0));
        others = λ _ _ d _ _. absurd (d s.0);
      }

  sixteen_right : (n place : ℕ) → (n ≡ 16) × LowestOf (Unreached l) place → RightPlace l n place
  sixteen_right n place s =
      record {
        six = λ e. absurd (omega (arith, s.0));
        seven = λ e. absurd (omega (arith, s.0));
        eight = λ e. absurd (omega (arith, s.0));
        sixteen = λ _. s.1;
        nineteen = λ e. absurd (omega (arith, s.0));
        others = λ _ _ _ d _. absurd (d s.0);
      }

  nineteen_right : (n place : ℕ) → (n ≡ 19) × LowestOf (Hidden l) place → RightPlace l n place
  nineteen_right n place s =
      record {
        six = λ e. absurd (omega (arith, s.0));
        seven = λ e. absurd (omega (arith, s.0));
        eight = λ e. absurd (omega (arith, s.0));
        sixteen = λ e. absurd (omega (arith, s.0));
        nineteen = λ _. s.1;
        others = λ _ _ _ _ d. absurd (d s.0);
      }

  pub six_tells : Tells (RightPlace l) (row6 head table)
  unfolding row6
  six_tells = tell_alike (row6 head table) six_right
      (lowest_tells 6 (holds head table) 0 (head.g + 1) six_to six_from)

  pub seven_tells : Tells (RightPlace l) (row7 head table)
  unfolding row7
  seven_tells = tell_alike (row7 head table) seven_right
      (lowest_tells 7 (twice head table) 1 head.g seven_to seven_from)

  pub eight_tells : Tells (RightPlace l) (row8 head table)
  unfolding row8
  eight_tells = tell_alike (row8 head table) eight_right
      (lowest_tells 8 (nowhere head table) 1 head.g eight_to eight_from)

  pub sixteen_tells : Tells (RightPlace l) (row16 head table)
  unfolding row16
  sixteen_tells = tell_alike (row16 head table) sixteen_right
      (lowest_tells 16 (unreached head table) 1 head.g sixteen_to sixteen_from)

  pub nineteen_tells : Tells (RightPlace l) (row19 head table)
  unfolding row19
  nineteen_tells = tell_alike (row19 head table) nineteen_right
      (lowest_tells 19 (is_hidden head table) 0 (head.g + 1) nineteen_to nineteen_from)
