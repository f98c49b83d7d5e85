-- Rows 6 to 8, 16 and 19, and the rules on links and data: the rows pass exactly where the rules
-- hold. The rows speak of the nodes and letters of the image, the rules of every link; a table has
-- no other link. In how many links an address stands is a sum, above 0 where one link holds it.
use Prim.Native.Nat.{ℕ, ◌+◌, ◌≤◌, ◌<◌}
use mathlib.Core.Path.{◌≡◌, refl, sym, ◌∙◌, subst}
use mathlib.Core.Bool.{Bool, true, false, not, ◌&&◌, cond, true≢false}
use mathlib.Core.Logic.{◌↔◌, ◌≢◌}
use mathlib.Core.Option.{none, some}
use mathlib.Core.List.{[], ◌∷◌}
use native.Mathlib.Omega.{arith}
use native.Mathlib.Decide.{ℕ_discrete, dec_le}
use lib.Dec.{leb, ltb, eqb}
use lib.ListN.{length}
use borrow.Author.Tests.{lt-ltb, le-ltb, lt-leb, eq-eqb, ne_eqb, leb-false}
use borrow.Author.Tests.{ltb-true, ltb-false, eqb-true, eqb-false}
use Rattle.trie.specs.Table.{Table, Descent, complete, stopped, descend}
use Rattle.trie.specs.Lowest.{lowest}
use Rattle.trie.specs.Rules.{Framed, Within, Named, Once, AllReached, LinkRules}
use Rattle.trie.specs.Rules.{Visible}
use Rattle.trie.specs.Tree.{Reachable, depth_of, depth_within}
use Rattle.trie.specs.Storing.{grow}
use Rattle.trie.proofs.Depth.{reached_depth, depth_reached, walk_within, within_walk}
use Rattle.trie.proofs.Walk.{descend_nil, one_key, complete_within, answer_complete}
use Rattle.trie.proofs.Walk.{answer_stopped}
use Rattle.trie.proofs.Lowest.{NonePasses, lowest_none, none_lowest, lowest_least, lowest_at}
use Rattle.trie.proofs.Lowest.{any_here, any_none, none_any}
use Rattle.trie.proofs.Counted.{Sums, one_part, two_parts, some_part, one_at_most}
use Rattle.trie.proofs.Unlinked.{unlinked_within, unlinked_once, unlinked_names}
use Rattle.trie.proofs.Unlinked.{unlinked_none}
use Rattle.head.specs.declared.Head.{Head}
use Rattle.alphabet.specs.Letters.{among}
use Rattle.paper.specs.Hearing.{Said, Row, row_when, first}
use Rattle.paper.specs.Answers.{number_at}
use Rattle.paper.specs.Rows.{bad_link, holds_bad, row_when_lowest, row6, times_in, times, row7}
use Rattle.paper.specs.Rows.{row8, row16, is_hidden, row19}
use Rattle.paper.specs.Orders.{node_rows}
use Rattle.paper.proofs.Hearing.{not_given, is_given, was_false, first_nil, first_none}
use Rattle.paper.proofs.Hearing.{first_some, passed_row}
use Rattle.paper.proofs.Numbers.{AllSay, end, ◌then◌, lowest_says, first_says, one_of}
use Rattle.paper.proofs.Numbers.{pass_row}

-- ---- a bad link, and a node that holds one

pub not_bad : (g c : ℕ) → (bad_link g c ≡ false) ↔ (c ≤ g)
unfolding bad_link
not_bad g c = (ltb-false g c, le-ltb g c)

-- a link that is not bad is not bad with a greater G either
pub milder : (g g' c : ℕ) → g ≤ g' → bad_link g c ≡ false → bad_link g' c ≡ false
milder g g' c b e = (not_bad g' c).1 (omega (arith, (not_bad g c).0 e))

module _ (g : ℕ) (t : Table) (q : ℕ) where
  pub holds_bad_lem : (m : ℕ) {i : ℕ} → i < m → bad_link g (t.child q i) ≡ true → holds_bad g t q m
      ≡ true
  unfolding holds_bad
  holds_bad_lem m h e = any_here (λ i. bad_link g (t.child q i)) m h e

  pub holds_none : (m : ℕ) → ((i : ℕ) → i < m → bad_link g (t.child q i) ≡ false)
      → holds_bad g t q m ≡ false
  unfolding holds_bad
  holds_none m good = any_none (λ i. bad_link g (t.child q i)) m good

  pub none_held : (m : ℕ) → holds_bad g t q m ≡ false → (i : ℕ) → i < m → bad_link g (t.child q i)
      ≡ false
  unfolding holds_bad
  none_held m e i h = none_any (λ i. bad_link g (t.child q i)) m e i h

-- ---- in how many links an address stands

pub hit : ℕ → ℕ → ℕ
hit x c = cond (eqb c x) 1 0

hit_one : {x c : ℕ} → c ≡ x → 1 ≤ hit x c
unfolding hit
hit_one {x} {c} e = rw (eq-eqb c x e) (omega arith)

pub one_hit : (x c : ℕ) → 1 ≤ hit x c → c ≡ x
unfolding hit
one_hit x c h = go (eqb c x) refl h
  where
    go : (b : Bool) → eqb c x ≡ b → 1 ≤ cond b 1 0 → c ≡ x
    go true e h = eqb-true c x e
    go false e h = absurd (omega arith)

pub hit_most : (x c : ℕ) → hit x c ≤ 1
unfolding hit
hit_most x c = go (eqb c x)
  where
    go : (b : Bool) → cond b 1 0 ≤ 1
    go true = omega arith
    go false = omega arith

module _ (t : Table) (x : ℕ) where
  pub in_node : (q : ℕ) → Sums (times_in t x q) (λ i. hit x (t.child q i))
  unfolding times_in hit
  in_node q = record { start = refl; more = λ m. refl }

  pub in_nodes : (n : ℕ) → Sums (times t n x) (λ q. times_in t x q n)
  unfolding times
  in_nodes n = record { start = refl; more = λ k. refl }

  -- a link that holds x is counted
  pub counted : (n : ℕ) {q i k : ℕ} → q < k → i < n → t.child q i ≡ x → 1 ≤ times t n x k
  counted n {q} a b e = omega (arith, one_part (in_node q) b, hit_one e, one_part (in_nodes n) a)

  -- where x is counted less than twice, two links that hold it are one link
  pub counted_once : (n : ℕ) {q i p j k : ℕ} → q < k → i < n → p < k → j < n → t.child q i ≡ x
      → t.child p j ≡ x → times t n x k < 2
      → (q ≡ p) × (i ≡ j)
  counted_once n {q} {i} {p} {j} {k} a b c d e f few = go (ℕ_discrete q p) (ℕ_discrete i j)
    where
      go : Dec (q ≡ p) → Dec (i ≡ j) → (q ≡ p) × (i ≡ j)
      go (no apart) _ =
          absurd (omega (
            arith,
            one_part (in_node q) b,
            hit_one e,
            one_part (in_node p) d,
            hit_one f,
            two_parts (in_nodes n) a c apart,
          ))
      go (yes s) (no apart) =
          let there : t.child q j ≡ x = rw s f in
          absurd (omega (
            arith,
            two_parts (in_node q) b d apart,
            hit_one e,
            hit_one there,
            one_part (in_nodes n) a,
          ))
      go (yes s) (yes r) = (s, r)

  -- an address that is counted stands in a link
  pub stands : (n k : ℕ) → 1 ≤ times t n x k → (q : ℕ) × (i : ℕ) × (t.child q i ≡ x)
  stands n k h =
      let (q, a, u) = some_part (in_nodes n) k h in
      let (i, b, v) = some_part (in_node q) n u in
      (q, i, one_hit x (t.child q i) v)

  -- where no two links hold one address, it is counted less than twice
  stands_once : (n k : ℕ) → 1 ≤ x → Once t → times t n x k < 2
  stands_once n k h once =
      omega (
        arith,
        one_at_most (in_nodes n) k
            (λ q. one_at_most (in_node q) n (λ i. hit_most x (t.child q i))
            (λ i j u v. (same q i q j u v).1))
            (λ q p u v.
            let (i, a, e) = some_part (in_node q) n u in
            let (j, b, f) = some_part (in_node p) n v in
            (same q i p j e f).0),
      )
    where
      same : (q i p j : ℕ) → 1 ≤ hit x (t.child q i) → 1 ≤ hit x (t.child p j)
          → (q ≡ p) × (i ≡ j)
      same q i p j u v =
          let e = one_hit x (t.child q i) u in
          let f = one_hit x (t.child p j) v in
          once q i p j (omega arith) (e ∙ sym f)

-- ---- rows with a place

-- a row with a place is given exactly where a number passes its test
module _ (number : ℕ) (test : ℕ → Bool) (a k : ℕ) where
  pub lowest_passed : NonePasses test a k → row_when_lowest number test a k ≡ none
  unfolding row_when_lowest
  lowest_passed h =
      not_given number _ (le-ltb (lowest test a k) (a + k) (omega (arith, lowest_none test a k h)))

  pub passed_lowest : row_when_lowest number test a k ≡ none → NonePasses test a k
  unfolding row_when_lowest
  passed_lowest e =
      none_lowest test a k (ltb-false (lowest test a k) (a + k) (was_false number _ _ e))

module _ (h : Head) (t : Table) where
  -- row 6: does a node hold a bad link?
  abbrev pub holds : ℕ → Bool
  holds q = holds_bad h.g t q h.n

  -- in how many links an address stands
  abbrev pub count : ℕ → ℕ
  count x = times t h.n x (h.g + 1)

  -- row 7: does an address stand in two links or more?
  abbrev pub twice : ℕ → Bool
  twice x = leb 2 (count x)

  -- row 8: does an address stand in no link?
  abbrev pub nowhere : ℕ → Bool
  nowhere x = eqb (count x) 0

  pub row6_none : ((q : ℕ) → q ≤ h.g → holds q ≡ false) → row6 h t ≡ none
  unfolding row6
  row6_none f = lowest_passed 6 holds 0 (h.g + 1) (λ q _ b. f q (omega arith))

  pub none_row6 : row6 h t ≡ none → (q : ℕ) → q ≤ h.g → holds q ≡ false
  unfolding row6
  none_row6 e q b = passed_lowest 6 holds 0 (h.g + 1) e q (omega arith) (omega arith)

  pub row7_none : ((x : ℕ) → 1 ≤ x → x ≤ h.g → count x < 2) → row7 h t ≡ none
  unfolding row7
  row7_none f = lowest_passed 7 twice 1 h.g (λ x b c. lt-leb 2 (count x) (f x b (omega arith)))

  pub none_row7 : row7 h t ≡ none → (x : ℕ) → 1 ≤ x → x ≤ h.g → count x < 2
  unfolding row7
  none_row7 e x b c = leb-false 2 (count x) (passed_lowest 7 twice 1 h.g e x b (omega arith))

  pub row8_none : ((x : ℕ) → 1 ≤ x → x ≤ h.g → count x ≢ 0) → row8 h t ≡ none
  unfolding row8
  row8_none f =
      lowest_passed 8 nowhere 1 h.g (λ x b c. ne_eqb (count x) 0 (f x b (omega arith)))

  -- row 16: is a node not reached?
  abbrev pub unreached : ℕ → Bool
  unreached x = ltb h.g (depth_of t h.n h.g x)

  pub row16_none : ((x : ℕ) → 1 ≤ x → x ≤ h.g → depth_of t h.n h.g x ≤ h.g)
      → row16 h t ≡ none
  unfolding row16
  row16_none f =
      lowest_passed 16 unreached 1 h.g (λ x b c. le-ltb h.g _ (f x b (omega arith)))

  pub none_row16 : row16 h t ≡ none → (x : ℕ) → 1 ≤ x → x ≤ h.g
      → depth_of t h.n h.g x ≤ h.g
  unfolding row16
  none_row16 e x b c =
      ltb-false h.g _ (passed_lowest 16 unreached 1 h.g e x b (omega arith))

  pub none_row8 : row8 h t ≡ none → (x : ℕ) → 1 ≤ x → x ≤ h.g → count x ≢ 0
  unfolding row8
  none_row8 e x b c = eqb-false (count x) 0 (passed_lowest 8 nowhere 1 h.g e x b (omega arith))

  -- row 19: data that is not 0 is not hidden exactly if its node is at a depth in min..max
  pub within : ℕ → Bool
  within x = depth_within t h.n h.g h.min h.max x

  pub shown : (x : ℕ) → is_hidden h t x ≡ false → t.value x ≢ 0 → within x ≡ true
  unfolding is_hidden within
  shown x e full = go (within x) refl
    where
      go : (b : Bool) → within x ≡ b → within x ≡ true
      go true f = f
      go false f =
          let there : ltb 0 (t.value x) ≡ true = lt-ltb 0 (t.value x) (omega arith) in
          absurd (true≢false (rw (there, f) at e))

  pub not_hidden : (x : ℕ) → (t.value x ≢ 0 → within x ≡ true) → is_hidden h t x ≡ false
  unfolding is_hidden within
  not_hidden x f = go (ℕ_discrete (t.value x) 0)
    where
      neither : (b : Bool) → (b && false) ≡ false
      neither true = refl
      neither false = refl

      go : Dec (t.value x ≡ 0) → (ltb 0 (t.value x) && not (within x)) ≡ false
      go (yes z) = rw (le-ltb 0 (t.value x) (omega arith))
      go (no d) = rw (f d) (neither (ltb 0 (t.value x)))

  pub row19_none : ((x : ℕ) → x ≤ h.g → is_hidden h t x ≡ false) → row19 h t ≡ none
  unfolding row19
  row19_none f = lowest_passed 19 (is_hidden h t) 0 (h.g + 1) (λ x _ b. f x (omega arith))

  pub none_row19 : row19 h t ≡ none → (x : ℕ) → x ≤ h.g → is_hidden h t x ≡ false
  unfolding row19
  none_row19 e x b = passed_lowest 19 (is_hidden h t) 0 (h.g + 1) e x (omega arith) (omega arith)

-- ---- 6 to 8, 16 and 19 pass exactly where the rules on links and data hold

module _ (h : Head) (t : Table) (f : Framed t h.g h.n) where
  -- a link that is not empty is one of a node up to G, for a letter below N
  pub inside : (q i : ℕ) → t.child q i ≢ 0 → (q ≤ h.g) × (i < h.n)
  inside q i d = (node (dec_le q h.g), letter (dec_le h.n i))
    where
      node : Dec (q ≤ h.g) → q ≤ h.g
      node (yes b) = b
      node (no b) = absurd (d (f.no_node q i (omega arith)))

      letter : Dec (h.n ≤ i) → i < h.n
      letter (no b) = omega arith
      letter (yes b) = absurd (d (f.no_letter q i b))

  pub none_within : row6 h t ≡ none → Within t h.g
  none_within e q i = go (ℕ_discrete (t.child q i) 0)
    where
      go : Dec (t.child q i ≡ 0) → t.child q i ≤ h.g
      go (yes z) = omega arith
      go (no d) =
          let (a, b) = inside q i d in
          (not_bad h.g (t.child q i)).0 (none_held h.g t q h.n (none_row6 h t e q a) i b)

  rules_6 : Within t h.g → row6 h t ≡ none
  rules_6 w =
      row6_none h t (λ q _. holds_none h.g t q h.n
      (λ i _. (not_bad h.g (t.child q i)).1 (w q i)))

  pub none_once : Within t h.g → row7 h t ≡ none → Once t
  none_once w e q i p j d s =
      let x : ℕ = t.child q i in
      let (a, b) = inside q i d in
      let (a', b') = inside p j (rw (← s) d) in
      counted_once t x h.n (omega arith) b (omega arith) b' refl (sym s)
      (none_row7 h t e x (omega arith) (w q i))

  rules_7 : Once t → row7 h t ≡ none
  rules_7 once = row7_none h t (λ x b _. stands_once t x h.n (h.g + 1) b once)

  pub none_named : row8 h t ≡ none → Named t h.g
  none_named e x b c = stands t x h.n (h.g + 1) (omega (arith, none_row8 h t e x b c))

  rules_8 : Named t h.g → row8 h t ≡ none
  rules_8 named = row8_none h t (λ x b c z.
      let (q, i, e) = named x b c in
      let (a, b') = inside q i (omega arith) in
      omega (arith, counted t x h.n {q = q} {i = i} {k = h.g + 1} (omega arith) b' e))

  none_reached : row16 h t ≡ none → AllReached t h.g
  none_reached e c high = go (ℕ_discrete c 0)
    where
      go : Dec (c ≡ 0) → Reachable t c
      go (yes z) = rw z ([], descend_nil t 0)
      go (no d) = depth_reached t h.n h.g c (none_row16 h t e c (omega arith) high)

  rules_16 : AllReached t h.g → row16 h t ≡ none
  rules_16 reached =
      row16_none h t (λ x b c. reached_depth t h.n h.g f x c (reached x c))

  none_visible : Within t h.g → Once t → row19 h t ≡ none → Visible t h.min h.max
  unfolding within
  none_visible inside once e k full = go (descend t 0 k) refl
    where
      go : (d : Descent) → descend t 0 k ≡ d → (h.min ≤ length k) × (length k ≤ h.max)
      go (stopped q x xs) s = absurd (full (answer_stopped t k s))
      go (complete q) s =
          let b = complete_within t h.g k inside s in
          let there : t.value q ≢ 0 = λ z. full (answer_complete t k s ∙ z) in
          let at = shown h t q (none_row19 h t e q b) there in
          let (m, w, low, high) = within_walk t h.n h.g h.min h.max q at in
          rw (one_key t k m once s w) (low, high)

  rules_19 : AllReached t h.g → Visible t h.min h.max → row19 h t ≡ none
  unfolding within
  rules_19 reached visible =
      row19_none h t (λ x b. not_hidden h t x (λ full.
      let (k, e) = reached x b in
      let (low, high) = visible k (λ z. full (sym (answer_complete t k e) ∙ z)) in
      walk_within t h.n h.g f h.min h.max x k e low high))

  -- 6 to 8, 16 and 19 for a table, in both directions
  pub rules_pass : LinkRules t h.g → Visible t h.min h.max → first (node_rows h t) ≡ none
  unfolding node_rows
  rules_pass r visible =
      first_none _ _ (rules_6 r.within)
      ∙ first_none _ _ (rules_7 r.once)
      ∙ first_none _ _ (rules_8 r.named)
      ∙ first_none _ _ (rules_16 r.reached)
      ∙ first_none _ _ (rules_19 r.reached visible)
      ∙ first_nil

  pub passed_rules : first (node_rows h t) ≡ none
      → LinkRules t h.g × Visible t h.min h.max
  unfolding node_rows
  passed_rules e =
      let after6 = passed_row (row6 h t) (row7 h t ∷ row8 h t ∷ row16 h t ∷ row19 h t ∷ []) e in
      let after7 = passed_row (row7 h t) (row8 h t ∷ row16 h t ∷ row19 h t ∷ []) after6.1 in
      let after8 = passed_row (row8 h t) (row16 h t ∷ row19 h t ∷ []) after7.1 in
      let after16 = passed_row (row16 h t) (row19 h t ∷ []) after8.1 in
      let none-19 = (passed_row (row19 h t) [] after16.1).0 in
      let inside : Within t h.g = none_within after6.0 in
      let once : Once t = none_once inside after7.0 in (
        record {
          within = inside;
          named = none_named after8.0;
          once = once;
          reached = none_reached after16.0;
        },
        none_visible inside once none-19,
      )

-- 6 to 8, 16 and 19 give no other number
pub linking_says : (h : Head) (t : Table) → AllSay (6 ∷ 7 ∷ 8 ∷ 16 ∷ 19 ∷ []) (node_rows h t)
unfolding node_rows row6 row7 row8 row16 row19 among
linking_says h t =
    lowest_says 6 (holds h t) 0 (h.g + 1) refl
    then lowest_says 7 (twice h t) 1 h.g refl
    then lowest_says 8 (nowhere h t) 1 h.g refl
    then lowest_says 16 (unreached h t) 1 h.g refl
    then lowest_says 19 (is_hidden h t) 0 (h.g + 1) refl
    then end

-- ---- what is known where 8 is given

-- the place of such a row is one of the numbers that it tests
lowest_said : (number : ℕ) (test : ℕ → Bool) (a k : ℕ) {s : Said} → row_when_lowest number test a k
    ≡ some s → (a ≤ s.place) × (s.place < a + k)
unfolding row_when_lowest row_when
lowest_said number test a k {s} e = go (ltb (lowest test a k) (a + k)) refl e
  where
    go : (b : Bool) → ltb (lowest test a k) (a + k) ≡ b → row_when number (lowest test a k) b
        ≡ some s → (a ≤ s.place) × (s.place < a + k)
    go true f g =
        let same : lowest test a k ≡ s.place = cc in
        (omega (arith, lowest_least test a k), omega (arith, ltb-true (lowest test a k) (a + k) f))
    go false f g = let z : ◌≡◌ {A = ℕ} 0 1 = cc in absurd (omega arith)

pub eight_place : (h : Head) (t : Table) {s : Said} → first (node_rows h t) ≡ some s → s.number ≡ 8
    → (1 ≤ s.place) × (s.place ≤ h.g)
unfolding node_rows row6 row7 row8 row16 row19 among first
eight_place h t {s} e n =
    let after6 =
    pass_row (row7 h t ∷ row8 h t ∷ row16 h t ∷ row19 h t ∷ []) 8
    (lowest_says {numbers = 6 ∷ []} 6 (holds h t) 0 (h.g + 1) refl) refl n e in
    let after7 =
    pass_row (row8 h t ∷ row16 h t ∷ row19 h t ∷ []) 8
    (lowest_says {numbers = 7 ∷ []} 7 (twice h t) 1 h.g refl)
    refl n after6.1 in
    let b = lowest_said 8 (nowhere h t) 1 h.g (eighth (row8 h t) refl after7.1) in
    (b.0, omega (arith, b.1))
  where
    eighth : (r : Row) → row8 h t ≡ r → first (r ∷ row16 h t ∷ row19 h t ∷ []) ≡ some s
        → r ≡ some s
    eighth none _ f =
        let says = first_says
        (lowest_says {numbers = 16 ∷ 19 ∷ []} 16 (unreached h t) 1 h.g refl
        then lowest_says 19 (is_hidden h t) 0 (h.g + 1) refl
        then end) in
        let said : among 8 (16 ∷ 19 ∷ []) ≡ true =
        subst (λ (m : ℕ). among m (16 ∷ 19 ∷ []) ≡ true) n (one_of says f) in
        let z : ◌≡◌ {A = ℕ} 0 1 = cc in absurd (omega arith)
    eighth (some s) _ f = f

-- ---- a table that lacks one link: 8 is given at the address that the link would hold, and no
-- row before it is given

-- link x of node q is empty, and with address c in it the links meet 01's rules
pub record Unlinked (g : ℕ) (t : Table) (q x c : ℕ) : Type 0 where
  pub empty : t.child q x ≡ 0
  pub least : 1 ≤ c
  pub most : c ≤ g
  pub rules : LinkRules (grow t q x c) g

module _ (h : Head) (t : Table) (f : Framed t h.g h.n) {q x c : ℕ}
    (u : Unlinked h.g t q x c) where
  none_counted : count h t c ≡ 0
  none_counted = go (dec_le 1 (count h t c))
    where
      go : Dec (1 ≤ count h t c) → count h t c ≡ 0
      go (yes b) =
          let (p, i, e) = stands t c h.n (h.g + 1) b in
          absurd (unlinked_none t q x c u.empty (omega (arith, u.least)) u.rules.once p i
          e)
      go (no b) = omega arith

  others_counted : (y : ℕ) → 1 ≤ y → y < c → count h t y ≢ 0
  others_counted y low high z =
      let (p, i, e) = unlinked_names t q x c u.empty u.rules.named y low
      (omega (arith, u.most)) (omega arith) in
      let (a, b) = inside h t f p i (omega arith) in
      omega (arith, counted t y h.n {q = p} {i = i} {k = h.g + 1} (omega arith) b e)

  said_8 : row8 h t ≡ some (number_at 8 c)
  unfolding row8 row_when_lowest
  said_8 =
      let at : lowest (nowhere h t) 1 h.g ≡ c =
      lowest_at (nowhere h t) 1 h.g c u.least (omega (arith, u.most))
      (eq-eqb (count h t c) 0 none_counted)
      (λ y low high. ne_eqb (count h t y) 0 (others_counted y low high)) in
      rw at (is_given 8 c (lt-ltb c (1 + h.g) (omega (arith, u.most))))

  pub unlinked_8 : first (node_rows h t) ≡ some (number_at 8 c)
  unfolding node_rows
  unlinked_8 =
      first_none _ _
      (rules_6 h t f (unlinked_within t q x c u.empty u.rules.within))
      ∙ first_none _ _ (rules_7 h t f (unlinked_once t q x c u.empty u.rules.once))
      ∙ first_some _ _ said_8
