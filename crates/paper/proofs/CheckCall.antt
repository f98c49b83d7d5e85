-- Demand 2, "Lent enough working numbers, the check accepts exactly the images that meet the
-- TRIEFF rules as document 01 reads them": 1 to 8, 16 and 19 pass exactly where the image is
-- `Accepted`. Each row is a rule negated; 6 to 8, 16 and 19 are in `Linking`.
use Prim.Native.Nat.{ℕ, ◌+◌, ◌≤◌, ◌<◌}
use mathlib.Core.Path.{◌≡◌, refl, ap, ◌∙◌}
use mathlib.Core.Logic.{◌↔◌}
use mathlib.Core.Option.{none, some}
use mathlib.Core.List.{List, [], ◌∷◌, ◌++◌}
use native.Mathlib.Omega.{arith}
use lib.ListN.{length, drop, replicate}
use lib.Dec.{ltb}
use borrow.Author.Tests.{lt-ltb, le-ltb, le-leb, ltb-false}
use Rattle.field.proofs.Range.{between_true, true_between}
use Rattle.trie.specs.Rules.{Linked}
use Rattle.trie.proofs.Rules.{rules_linked}
use Rattle.head.specs.declared.Head.{Head}
use Rattle.head.specs.Fields.{shortest_image, longest_image, head_of, used_len}
use Rattle.alphabet.specs.Letters.{among}
use Rattle.node.specs.Image.{table_of, Open}
use Rattle.node.proofs.Tables.{framed}
use Rattle.paper.specs.Hearing.{Row, first, heard, done_numbers}
use Rattle.paper.specs.Rows.{row5}
use Rattle.paper.specs.Given.{alphabet_in}
use Rattle.paper.specs.Orders.{opening_rows_of, node_rows, check_order}
use Rattle.paper.specs.Calls.{table_in, cleared_by, work_after, check_of}
use Rattle.paper.specs.Accepted.{Accepted}
use Rattle.paper.proofs.Hearing.{was_false, first_nil, yes_row, no_row, first_part}
use Rattle.paper.proofs.Hearing.{second_part, passed_row, passed_parts}
use Rattle.paper.proofs.Numbers.{AllSay, end, ◌then◌, given_says, parts_say, first_says}
use Rattle.paper.proofs.Numbers.{none_heard}
use Rattle.paper.proofs.Opening.{fits_4, left_4, Passed, passed, opening_says}
use Rattle.paper.proofs.Opening.{good_unspoilt, unspoilt_good, alphabet_whole}
use Rattle.paper.proofs.Linking.{rules_pass, passed_rules, linking_says}

-- ---- 1 to 5

pub accepted_opens : {l : List ℕ} → Accepted l → first (opening_rows_of l) ≡ none
unfolding opening_rows_of
accepted_opens {l} a =
    let h : Head = head_of l in
    let long =
    true_between (length l) shortest_image longest_image a.long_enough a.short_enough in
    let unspoilt =
    good_unspoilt h (alphabet_in h l) (length l) (λ b _. a.alphabet_good (omega arith)) in
    left_4 h (alphabet_in h l) (length l) long a.head_permitted unspoilt
    ∙ fits_4 h (length l) (le-leb (used_len h) (length l) a.room)

-- ---- 1 to 8, 16 and 19, of an image and the working numbers lent

-- the numbers of a check's refusals
abbrev pub check_numbers : List ℕ
check_numbers = 1 ∷ 2 ∷ 3 ∷ 4 ∷ 5 ∷ 6 ∷ 7 ∷ 8 ∷ 16 ∷ 19 ∷ []

module _ (l work : List ℕ) where
  -- once 1 to 5 have passed, 6 to 8, 16 and 19 decide
  pub left_6 : first (opening_rows_of l) ≡ none → (head_of l).g + 1 ≤ length work
      → first (check_order l work) ≡ first (node_rows (head_of l) (table_of (head_of l) l))
  unfolding check_order row5
  left_6 e b =
      second_part (opening_rows_of l) _ e
      ∙ no_row 5 0 _ (le-ltb (length work) ((head_of l).g + 1) b)

  -- what is known of an image and the working numbers once the check has passed
  pub record Checked : Type 0 where
    pub opened : Passed (head_of l) (alphabet_in (head_of l) l) (length l)
    pub lent : (head_of l).g + 1 ≤ length work
    pub nodes : first (node_rows (head_of l) (table_of (head_of l) l)) ≡ none

  pub checked : first (check_order l work) ≡ none → Checked
  unfolding check_order opening_rows_of row5
  checked e =
      let h : Head = head_of l in
      let parts =
      passed_parts (opening_rows_of l) (row5 h (length work) ∷ node_rows h (table_of h l)) e in
      let after5 = passed_row (row5 h (length work)) (node_rows h (table_of h l)) parts.1 in
      record {
        opened = passed h (alphabet_in h l) (length l) parts.0;
        lent = ltb-false (length work) (h.g + 1) (was_false 5 0 _ after5.0);
        nodes = after5.1;
      }

  -- ---- the theorem

  pub check_accepts : first (check_order l work) ≡ none → Accepted l
  unfolding table_in
  check_accepts e =
      let h : Head = head_of l in
      let c = checked e in
      let long = between_true (length l) shortest_image longest_image c.opened.allowed in
      let whole = alphabet_whole h l c.opened.room in
      let rules = passed_rules h (table_of h l) (framed h l) c.nodes in
      record {
        long_enough = long.0;
        short_enough = long.1;
        head_permitted = c.opened.head_permitted;
        alphabet_good = λ b. unspoilt_good h (alphabet_in h l) (length l) c.opened.unspoilt
            (omega arith) whole;
        room = c.opened.room;
        links = rules.0;
        visible = rules.1;
      }

  pub accepted_checks : Accepted l → (head_of l).g + 1 ≤ length work → first (check_order l work)
      ≡ none
  unfolding table_in
  accepted_checks a b =
      left_6 (accepted_opens a) b ∙ rules_pass (head_of l) (table_in l) (framed (head_of l) l)
      a.links a.visible

  -- ---- the same by the number of the answer

  pub checking_says : AllSay check_numbers (check_order l work)
  unfolding check_order opening_rows_of row5 among
  checking_says =
      let h : Head = head_of l in
      let five : AllSay (5 ∷ []) (row5 h (length work) ∷ []) =
      given_says 5 0 (ltb (length work) (h.g + 1)) refl then end in
      parts_say (opening_says h (alphabet_in h l) (length l))
      (parts_say five (linking_says h (table_of h l)))

  -- lent enough working numbers, the check answers 0 exactly where the image is `Accepted`
  pub check_exactly : (head_of l).g + 1 ≤ length work → ((check_of l work).numbers.number ≡ 0)
      ↔ Accepted l
  unfolding check_of done_numbers heard among
  check_exactly b = (
    λ z. check_accepts (none_heard _ _ (first_says checking_says) refl z),
    λ a. rw (accepted_checks a b),
  )

-- ---- what is known of an accepted image

pub accepted_open : {l : List ℕ} → Accepted l → Open (head_of l) l
accepted_open a = record { head_permitted = a.head_permitted; room = a.room }

-- the same for a head that is the image's own
pub head_open : {l : List ℕ} {h : Head} → Accepted l → h ≡ head_of l → Open h l
head_open a same = rw same (accepted_open a)

pub accepted_linked : {l : List ℕ} → Accepted l → Linked (table_in l) (head_of l).g (head_of l).n
unfolding table_in
accepted_linked {l} a = rules_linked (framed (head_of l) l) a.links

-- ---- the working numbers

module _ (l work : List ℕ) where
  -- "Once 5 is passed, the first G+1 of them are 0 when the call returns [..] the rest keep what
  -- they held"
  pub work_cleared : first (opening_rows_of l) ≡ none → (head_of l).g + 1 ≤ length work
      → work_after l work ≡ replicate ((head_of l).g + 1) 0 ++ drop ((head_of l).g + 1) work
  unfolding work_after cleared_by row5
  work_cleared o b =
      ap (λ (r : Row). cleared_by r ((head_of l).g + 1) work)
      (second_part (opening_rows_of l) (row5 (head_of l) (length work) ∷ []) o
      ∙ no_row 5 0 [] (le-ltb (length work) ((head_of l).g + 1) b) ∙ first_nil)

  -- "If the call stops at 5, where its order first names it, or before that, all keep what they
  -- held."
  pub work_kept : (first (opening_rows_of l) ≡ none → length work < (head_of l).g + 1)
      → work_after l work ≡ work
  unfolding work_after cleared_by row5
  work_kept few = go (first (opening_rows_of l)) refl
    where
      five : List Row
      five = row5 (head_of l) (length work) ∷ []

      go : (r : Row) → first (opening_rows_of l) ≡ r
          → cleared_by (first (opening_rows_of l ++ five)) ((head_of l).g + 1) work ≡ work
      go (some s) e = rw (first_part (opening_rows_of l) five e)
      go none e =
          rw (
            second_part (opening_rows_of l) five e,
            yes_row 5 0 [] (lt-ltb (length work) ((head_of l).g + 1) (few e)),
          )
