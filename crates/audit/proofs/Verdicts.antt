-- Which row is given at each way out, from what the stages returned. A working number is `again`
-- exactly where the address stands in two links or more, and 0 exactly where it stands in none. So
-- a search in the working numbers finds the place of 7 and of 8.
use mathlib.Core.Path.{◌≡◌, refl, sym, ap, ◌∙◌}
use mathlib.Core.Logic.{◌≢◌}
use mathlib.Core.Bool.{Bool, false}
use mathlib.Core.Option.{none}
use mathlib.Core.List.{List, [], ◌∷◌, ◌++◌}
use Prim.Native.Nat.{ℕ, ◌+◌, ◌-◌, ◌≤◌, ◌<◌}
use native.Mathlib.Omega.{arith}
use lib.Dec.{leb, eqb}
use lib.ListN.{length, get_or, drop, replicate}
use borrow.Author.Tests.{lt-ltb, le-ltb, ne_eqb}
use Rattle.std.specs.Prelude.{Option, Some, None, Result, Ok, Err}
use Rattle.trie.specs.Table.{Table}
use Rattle.trie.specs.Rules.{Within, Once}
use Rattle.trie.specs.Tree.{depth_of}
use Rattle.trie.proofs.Lowest.{lowest_none}
use Rattle.trie.proofs.Depth.{reached_depth}
use Rattle.head.specs.declared.Head.{Head}
use Rattle.head.specs.Fields.{head_of}
use Rattle.alphabet.specs.declared.codes.Codes.{Codes}
use Rattle.node.specs.Image.{Open, table_of}
use Rattle.node.proofs.Tables.{framed}
use Rattle.paper.specs.declared.Refusal.{Refusal}
use Rattle.paper.specs.Hearing.{Row, first}
use Rattle.paper.specs.Answers.{row_of}
use Rattle.paper.specs.Rows.{row5, row6, row7, row8, row16, is_hidden, row19, times}
use Rattle.paper.specs.Orders.{opening_rows_of, node_rows, check_order}
use Rattle.paper.specs.Calls.{cleared_by, work_after}
use Rattle.paper.specs.Accepted.{Accepted}
use Rattle.paper.proofs.Hearing.{is_given, not_given, first_nil, first_some, first_none}
use Rattle.paper.proofs.Hearing.{first_part, second_part, told_refused, told_passed}
use Rattle.paper.proofs.CheckCall.{check_accepts}
use Rattle.paper.proofs.Linking.{none_within, none_once, row16_none, row19_none}
use Rattle.reaching.specs.Reaching.{Marked}
use Rattle.reaching.proofs.Kept.{kept_more}
use Rattle.opening.specs.Opened.{Opens}
use Rattle.tallying.specs.Tallied.{again, lowest_in, Tells, Tally, Plain, BadFrom, AllMet}
use Rattle.tallying.specs.Tallied.{FoundFrom}
use Rattle.audit.specs.Audit.{Checked, Audited, LinksJudged, ReachedJudged}
use Rattle.tallying.proofs.PlainMarks.{plain_marked, plain_shown}
use Rattle.tallying.proofs.Tells.{tells_none, tells_again}
use Rattle.tallying.proofs.Clearing.{cleared_rest, kept_cleared}
use Rattle.tallying.proofs.LowestFound.{none_found, found_same, given_at, given_nowhere}
use Rattle.audit.proofs.EachReached.{mark_hidden}

-- ---- 6 to 8, 16 and 19

-- the search in the working numbers is one for the lowest address whose tally passes
found : (t : Table) (n g v : ℕ) (work : List ℕ) (test : ℕ → Bool) {r : Option ℕ}
    → Tally t n g (g + 1) work → ((m w : ℕ) → Tells m w → eqb w v ≡ test m)
    → FoundFrom work (g + 1) v r → r ≡ lowest_in (λ y. test (times t n y (g + 1))) 1 g
found t n g v work test tally same e =
    let k : g + 1 - 1 ≡ g = omega arith in
    e
    ∙ ap (lowest_in (λ y. eqb (get_or work y 0) v) 1) k
    ∙ found_same (λ y. eqb (get_or work y 0) v) (λ y. test (times t n y (g + 1))) 1 g
    (λ y low high. same (times t n y (g + 1)) (get_or work y 0) (tally y low (omega arith)))

pub linked_bad : {h : Head} {l work work' : List ℕ} {bad : ℕ} → BadFrom h l work (Some bad) work'
    → LinksJudged h l work (Err (Refusal.Link bad)) work'
unfolding row_of node_rows row6
linked_bad {h} b =
    record {
      verdict = sym (first_some _ _ (given_at 6 _ 0 (h.g + 1) b.lowest_bad));
      kept = b.kept;
    }

-- no link is bad
module _ {h : Head} {l work work' : List ℕ} (b : BadFrom h l work None work') where
  abbrev table : Table
  table = table_of h l

  past_6 : row6 h table ≡ none
  unfolding row6
  past_6 = given_nowhere 6 _ 0 (h.g + 1) b.lowest_bad

  -- no link is above G
  pub linked_within : Within table h.g
  linked_within = none_within h table (framed h l) past_6

  place_7 : {r : Option ℕ} → FoundFrom work' (h.g + 1) again r
      → r ≡ lowest_in (λ y. leb 2 (times table h.n y (h.g + 1))) 1 h.g
  place_7 = found table h.n h.g again work' (leb 2) (b.tally refl) (λ m w. tells_again)

  pub linked_twice : {x : ℕ} → FoundFrom work' (h.g + 1) again (Some x)
      → LinksJudged h l work (Err (Refusal.LinkedTwice x)) work'
  unfolding row_of node_rows row7
  linked_twice twice =
      record {
        verdict =
            sym (first_none _ _ past_6 ∙ first_some _ _ (given_at 7 _ 1 h.g (place_7 twice)));
        kept = b.kept;
      }

  -- no address stands in two links
  module _ (none_twice : FoundFrom work' (h.g + 1) again None) where
    none_7 : row7 h table ≡ none
    unfolding row7
    none_7 = given_nowhere 7 _ 1 h.g (place_7 none_twice)

    past_7 : first (node_rows h table)
        ≡ first (row8 h table ∷ row16 h table ∷ row19 h table ∷ [])
    unfolding node_rows
    past_7 = first_none _ _ past_6 ∙ first_none _ _ none_7

    pub linked_alone : Once table
    linked_alone = none_once h table (framed h l) linked_within none_7

    place_8 : {r : Option ℕ} → FoundFrom work' (h.g + 1) 0 r
        → r ≡ lowest_in (λ y. eqb (times table h.n y (h.g + 1)) 0) 1 h.g
    place_8 = found table h.n h.g 0 work' (λ m. eqb m 0) (b.tally refl) (λ m w. tells_none)

    pub linked_missing : {x : ℕ} → FoundFrom work' (h.g + 1) 0 (Some x)
        → LinksJudged h l work (Err (Refusal.NotLinked x)) work'
    unfolding row_of row8
    linked_missing missing =
        record {
          verdict = sym (past_7 ∙ first_some _ _ (given_at 8 _ 1 h.g (place_8 missing)));
          kept = b.kept;
        }

    -- none stands in no link
    module _ (none_missing : FoundFrom work' (h.g + 1) 0 None) where
      past_8 : first (node_rows h table) ≡ first (row16 h table ∷ row19 h table ∷ [])
      unfolding row8
      past_8 = past_7 ∙ first_none _ _ (given_nowhere 8 _ 1 h.g (place_8 none_missing))

      -- the numbers are cleared, and 16 and 19 are judged
      pub linked_reached : {clear last : List ℕ} {r : Result (Unit {0}) Refusal}
          → clear ≡ replicate (h.g + 1) 0 ++ drop (h.g + 1) work' → h.g + 1 ≤ length work'
          → ReachedJudged h l clear r last → LinksJudged h l work r last
      linked_reached e room k =
          record {
            verdict = k.verdict ∙ sym past_8;
            kept = kept_more b.kept (kept_more (kept_cleared h.g work' e room) k.kept);
          }

  -- where all is plain and each address has been met, the searches would find none and are left
  -- out
  module _ (z : get_or work' 0 0 ≡ 1) (met : AllMet work' (h.g + 1)) where
    plain : Plain h table (h.g + 1) work'
    plain = b.plain refl

    nowhere : (v : ℕ) → ((x : ℕ) → 1 ≤ x → x ≤ h.g → get_or work' x 0 ≢ v)
        → FoundFrom work' (h.g + 1) v None
    nowhere v other =
        let p : ℕ → Bool = λ x. eqb (get_or work' x 0) v in
        none_found p 1 (h.g + 1 - 1)
        (omega (
          arith,
          lowest_none p 1 (h.g + 1 - 1)
              (λ x low below. ne_eqb (get_or work' x 0) v (other x low (omega arith))),
        ))

    no_two : FoundFrom work' (h.g + 1) again None
    no_two = nowhere again (λ x low below e.
        omega (arith, (plain.marked z x low below (met x low (omega arith))).mark))

    no_none : FoundFrom work' (h.g + 1) 0 None
    no_none = nowhere 0 (λ x low below. met x low (omega arith))

    marked : (x : ℕ) → x ≤ h.g → Marked table x (get_or work' x 0)
    marked = plain_marked plain z met

    pub linked_plain : Open h l → LinksJudged h l work (Ok tt) work'
    unfolding row_of
    linked_plain o =
        record {
          verdict = sym (past_8 no_two no_none
              ∙ first_none _ _ (row16_none h table reached)
              ∙ first_none _ _ (row19_none h table shown)
              ∙ first_nil);
          kept = b.kept;
        }
      where
        reached : (x : ℕ) → 1 ≤ x → x ≤ h.g → depth_of table h.n h.g x ≤ h.g
        reached x low below =
            let m = marked x below in
            reached_depth table h.n h.g (framed h l) x below (m.key, m.leads)

        shown : (x : ℕ) → x ≤ h.g → is_hidden h table x ≡ false
        shown x below =
            sym (mark_hidden o (linked_alone no_two) (marked x below))
            ∙ plain_shown plain z met x below

-- ---- 5

pub audited_few : {h : Head} {l work : List ℕ} → length work < h.g + 1
    → Audited h l work (Err Refusal.TooFewNumbers) work
unfolding row_of row5 cleared_by
audited_few {h} {l} {work} few =
    let e = is_given 5 0 (lt-ltb (length work) (h.g + 1) few) in
    record {
      verdict = sym (first_some _ _ e);
      numbers = sym (ap (λ r. cleared_by r (h.g + 1) work) (first_some _ [] e));
    }

pub audited_linked : {h : Head} {l work clear work' last : List ℕ} {r : Result (Unit {0}) Refusal}
    {count : ℕ} → count ≡ h.g + 1 → count ≤ length work
    → clear ≡ replicate count 0 ++ drop count work → LinksJudged h l clear r work'
    → last ≡ replicate count 0 ++ drop count work' → Audited h l work r last
unfolding row5 cleared_by
audited_linked {h} {l} {work} {work' = work'} {last} same enough e k f =
    let p = not_given 5 0 (le-ltb (length work) (h.g + 1) (rw same at enough)) in
    record {
      verdict = k.verdict ∙ sym (first_none _ _ p);
      numbers = (rw same at f)
          ∙ ap (λ (w : List ℕ). replicate (h.g + 1) 0 ++ w)
          (k.kept.rest ∙ cleared_rest (h.g + 1) work (rw same at e))
          ∙ sym (ap (λ r. cleared_by r (h.g + 1) work) (first_none _ [] p ∙ first_nil));
    }

-- ---- 1 to 4

-- after 1 to 4: 5 alone, which decides how the working numbers are left
abbrev fifth : List ℕ → List ℕ → List Row
fifth l work = row5 (head_of l) (length work) ∷ []

-- after 1 to 4: 5 to 8, 16 and 19
abbrev others : List ℕ → List ℕ → List Row
others l work = row5 (head_of l) (length work) ∷ node_rows (head_of l) (table_of (head_of l) l)

pub checked_refused : {l : List ℕ} {codes : Codes} {why : Refusal} → Opens l (Err why) codes
    → (work : List ℕ) → Checked l work (Err why) work codes
unfolding check_order work_after cleared_by
checked_refused {l} o work =
    let refused = told_refused o.verdict refl in
    record {
      verdict =
          o.verdict ∙ refused ∙ sym (first_part (opening_rows_of l) (others l work) refused);
      numbers =
          sym (ap (λ s. cleared_by s ((head_of l).g + 1) work)
          (first_part (opening_rows_of l) (fifth l work) refused));
      head = tt;
      decoded = tt;
    }

-- after 1 to 4 the verdict on the nodes is that on the image
module _ {l : List ℕ} {codes : Codes} {h : Head} (o : Opens l (Ok h) codes)
    {work work' : List ℕ} where
  judged : {v : Result (Unit {0}) Refusal} → Audited h l work v work'
      → (row_of v ≡ first (check_order l work)) × (work' ≡ work_after l work)
  unfolding check_order work_after
  judged {v} a =
      let n : first (opening_rows_of l) ≡ none = told_passed o.verdict refl in
      let b : Audited (head_of l) l work v work' = rw o.head at a in (
        b.verdict ∙ sym (second_part (opening_rows_of l) (others l work) n),
        b.numbers ∙ sym (ap (λ s. cleared_by s ((head_of l).g + 1) work)
            (second_part (opening_rows_of l) (fifth l work) n)),
      )

  pub checked_stopped : {why : Refusal} → Audited h l work (Err why) work'
      → Checked l work (Err why) work' codes
  unfolding row_of
  checked_stopped a =
      let (verdict, numbers) = judged a in
      record { verdict = verdict; numbers = numbers; head = tt; decoded = tt }

  pub checked_passed : {x : Unit {0}} → Audited h l work (Ok x) work'
      → Checked l work (Ok h) work' codes
  unfolding row_of
  checked_passed a =
      let (verdict, numbers) = judged a in
      record { verdict = verdict; numbers = numbers; head = o.head; decoded = o.decoded }

-- ---- what a caller knows once a check has passed

module _ {l work : List ℕ} {r : Result Head Refusal} {work' : List ℕ} {codes : Codes}
    (o : Checked l work r work' codes) {h : Head} (e : r ≡ Ok h) where
  pub checked_accepted : Accepted l
  checked_accepted = check_accepts l work (told_passed o.verdict e)

  pub checked_head : h ≡ head_of l
  checked_head = rw e at o.head
