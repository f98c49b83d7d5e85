-- 16 and 19, from what a search has found. A mark is that of a depth in min..max exactly if the
-- node is at such a depth: the key that leads to a node is the only one. After the search of
-- `reaching` the lowest working number that is still 0 is the place of 16; where none is, the
-- lowest node with data and a mark outside min..max is the place of 19.
use Prim.Native.Nat.{ℕ, ◌+◌, ◌-◌, ◌≤◌, ◌<◌}
use mathlib.Core.Path.{◌≡◌, refl, sym, ap, ◌∙◌}
use mathlib.Core.Logic.{◌≢◌}
use mathlib.Core.Bool.{Bool, true, false, not, ◌&&◌, true≢false}
use mathlib.Core.Option.{none}
use mathlib.Core.List.{List}
use native.Mathlib.Decide.{ℕ_discrete, dec_le}
use native.Mathlib.Omega.{arith}
use lib.Dec.{eqb, ltb}
use lib.ListN.{length, get_or}
use borrow.Author.Tests.{lt-ltb, le-ltb, eq-eqb, ne_eqb}
use Rattle.std.specs.Prelude.{Option, Some, None, Ok, Err}
use Rattle.field.specs.Range.{between}
use Rattle.field.proofs.Range.{between_true, true_between}
use Rattle.trie.specs.Table.{Table}
use Rattle.trie.specs.Rules.{Framed, Once}
use Rattle.trie.specs.Tree.{depth_of, depth_within}
use Rattle.trie.proofs.Depth.{reached_depth, depth_reached, walk_within, within_walk}
use Rattle.trie.proofs.Lowest.{none_lowest}
use Rattle.trie.proofs.Walk.{one_key}
use Rattle.head.specs.declared.Head.{Head}
use Rattle.node.specs.Image.{Open, table_of}
use Rattle.node.proofs.Tables.{framed}
use Rattle.head.proofs.Permitted.{bounds}
use Rattle.paper.specs.declared.Refusal.{Refusal}
use Rattle.paper.specs.Answers.{row_of}
use Rattle.paper.specs.Rows.{row16, is_hidden, row19}
use Rattle.paper.proofs.Hearing.{first_nil, first_some, first_none}
use Rattle.paper.proofs.Linking.{row16_none, unreached}
use Rattle.reaching.specs.Reaching.{Searched, Marked, mark_in}
use Rattle.tallying.specs.Tallied.{lowest_in, FoundFrom, hidden_at, HiddenFrom}
use Rattle.tallying.proofs.LowestFound.{found_none, found_same, given_at, given_nowhere}
use Rattle.audit.specs.Audit.{ReachedJudged}

-- ---- marks and depths

-- a mark is that of a depth from `least` to `most` exactly if the node is at such a depth
module _ {t : Table} {g n : ℕ} (f : Framed t g n) (once : Once t) (least most : ℕ)
    (low : most ≤ 64) {x mark : ℕ} (m : Marked t x mark) where
  abbrev inside : Bool
  inside = between mark (least + 1) (most + 1)

  abbrev there : Bool
  there = depth_within t n g least most x

  to : inside ≡ true → there ≡ true
  to e =
      let (a, b) = between_true mark (least + 1) (most + 1) e in
      walk_within t n g f least most x m.key m.leads (omega (arith, m.told))
      (omega (arith, m.told))

  from : there ≡ true → inside ≡ true
  from e =
      let (k, w, a, b) = within_walk t n g least most x e in
      let same : length k ≡ length m.key = ap length (one_key t k m.key once w m.leads) in
      true_between mark (least + 1) (most + 1) (omega (arith, m.told)) (omega (arith, m.told))

  mark_within : inside ≡ there
  mark_within = go inside there refl refl
    where
      go : (a b : Bool) → inside ≡ a → there ≡ b → a ≡ b
      go true true e d = refl
      go true false e d = absurd (true≢false (sym (to e) ∙ d))
      go false true e d = absurd (true≢false (sym (from d) ∙ e))
      go false false e d = refl

-- so data is hidden by the mark exactly if it is
pub mark_hidden : {h : Head} {l : List ℕ} → Open h l → Once (table_of h l) → {x mark : ℕ}
    → Marked (table_of h l) x mark
    → hidden_at h (table_of h l) x mark ≡ is_hidden h (table_of h l) x
unfolding hidden_at is_hidden
mark_hidden {h} {l} o once {x} m =
    ap (λ (b : Bool). ltb 0 ((table_of h l).value x) && not b)
    (mark_within (framed h l) once h.min h.max (bounds h o.head_permitted).max_most m)

-- ---- 16 and 19, after the search

module _ {h : Head} {l work work' : List ℕ} {met : ℕ} (s : Searched h l work met work') where
  abbrev table : Table
  table = table_of h l

  abbrev depth : ℕ → ℕ
  depth x = depth_of table h.n h.g x

  shallow : (x : ℕ) → x ≤ h.g → get_or work' x 0 ≢ 0 → depth x ≤ h.g
  shallow x high d =
      let m = s.marked x high d in
      reached_depth table h.n h.g (framed h l) x high (m.key, m.leads)

  -- a number that is still 0 is that of a node that is not reached
  same : (x : ℕ) → 1 ≤ x → x < 1 + h.g → eqb (get_or work' x 0) 0 ≡ unreached h table x
  same x low high = go (ℕ_discrete (get_or work' x 0) 0)
    where
      deep : get_or work' x 0 ≡ 0 → Dec (depth x ≤ h.g) → h.g < depth x
      deep z (yes b) = absurd (s.unmarked x (omega arith) z
          (depth_reached table h.n h.g x b))
      deep z (no b) = omega arith

      go : Dec (get_or work' x 0 ≡ 0) → eqb (get_or work' x 0) 0 ≡ ltb h.g (depth x)
      go (yes z) =
          eq-eqb (get_or work' x 0) 0 z
          ∙ sym (lt-ltb h.g (depth x) (deep z (dec_le (depth x) h.g)))
      go (no d) =
          ne_eqb (get_or work' x 0) 0 d ∙ sym (le-ltb h.g (depth x) (shallow x (omega arith) d))

  -- the search in the numbers is one for the lowest node that is not reached
  place_16 : {r : Option ℕ} → FoundFrom work' (h.g + 1) 0 r
      → r ≡ lowest_in (unreached h table) 1 h.g
  place_16 found =
      let k : h.g + 1 - 1 ≡ h.g = omega arith in
      found
      ∙ ap (lowest_in (λ y. eqb (get_or work' y 0) 0) 1) k
      ∙ found_same (λ y. eqb (get_or work' y 0) 0) (unreached h table) 1 h.g same

  pub reached_not : {x : ℕ} → FoundFrom work' (h.g + 1) 0 (Some x)
      → ReachedJudged h l work (Err (Refusal.NotReached x)) work'
  unfolding row_of row16
  reached_not found =
      record {
        verdict = sym (first_some _ _ (given_at 16 _ 1 h.g (place_16 found)));
        kept = s.kept;
      }

  -- where it finds none, each was met
  pub each_met : FoundFrom work' (h.g + 1) 0 None → met ≡ h.g + 1
  each_met found = go (ℕ_discrete met (h.g + 1))
    where
      zero_at : ℕ → Bool
      zero_at y = eqb (get_or work' y 0) 0

      go : Dec (met ≡ h.g + 1) → met ≡ h.g + 1
      go (yes all) = all
      go (no few) =
          let (y, low, high, z) = s.some few in
          let none_is =
          none_lowest zero_at 1 (h.g + 1 - 1) (found_none zero_at 1 (h.g + 1 - 1) found refl) y low
          (omega arith) in
          absurd (true≢false (sym (eq-eqb (get_or work' y 0) 0 z) ∙ none_is))

  -- every node is met, and 19 is judged by the marks
  module _ (o : Open h l) (once : Once table) (all : met ≡ h.g + 1) where
    past_16 : row16 h table ≡ none
    past_16 = row16_none h table (λ y low high. shallow y high (s.all all y high))

    place_19 : {r : Option ℕ} → HiddenFrom h l work' r
        → r ≡ lowest_in (is_hidden h table) 0 (h.g + 1)
    place_19 found =
        found ∙ found_same (λ y. hidden_at h table y (mark_in work' y)) (is_hidden h table) 0
        (h.g + 1)
        (λ y low high. mark_hidden o once
        (s.marked y (omega arith) (s.all all y (omega arith))))

    pub reached_hidden : {x : ℕ} → HiddenFrom h l work' (Some x)
        → ReachedJudged h l work (Err (Refusal.Hidden x)) work'
    unfolding row_of row19
    reached_hidden found =
        record {
          verdict =
              sym (first_none _ _ past_16 ∙ first_some _ _
              (given_at 19 _ 0 (h.g + 1) (place_19 found)));
          kept = s.kept;
        }

    pub reached_shown : HiddenFrom h l work' None → ReachedJudged h l work (Ok tt) work'
    unfolding row_of row19
    reached_shown found =
        record {
          verdict =
              sym (first_none _ _ past_16
              ∙ first_none _ _ (given_nowhere 19 _ 0 (h.g + 1) (place_19 found))
              ∙ first_nil);
          kept = s.kept;
        }
