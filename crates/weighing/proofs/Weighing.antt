-- The walk that adds the counts up, letter by letter. What has been added to each count and what
-- the later links add make up what all links add. The same holds for the sum of the node's keys.
-- No sum exceeds what the whole walk adds, so every number fits 32 bits.
use Prim.Native.Nat.{ℕ, pred, ◌+◌, ◌-◌, ◌^◌, ◌<◌, ◌≤◌}
use native.Mathlib.Decide.{ℕ_discrete}
use native.Mathlib.Numerals.{add-one}
use native.Mathlib.Omega.{arith}
use mathlib.Core.Bool.{Bool, true, cond}
use mathlib.Core.List.{List}
use mathlib.Core.Logic.{◌≢◌}
use mathlib.Core.Path.{◌≡◌, refl, sym, ◌∙◌, ap}
use lib.Dec.{eqb}
use lib.ListN.{length, get_or, set, length-set, length-append}
use lib.Seq.{get_or-set_same, get_or-set_other}
use borrow.Author.Tests.{eq-eqb, ne_eqb}
use Rattle.trie.specs.Table.{Table}
use Rattle.trie.specs.Keys.{keys_under}
use Rattle.trie.proofs.Beyond.{under_split}
use Rattle.head.specs.declared.Head.{Head}
use Rattle.node.specs.Image.{table_of}
use Rattle.depths.specs.Depths.{KeysBelow}
use Rattle.passing.specs.Weights.{weight_from}
use Rattle.passing.proofs.Weights.{weight_split, weight_none, weight_empty, weight_link}
use Rattle.passing.proofs.Weights.{weight_no_keys}
use Rattle.weighing.specs.Weighing.{weight, SumsFit, Weighed}
use Rattle.weighing.proofs.KeysLeft.{left, owned, left_no_keys, left_none, left_empty}
use Rattle.weighing.proofs.KeysLeft.{left_link}

-- ---- one number of a list raised

pub one_more : (list : List ℕ) (x v q : ℕ) → x < length list
    → get_or (set list x (get_or list x 0 + v)) q 0 ≡ get_or list q 0 + cond (eqb x q) v 0
one_more list x v q room = go (ℕ_discrete x q)
  where
    go : Dec (x ≡ q) → get_or (set list x (get_or list x 0 + v)) q 0 ≡ get_or list q 0
        + cond (eqb x q) v 0
    go (yes e) = rw (eq-eqb x q e, ← e) (get_or-set_same list x (get_or list x 0 + v) 0 room)
    go (no other) =
        rw (ne_eqb x q other) (get_or-set_other list x q (get_or list x 0 + v) 0
        (λ e. other (sym e))
        ∙ omega arith)

module _ (h : Head) (l : List ℕ) where
  -- how many keys lie at or under node p at a depth
  abbrev pub under : ℕ → ℕ → ℕ
  under p depth = length (keys_under (table_of h l) h.n (h.min - depth) (h.max - depth) p)

  -- what the links of node p from letter i on add to the count of node q
  abbrev pub later : ℕ → ℕ → ℕ → ℕ → ℕ
  later p depth q i = weight_from (table_of h l) h.n (h.min - depth) (h.max - depth) q p i

  pub under_parts : (p depth : ℕ) → under p depth ≡ owned h (table_of h l) p depth
      + left h (table_of h l) p depth 0
  under_parts p depth =
      ap length (under_split (table_of h l) h.n (h.min - depth) (h.max - depth) p)
      ∙ simp length-append

  weight_parts : (p depth q : ℕ) → weight h l p depth q ≡ cond (eqb p q) (under p depth) 0
      + later p depth q 0
  weight_parts p depth q = weight_split (table_of h l) h.n (h.min - depth) (h.max - depth) q p

  -- a node's keys are added to its own count
  weight_own : (p depth : ℕ) → weight h l p depth p ≡ under p depth + later p depth p 0
  weight_own p depth = weight_parts p depth p ∙ rw (eq-eqb p p refl)

  later_link : (p depth q i : ℕ) {c : ℕ} → depth < h.max → i < h.n → c ≡ (table_of h l).child p i
      → c ≢ 0
      → later p depth q i ≡ weight h l c (depth + 1) q + later p depth q (i + 1)
  later_link p depth q i deep low e full =
      let s : pred (h.min - depth) ≡ h.min - (depth + 1) = omega arith in
      let m : pred (h.max - depth) ≡ h.max - (depth + 1) = omega arith in
      rw (← s, ← m, e, add-one i)
      (weight_link (table_of h l) h.n (h.min - depth) (h.max - depth) q p i low (omega arith)
      (λ z. full (e ∙ z)))

  -- a node with no key below it adds its own key to its own count
  weight_no_keys_own : (p depth q : ℕ) {r : Bool} → KeysBelow h (table_of h l) p depth r → r ≡ true
      → weight h l p depth q ≡ cond (eqb p q) (owned h (table_of h l) p depth) 0
  weight_no_keys_own p depth q b e =
      let t : Table = table_of h l in
      let below : later p depth q 0 ≡ 0 =
      weight_no_keys t h.n (h.min - depth) (h.max - depth) p (b.nothing e) q in
      let own : under p depth ≡ owned h t p depth =
      omega (arith, under_parts p depth, left_no_keys h t p depth 0 b e) in
      weight_parts p depth q ∙ rw (below, own) (omega arith)

  -- the list after the walk at such a node
  pub weighed_leaf : (p depth : ℕ) (list : List ℕ) {own : ℕ} {r : Bool}
      → own ≡ owned h (table_of h l) p depth
      → KeysBelow h (table_of h l) p depth r → r ≡ true → p < length list
      → Weighed h l p depth list (set list p (get_or list p 0 + own))
  weighed_leaf p depth list {own} e b z room =
      record {
        long = length-set list p (get_or list p 0 + own);
        each = λ q. one_more list p own q room ∙ ap (λ (x : ℕ). get_or list q 0 + x)
            (rw e (sym (weight_no_keys_own p depth q b z)));
      }

-- ---- the loop over a node's letters

-- before letter i: the sum has the node's own key and the keys of the letters below i, and each
-- count has what the links of these letters add
pub record Weighing (h : Head) (l : List ℕ) (p depth : ℕ) (list list' : List ℕ) (sum i : ℕ)
    : Type 0 where
  pub summed : sum + left h (table_of h l) p depth i ≡ under h l p depth
  pub long : length list' ≡ length list
  pub added : (q : ℕ) → get_or list' q 0 + later h l p depth q i ≡ get_or list q 0
      + later h l p depth q 0

pub weighing_start : (h : Head) (l : List ℕ) (p depth : ℕ) (list : List ℕ) {own : ℕ}
    → own ≡ owned h (table_of h l) p depth
    → Weighing h l p depth list list own 0
weighing_start h l p depth list e =
    record { summed = omega (arith, e, under_parts h l p depth); long = refl; added = λ q. refl }

module _ {h : Head} {l : List ℕ} {p depth : ℕ} {list list' : List ℕ} {sum i : ℕ}
    (w : Weighing h l p depth list list' sum i) where
  pub weighing_empty : {c : ℕ} → i < h.n → c ≡ (table_of h l).child p i → c ≡ 0
      → Weighing h l p depth list list' sum (i + 1)
  weighing_empty low e empty =
      let same : (q : ℕ) → later h l p depth q i ≡ later h l p depth q (i + 1) =
      λ q. rw (add-one i) (weight_empty (table_of h l) h.n (h.min - depth) (h.max - depth) q p
      i low (sym e ∙ empty)) in
      record {
        summed = omega (arith, w.summed, left_empty h (table_of h l) p depth i low e empty);
        long = w.long;
        added = λ q. omega (arith, w.added q, same q);
      }

  -- after the last letter the sum is added to the node's own count
  pub weighing_sum : h.n ≤ i → sum ≡ under h l p depth
  weighing_sum high = omega (arith, w.summed, left_none h (table_of h l) p depth i high)

  weighing_added : h.n ≤ i → (q : ℕ) → get_or list' q 0 ≡ get_or list q 0 + later h l p depth q 0
  weighing_added high q =
      omega (
        arith,
        w.added q,
        weight_none (table_of h l) h.n (h.min - depth) (h.max - depth)
            q p i high,
      )

  pub weighing_end : h.n ≤ i → p < length list
      → Weighed h l p depth list (set list' p (get_or list' p 0 + sum))
  weighing_end high room =
      record {
        long = length-set list' p (get_or list' p 0 + sum) ∙ w.long;
        each = λ q.
            let more : get_or (set list' p (get_or list' p 0 + sum)) q 0 ≡ get_or list' q 0
            + cond (eqb p q) sum 0 =
            one_more list' p sum q (omega (arith, w.long)) in
            more ∙ rw (weighing_sum high)
            (omega (arith, weighing_added high q, weight_parts h l p depth q));
      }

  -- the numbers fit 32 bits
  fits_under : SumsFit h l p depth list → under h l p depth < 2 ^ 32
  fits_under fits = omega (arith, fits p, weight_own h l p depth)

  pub fits_end : SumsFit h l p depth list → h.n ≤ i → get_or list' p 0 + sum < 2 ^ 32
  fits_end fits high =
      omega (arith, fits p, weight_own h l p depth, weighing_added high p, weighing_sum high)

-- ---- a link that is not empty

pub record Onto (h : Head) (l : List ℕ) (p depth : ℕ) (list list' : List ℕ) (sum i c : ℕ)
    : Type 0 where
  pub so_far : Weighing h l p depth list list' sum i
  pub fits : SumsFit h l p depth list
  pub deep : depth < h.max
  pub low : i < h.n
  pub link : c ≡ (table_of h l).child p i
  pub full : c ≢ 0
  pub room : c < length list'

module _ {h : Head} {l : List ℕ} {p depth : ℕ} {list list' : List ℕ} {sum i c : ℕ}
    (o : Onto h l p depth list list' sum i c) where
  by_link : left h (table_of h l) p depth i
      ≡ under h l c (depth + 1) + left h (table_of h l) p depth
      (i + 1)
  by_link =
      omega (
        arith,
        left_link h (table_of h l) p depth i o.deep o.low o.link o.full,
        under_parts h l c (depth + 1),
      )

  -- once the child's part is added to the list and its keys to the sum
  pub weighing_child : {list'' : List ℕ} {r : ℕ} → r ≡ under h l c (depth + 1)
      → Weighed h l c (depth + 1) list' list''
      → Weighing h l p depth list list'' (sum + r) (i + 1)
  weighing_child e d =
      record {
        summed = omega (arith, o.so_far.summed, by_link, e);
        long = d.long ∙ o.so_far.long;
        added = λ q. omega (
          arith,
          o.so_far.added q,
          d.each q,
          later_link h l p depth q i
              o.deep o.low o.link o.full,
        );
      }

  -- a child with no key below it
  pub weighing_leaf : {one : ℕ} {r : Bool} → one ≡ owned h (table_of h l) c (depth + 1)
      → KeysBelow h (table_of h l) c (depth + 1) r → r ≡ true
      → Weighing h l p depth list (set list' c (get_or list' c 0 + one)) (sum + one) (i + 1)
  weighing_leaf e b z =
      weighing_child
      (omega (
        arith,
        e,
        under_parts h l c (depth + 1),
        left_no_keys h (table_of h l) c (depth + 1) 0
            b z,
      ))
      (weighed_leaf h l c (depth + 1) list' e b z o.room)

  -- the numbers fit 32 bits
  pub fits_child : SumsFit h l c (depth + 1) list'
  fits_child q =
      omega (
        arith,
        o.fits q,
        o.so_far.added q,
        weight_parts h l p depth q,
        later_link h l p depth q i o.deep o.low o.link o.full,
      )

  pub fits_sum : {r : ℕ} → r ≡ under h l c (depth + 1) → sum + r < 2 ^ 32
  fits_sum e = omega (arith, fits_under o.so_far o.fits, o.so_far.summed, by_link, e)

  module _ {one : ℕ} (e : one ≡ owned h (table_of h l) c (depth + 1)) where
    pub fits_one : get_or list' c 0 + one < 2 ^ 32
    fits_one =
        omega (arith, fits_child c, weight_own h l c (depth + 1), under_parts h l c (depth + 1), e)

    pub fits_sum_one : sum + one < 2 ^ 32
    fits_sum_one = omega (arith, fits_sum refl, under_parts h l c (depth + 1), e)
