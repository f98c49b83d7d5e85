-- The way down a key's path: what has been added to each count and what the nodes ahead still
-- get make up what the whole path gets. A key never comes back to a node, so each count changes
-- once.
use Prim.Native.Nat.{ℕ, suc, ◌+◌, ◌-◌, ◌^◌, ◌≤◌, ◌<◌}
use mathlib.Core.Path.{◌≡◌, refl, sym, ◌∙◌, ap, subst}
use mathlib.Core.Logic.{◌≢◌}
use mathlib.Core.Bool.{Bool, true, false, cond}
use mathlib.Core.List.{List, [], ◌∷◌}
use native.Mathlib.Decide.{ℕ_discrete}
use native.Mathlib.Omega.{arith}
use lib.ListN.{length, get_or, set, take, drop, length-set, take-append-drop}
use lib.Seq.{take-suc, drop-cons, drop-length, get_or-set_same, get_or-set_other}
use Rattle.trie.specs.Table.{Table, complete, stopped, descend}
use Rattle.trie.specs.Rules.{LinkRules}
use Rattle.trie.proofs.Walk.{descend_nil, descend_empty, descend_append, complete_within}
use Rattle.passing.specs.Passing.{passes}
use Rattle.passing.proofs.Passing.{passes_here, passes_nil, passes_link, prefix_passes}
use Rattle.passing.proofs.Passing.{child_reached, never_again}
use Rattle.tracking.specs.Tracking.{Whole, CountsFit, Shifted}

-- The first letters lead to node p, and the counts of the nodes before p have changed.
pub record Going (t : Table) (k : List ℕ) (gain loss : ℕ) (list₀ list : List ℕ) (depth p : ℕ)
    : Type 0 where
  pub deep : depth ≤ length k
  pub came : descend t 0 (take depth k) ≡ complete p
  pub long : length list ≡ length list₀
  pub each : (q : ℕ) → get_or list q 0 + cond (passes t q 0 k) loss 0
      + cond (passes t q p (drop depth k)) gain 0
      ≡ get_or list₀ q 0 + cond (passes t q 0 k) gain 0 + cond (passes t q p (drop depth k)) loss 0

module _ {t : Table} {k : List ℕ} {gain loss : ℕ} {list₀ : List ℕ} where
  pub going_start : Going t k gain loss list₀ list₀ 0 0
  going_start =
      record { deep = omega arith; came = descend_nil t 0; long = refl; each = λ q. omega arith }

  module _ {g : ℕ} (rules : LinkRules t g) (room : CountsFit t k gain loss list₀) {list : List ℕ}
      {depth p : ℕ}
      (w : Going t k gain loss list₀ list depth p) where
    pub going_within : p ≤ g
    going_within = complete_within t g (take depth k) rules.within w.came

    -- the key passes p, and the count of p has not changed yet
    met : passes t p 0 k ≡ true
    met = subst (λ (j : List ℕ). passes t p 0 j ≡ true) (take-append-drop depth k)
        (prefix_passes t p 0 (take depth k) (drop depth k) w.came)

    same : get_or list p 0 ≡ get_or list₀ p 0
    same = let e = rw (met, passes_here t p (drop depth k)) at (w.each p) in omega arith

    pub going_over : get_or list p 0 + gain < 2 ^ 32
    going_over = omega (arith, same, room.over p met)

    pub going_under : loss ≤ get_or list p 0 + gain
    going_under = omega (arith, same, room.under p met)

    -- the count of p changes; `b` says whether q is among the nodes after p
    module _ (inside : p < length list) where
      received : (b : Bool) → b ≡ false
          → get_or (set list p (get_or list p 0 + gain - loss)) p 0 + cond (passes t p 0 k) loss 0
          + cond b gain 0
          ≡ get_or list₀ p 0 + cond (passes t p 0 k) gain 0 + cond b loss 0
      received b e =
          rw (e, met, get_or-set_same list p (get_or list p 0 + gain - loss) 0 inside)
          (omega (arith, same, going_under))

      after : (b : Bool) (q : ℕ) → (p ≡ q → b ≡ false) → (p ≢ q → passes t q p (drop depth k) ≡ b)
          → get_or (set list p (get_or list p 0 + gain - loss)) q 0 + cond (passes t q 0 k) loss 0
          + cond b gain 0
          ≡ get_or list₀ q 0 + cond (passes t q 0 k) gain 0 + cond b loss 0
      after b q own other = go (ℕ_discrete p q)
        where
          go : Dec (p ≡ q)
              → get_or (set list p (get_or list p 0 + gain - loss)) q 0 + cond (passes t q 0 k)
              loss 0
              + cond b gain 0
              ≡ get_or list₀ q 0 + cond (passes t q 0 k) gain 0 + cond b loss 0
          go (yes e) =
              subst
              (λ (q : ℕ). get_or (set list p (get_or list p 0 + gain - loss)) q 0
              + cond (passes t q 0 k) loss 0 + cond b gain 0
              ≡ get_or list₀ q 0 + cond (passes t q 0 k) gain 0 + cond b loss 0)
              e
              (received b (own e))
          go (no f) =
              rw (get_or-set_other list p q (get_or list p 0 + gain - loss) 0 (λ e. f (sym e)))
              (rw (other f) at (w.each q))

      module _ {list' : List ℕ} (e : list' ≡ set list p (get_or list p 0 + gain - loss)) where
        same_length : length list' ≡ length list₀
        same_length = ap length e ∙ length-set list p (get_or list p 0 + gain - loss) ∙ w.long

        pub going_end : length k ≤ depth → Shifted t k gain loss list₀ list'
        going_end b =
            record {
              long = same_length;
              each = λ q. rw e (omega (
                arith,
                after false q (λ _. refl)
                    (λ f. rw nothing (passes_nil t q p f)),
              ));
            }
          where
            nothing : drop depth k ≡ []
            nothing = let d : depth ≡ length k = omega (arith, w.deep) in
                ap (λ (m : ℕ). drop m k) d ∙ drop-length k

        module _ (whole : Whole t k) (below : depth < length k) where
          abbrev x : ℕ
          x = get_or k depth 0

          left : drop depth k ≡ x ∷ drop (suc depth) k
          left = drop-cons k depth 0 below

          full : t.child p x ≢ 0
          full z =
              let on : descend t p (x ∷ drop (suc depth) k) ≡ complete whole.0 =
              ap (descend t p) (sym left)
              ∙ sym (descend_append t 0 (take depth k) (drop depth k) w.came)
              ∙ ap (descend t 0) (take-append-drop depth k)
              ∙ whole.1 in
              let clash : stopped p x (drop (suc depth) k) ≡ complete whole.0 =
              sym (descend_empty t p x (drop (suc depth) k) z) ∙ on in
              let z : ◌≡◌ {A = ℕ} 0 1 = cc in
              omega arith

          pub going_on : {c : ℕ} → c ≡ t.child p x → Going t k gain loss list₀ list' (depth + 1) c
          going_on {c} link =
              let d : depth + 1 ≡ suc depth = omega arith in
              rw (d, link)
              (record {
                deep = below;
                came =
                    ap (descend t 0) (take-suc k depth 0 below)
                    ∙ child_reached t (take depth k) x w.came full;
                long = same_length;
                each = λ q.
                    rw e
                    (after (passes t q (t.child p x) (drop (suc depth) k)) q
                    (λ f. subst (λ (q : ℕ). passes t q (t.child p x) (drop (suc depth) k) ≡ false)
                    f
                    (never_again t (take depth k) x rules.once w.came full
                    (drop (suc depth) k)))
                    (λ f. rw left (passes_link t q p x (drop (suc depth) k) f full)));
              })
