-- The invariants of the two loops of the tally. Over a node's links: none so far is bad, and each
-- address is counted for each link that holds it. While number 0 is 1 each link led upward, so the
-- numbers up to the node's own did not change, and the marks that they gave stay right. Over the
-- nodes: none so far holds a bad link, and the working numbers are the tally of the nodes so far.
use mathlib.Core.Path.{◌≡◌, refl, sym, ap, ◌∙◌}
use mathlib.Core.Logic.{◌≢◌}
use mathlib.Core.Bool.{Bool, true, false, ◌||◌, cond, false≢true}
use mathlib.Core.List.{List, ◌++◌}
use Prim.Native.Nat.{ℕ, zero, suc, ◌+◌, ◌≤◌, ◌<◌}
use native.Mathlib.Decide.{ℕ_discrete}
use native.Mathlib.Numerals.{add-one}
use native.Mathlib.Omega.{arith}
use lib.Dec.{eqb, leb}
use lib.ListN.{length, get_or, set, drop, replicate, length-replicate, get_or-replicate}
use lib.ListN.{length-set}
use lib.ListN.{get_or-append}
use lib.Seq.{get_or-set_same, get_or-set_other}
use borrow.Author.Tests.{eq-eqb, ne_eqb, leb-false}
use Rattle.std.specs.Prelude.{Some, None}
use Rattle.trie.specs.Table.{Table}
use Rattle.trie.specs.Lowest.{any_below}
use Rattle.head.specs.declared.Head.{Head}
use Rattle.node.specs.Image.{table_of}
use Rattle.paper.specs.Rows.{bad_link, holds_bad, times_in, times}
use Rattle.paper.proofs.Linking.{not_bad, holds_bad_lem}
use Rattle.reaching.specs.Reaching.{RestKept, deeper_of}
use Rattle.reaching.proofs.Kept.{kept_none, kept_more, kept_set}
use Rattle.tallying.specs.Tallied.{again, Tells, Tally, hidden_at, MarkedBy, Plain}
use Rattle.tallying.specs.Tallied.{LinksCounted, Tallied, BadFrom}
use Rattle.tallying.proofs.LowestFound.{Seeking, seeking_none, seeking_more, seeking_found}
use Rattle.tallying.proofs.LowestFound.{seeking_all}
use Rattle.tallying.proofs.Tells.{tells_start, tells_first, tells_more}

-- ---- nodes marked by their parents

-- the numbers of the node and of its parent are what they were
marked_still : {h : Head} {t : Table} {k : ℕ} {work work' : List ℕ} {x : ℕ}
    (m : MarkedBy h t k work x) → get_or work' x 0 ≡ get_or work x 0
    → get_or work' m.node 0 ≡ get_or work m.node 0
    → MarkedBy h t k work' x
marked_still m e f =
    record {
      node = m.node;
      letter = m.letter;
      done = m.done;
      before = m.before;
      link = m.link;
      mark = rw (e, f) m.mark;
      shown = rw e m.shown;
    }

-- one more of the nodes
marked_later : {h : Head} {t : Table} {k : ℕ} {work : List ℕ} {x : ℕ} → MarkedBy h t k work x
    → MarkedBy h t (k + 1) work x
marked_later m =
    record {
      node = m.node;
      letter = m.letter;
      done = omega (arith, m.done);
      before = m.before;
      link = m.link;
      mark = m.mark;
      shown = m.shown;
    }

plain_later : {h : Head} {t : Table} {k : ℕ} {work : List ℕ} → Plain h t k work
    → Plain h t (k + 1) work
plain_later p =
    record { root = p.root; marked = λ z x low high f. marked_later (p.marked z x low high f) }

-- number 0 is 0: then nothing is claimed
not_plain : {h : Head} {t : Table} {k : ℕ} {work : List ℕ} → get_or work 0 0 ≡ 0 → Plain h t k work
not_plain z =
    record { root = λ e. absurd (omega arith); marked = λ e x low high f. absurd (omega arith) }

-- ---- the links of a node

-- the first i links of node q are counted
pub record Counting (h : Head) (t : Table) (q : ℕ) (work work' : List ℕ) (i : ℕ) : Type 0 where
  pub counted : LinksCounted h t q i work work'
  pub still : get_or work' 0 0 ≡ 1 → (x : ℕ) → x ≤ q → get_or work' x 0 ≡ get_or work x 0
  pub kept : RestKept h.g work work'

pub counting_none : (h : Head) (t : Table) (q : ℕ) (work : List ℕ) → Counting h t q work work 0
unfolding holds_bad any_below times_in
counting_none h t q work =
    record {
      counted =
          record {
            good = refl;
            met = λ x m low high e. let s : m ≡ m + 0 = omega arith in rw (← s) e;
            plain = plain_later;
          };
      still = λ z x b. refl;
      kept = kept_none h.g work;
    }

-- a link that is not bad has a working number
pub counting_room : {h : Head} {t : Table} {q : ℕ} {work work' : List ℕ} {i c : ℕ}
    → Counting h t q work work' i → h.g + 1 ≤ length work
    → bad_link h.g c ≡ false → c < length work'
counting_room {h} {c = c} p room good =
    omega (arith, (not_bad h.g c).0 good, p.kept.long)

-- number 0 is set to 0 if link c of node q does not lead upward, or if c hides data by this mark;
-- no other number changes
pub record Noted (h : Head) (t : Table) (q c mark : ℕ) (work work' : List ℕ) : Type 0 where
  pub same : (x : ℕ) → 1 ≤ x → get_or work' x 0 ≡ get_or work x 0
  pub told : get_or work' 0 0 ≡ 1
      → (get_or work 0 0 ≡ 1) × (q < c) × (hidden_at h t c mark ≡ false)
  pub kept : RestKept h.g work work'

-- neither: nothing changes
pub noted_tests : {h : Head} {t : Table} {q c mark : ℕ} (work : List ℕ) {hides : Bool}
    → hides ≡ hidden_at h t c mark → (leb c q || hides) ≡ false
    → Noted h t q c mark work work
noted_tests {h} {t} {q} {c} {mark} work {hides} e f =
    let (lower, hidden) = neither (leb c q) hides f in
    record {
      same = λ x low. refl;
      told = λ z. (z, leb-false c q lower, sym e ∙ hidden);
      kept = kept_none h.g work;
    }
  where
    neither : (a b : Bool) → (a || b) ≡ false → (a ≡ false) × (b ≡ false)
    neither true b f = absurd (false≢true (sym f))
    neither false b f = (refl, f)

-- one of the two
pub noted_other : {h : Head} {t : Table} {q c mark : ℕ} (work : List ℕ) → 0 < length work
    → Noted h t q c mark work (set work 0 0)
noted_other work room =
    record {
      same = λ x low. get_or-set_other work 0 x 0 0 (λ z. omega arith);
      told = λ z. absurd (omega (arith, get_or-set_same work 0 0 0 room));
      kept = kept_set work 0 (omega arith);
    }

module _ {h : Head} {t : Table} {q : ℕ} {work work' : List ℕ} {i : ℕ}
    (p : Counting h t q work work' i) where
  -- one more link that is not bad, with working numbers that count it
  one_more : {c : ℕ} {work'' : List ℕ} → c ≡ t.child q i → bad_link h.g c ≡ false
      → RestKept h.g work' work''
      → ((x m : ℕ) → 1 ≤ x → Tells m (get_or work' x 0)
      → Tells (m + cond (eqb c x) 1 0) (get_or work'' x 0))
      → (get_or work'' 0 0 ≡ 1 → (x : ℕ) → x ≤ q → get_or work'' x 0 ≡ get_or work' x 0)
      → (Plain h t (q + 1) work' → Plain h t (q + 1) work'')
      → Counting h t q work work'' (i + 1)
  unfolding holds_bad any_below times_in
  one_more {c} {work''} e good kept step same on =
      record {
        counted =
            record {
              good = rw (add-one i, ← e, p.counted.good, good);
              met = λ x m low high b.
                  let so_far : ℕ = m + times_in t x q i in
                  let sum : so_far + cond (eqb c x) 1 0
                  ≡ m + (times_in t x q i + cond (eqb c x) 1 0) = omega arith in
                  rw (add-one i, ← e, ← sum)
                  (step x so_far low (p.counted.met x m low high b));
              plain = λ a. on (p.counted.plain a);
            };
        still = λ z x b.
            same z x b ∙ p.still (sym (same z 0 (omega arith)) ∙ z) x b;
        kept = kept_more p.kept kept;
      }

  pub counting_empty : {c : ℕ} → c ≡ t.child q i → c ≡ 0 → Counting h t q work work' (i + 1)
  unfolding bad_link
  counting_empty {c} e z =
      one_more e ((not_bad h.g c).1 (omega arith)) (kept_none h.g work')
      (λ x m low b.
      let s : m ≡ m + 0 = omega arith in rw (ne_eqb c x (λ w. omega arith), ← s) b)
      (λ _ x b. refl)
      (λ a. a)

  module _ {c mark : ℕ} {work₁ : List ℕ} (e : c ≡ t.child q i) (good : bad_link h.g c ≡ false)
      (full : c ≢ 0) (noted : Noted h t q c mark work' work₁) (room : c < length work₁) where
    -- the numbers other than number 0, once that of c is v
    counts : (v : ℕ) (work'' : List ℕ) → get_or work'' c 0 ≡ v
        → ((x : ℕ) → 1 ≤ x → x ≢ c → get_or work'' x 0 ≡ get_or work₁ x 0)
        → ((m : ℕ) → Tells m (get_or work₁ c 0) → Tells (m + 1) v)
        → (x m : ℕ) → 1 ≤ x → Tells m (get_or work' x 0)
        → Tells (m + cond (eqb c x) 1 0) (get_or work'' x 0)
    counts v work'' now rest step x m low b = go (ℕ_discrete c x)
      where
        was : Tells m (get_or work₁ x 0)
        was = rw (noted.same x low) b

        go : Dec (c ≡ x) → Tells (m + cond (eqb c x) 1 0) (get_or work'' x 0)
        go (yes s) = rw (eq-eqb c x s, ← s, now) (step m (rw s was))
        go (no s) =
            let z : m ≡ m + 0 = omega arith in
            rw (ne_eqb c x s, rest x low (λ w. s (sym w)), ← z) was

    -- a second link
    pub counting_again : get_or work₁ c 0 ≢ 0
        → Counting h t q work (set (set work₁ c again) 0 0) (i + 1)
    counting_again met =
        one_more e good
        (kept_more noted.kept
        (kept_more (kept_set work₁ again ((not_bad h.g c).0 good))
        (kept_set (set work₁ c again) 0 (omega arith))))
        (counts again (set (set work₁ c again) 0 0)
        (get_or-set_other (set work₁ c again) 0 c 0 0 full ∙ get_or-set_same work₁ c again 0 room)
        (λ x low s. get_or-set_other (set work₁ c again) 0 x 0 0 (λ z. omega arith)
        ∙ get_or-set_other work₁ c x again 0 s)
        (λ m b. tells_more b met))
        (λ z. absurd (omega (arith, zeroth)))
        (λ _. not_plain zeroth)
      where
        zeroth : get_or (set (set work₁ c again) 0 0) 0 0 ≡ 0
        zeroth =
            get_or-set_same (set work₁ c again) 0 0 0 (omega (arith, length-set work₁ c again))

    -- the first link: node c receives its mark
    pub counting_first : get_or work₁ c 0 ≡ 0 → mark ≡ deeper_of (get_or work q 0)
        → Counting h t q work (set work₁ c mark) (i + 1)
    counting_first new given =
        one_more e good (kept_more noted.kept (kept_set work₁ mark ((not_bad h.g c).0 good)))
        (counts mark (set work₁ c mark) now (λ x low s. other x s)
        (λ m b. tells_first b new (omega arith) (omega arith)))
        (λ z x b. let (y, up, shown) = noted.told (first z) in
        other x (λ w. omega arith) ∙ same z x)
        (λ a. record {
          root = λ z. a.root (noted.told (first z)).0;
          marked = λ z x low high f. go a z x low high f (ℕ_discrete x c);
        })
      where
        now : get_or (set work₁ c mark) c 0 ≡ mark
        now = get_or-set_same work₁ c mark 0 room

        other : (x : ℕ) → x ≢ c → get_or (set work₁ c mark) x 0 ≡ get_or work₁ x 0
        other x s = get_or-set_other work₁ c x mark 0 s

        -- while number 0 is 1, it was so before, and every number is what it was
        first : get_or (set work₁ c mark) 0 0 ≡ 1 → get_or work₁ 0 0 ≡ 1
        first z = sym (other 0 (λ w. full (sym w))) ∙ z

        same : get_or (set work₁ c mark) 0 0 ≡ 1 → (x : ℕ) → get_or work₁ x 0 ≡ get_or work' x 0
        same z zero = first z ∙ sym (noted.told (first z)).0
        same z (suc x) = noted.same (suc x) (omega arith)

        go : Plain h t (q + 1) work' → get_or (set work₁ c mark) 0 0 ≡ 1 → (x : ℕ) → 1 ≤ x
            → x ≤ h.g → get_or (set work₁ c mark) x 0 ≢ 0 → Dec (x ≡ c)
            → MarkedBy h t (q + 1) (set work₁ c mark) x
        go a z x low high f (yes s) =
            let (y, up, shown) = noted.told (first z) in
            let here : get_or (set work₁ c mark) q 0 ≡ get_or work q 0 =
            other q (λ w. omega arith) ∙ same z q ∙ p.still y q (omega arith) in
            rw s
            (record {
              node = q;
              letter = i;
              done = omega arith;
              before = up;
              link = sym e;
              mark = rw (now, here) given;
              shown = rw now shown;
            })
        go a z x low high f (no s) =
            let (y, up, shown) = noted.told (first z) in
            let unchanged : get_or (set work₁ c mark) x 0 ≡ get_or work' x 0 = other x s
            ∙ same z x in
            let m : MarkedBy h t (q + 1) work' x =
            a.marked y x low high (λ w. f (unchanged ∙ w)) in
            marked_still m unchanged
            (other m.node (λ w. omega (arith, m.done)) ∙ same z m.node)

-- ---- the result for a node

module _ {h : Head} {l : List ℕ} {q : ℕ} {work work' : List ℕ} {i : ℕ}
    (p : Counting h (table_of h l) q work work' i) where
  pub tallied_all : i ≡ h.n → Tallied h l q work true work'
  tallied_all e =
      record {
        counted = λ _. rw e at p.counted;
        bad = λ z. let y : ◌≡◌ {A = ℕ} 0 1 = cc in absurd (omega arith);
        kept = p.kept;
      }

  pub tallied_bad : {c : ℕ} → i < h.n → c ≡ (table_of h l).child q i → bad_link h.g c ≡ true
      → Tallied h l q work false work'
  tallied_bad below e b =
      record {
        counted = λ z. let y : ◌≡◌ {A = ℕ} 0 1 = cc in absurd (omega arith);
        bad = λ _. holds_bad_lem h.g (table_of h l) q h.n below (rw (← e) b);
        kept = p.kept;
      }

-- a node without links adds nothing
pub tallied_childless : (h : Head) (l : List ℕ) (q : ℕ) (work : List ℕ)
    → ((i : ℕ) → (table_of h l).child q i ≡ 0)
    → Tallied h l q work true work
tallied_childless h l q work e = tallied_all (upto h.n) refl
  where
    upto : (i : ℕ) → Counting h (table_of h l) q work work i
    upto zero = counting_none h (table_of h l) q work
    upto (suc i) = rw (← add-one i) (counting_empty (upto i) refl (e i))

-- ---- the nodes

-- the first q nodes are counted
pub record Tallying (h : Head) (t : Table) (work work' : List ℕ) (q : ℕ) : Type 0 where
  pub seeking : Seeking (λ r. holds_bad h.g t r h.n) 0 (h.g + 1) q
  pub tally : Tally t h.n h.g q work'
  pub plain : Plain h t q work'
  pub kept : RestKept h.g work work'

-- no node is counted, and number 0 is 1 only if the root hides no data
pub tallying_none : (h : Head) (t : Table) (work : List ℕ) (v : ℕ) → h.g + 1 ≤ length work
    → work ≡ replicate (h.g + 1) 0 ++ drop (h.g + 1) work
    → {hides : Bool} → hides ≡ hidden_at h t 0 1 → (v ≡ 1 → hides ≡ false)
    → Tallying h t (set work 0 v) (set work 0 v) 0
unfolding times
tallying_none h t work v room e f shown =
    record {
      seeking = seeking_none (λ r. holds_bad h.g t r h.n) 0 (h.g + 1);
      tally = λ x low high. rw (clear x low high) tells_start;
      plain =
          record {
            root = λ z. sym f ∙ shown (sym (get_or-set_same work 0 v 0 (omega arith)) ∙ z);
            marked = λ z x low high f. absurd (f (clear x low high));
          };
      kept = kept_none h.g (set work 0 v);
    }
  where
    clear : (x : ℕ) → 1 ≤ x → x ≤ h.g → get_or (set work 0 v) x 0 ≡ 0
    clear x low high =
        get_or-set_other work 0 x v 0 (λ z. omega arith)
        ∙ ap (λ (w : List ℕ). get_or w x 0) e
        ∙ get_or-append (replicate (h.g + 1) 0) (drop (h.g + 1) work) 0 x
        (omega (arith, length-replicate {A = ℕ} (h.g + 1) 0))
        ∙ get_or-replicate (h.g + 1) x 0 0 (omega arith)

module _ {h : Head} {l work work' work'' : List ℕ} {q : ℕ}
    (p : Tallying h (table_of h l) work work' q) where
  pub tallying_more : q < h.g + 1 → {r : Bool} → r ≡ true → Tallied h l q work' r work''
      → Tallying h (table_of h l) work work'' (q + 1)
  unfolding times
  tallying_more below e s =
      record {
        seeking = seeking_more p.seeking (omega arith) (s.counted e).good;
        tally = λ x low high. rw (add-one q)
            ((s.counted e).met x (times (table_of h l) h.n x q) low high (p.tally x low high));
        plain = (s.counted e).plain p.plain;
        kept = kept_more p.kept s.kept;
      }

  pub tallying_bad : {before : List ℕ} → RestKept h.g before work → q < h.g + 1 → {r : Bool}
      → r ≡ false → Tallied h l q work' r work''
      → BadFrom h l before (Some q) work''
  tallying_bad kept below e s =
      record {
        lowest_bad = seeking_found p.seeking (omega arith) (s.bad e);
        tally = λ z. cc;
        plain = λ z. cc;
        kept = kept_more kept (kept_more p.kept s.kept);
      }

pub tallying_all : {h : Head} {l before work work' : List ℕ} {q : ℕ}
    → Tallying h (table_of h l) work work' q → RestKept h.g before work → q ≡ h.g + 1
    → BadFrom h l before None work'
tallying_all {h} {l} {q = q} p kept e =
    record {
      lowest_bad = seeking_all p.seeking (omega arith);
      tally = λ _. rw e at p.tally;
      plain = λ _. rw e at p.plain;
      kept = kept_more kept p.kept;
    }
