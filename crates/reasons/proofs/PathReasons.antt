-- 6 in a lookup: the row is given exactly where a link on the key's path breaks the first link
-- rule, and its place is the node that holds the first such link. By the key's letters, from any
-- node on: an empty link ends the path, a link that breaks the rule is the first, and any other
-- leads on.
use Prim.Native.Nat.{ℕ, ◌<◌}
use mathlib.Core.Path.{◌≡◌, refl, sym, ◌∙◌, ap}
use mathlib.Core.Logic.{◌≢◌}
use mathlib.Core.Bool.{Bool, true, false, true≢false}
use mathlib.Core.Option.{Option, none, some}
use mathlib.Core.List.{List, [], ◌∷◌, ◌++◌}
use native.Mathlib.Decide.{ℕ_discrete}
use native.Mathlib.Omega.{arith}
use lib.ListN.{length, length-append}
use Rattle.trie.specs.Table.{Table, complete, stopped, descend, fault}
use Rattle.trie.proofs.Walk.{descend_nil, descend_empty, descend_on}
use Rattle.trie.proofs.Faults.{fault_nil, fault_empty, fault_bad, fault_on}
use Rattle.head.specs.Fields.{head_of}
use Rattle.node.specs.Image.{table_of}
use Rattle.paper.specs.Rows.{bad_link, row6_at, row6path}
use Rattle.paper.specs.Calls.{table_in}
use Rattle.reasons.specs.Reasons.{◌when◌}
use Rattle.reasons.specs.CheckReasons.{Breaks, BreaksAfter, BreaksOnPath, PathPlace}
use Rattle.reasons.proofs.FirstReason.{Fits, Tells}
use Rattle.reasons.proofs.LinkReasons.{bad_breaks}

module _ (g : ℕ) (t : Table) where
  -- from node a the walk of a key comes to node q after some letters, and its link for the next
  -- letter breaks the rule
  record BreaksFrom (a : ℕ) (key before : List ℕ) (q : ℕ) : Type 0 where
    letter : ℕ
    rest : List ℕ
    spelt : key ≡ before ++ (letter ∷ rest)
    walked : descend t a before ≡ complete q
    breaks : Breaks g (t.child q letter)

  none_left : (a : ℕ) (before : List ℕ) (q : ℕ) → ¬ BreaksFrom a [] before q
  none_left a before q s =
      omega (arith, ap length s.spelt, length-append before (s.letter ∷ s.rest))

  -- it breaks at the first letter
  at_first : (a x : ℕ) (xs : List ℕ) (q : ℕ) → BreaksFrom a (x ∷ xs) [] q
      → (q ≡ a) × Breaks g (t.child a x)
  at_first a x xs q s =
      let arrived : complete a ≡ complete q = sym (descend_nil t a) ∙ s.walked in
      let here : q ≡ a = cc in
      let spelt = s.spelt in
      let same : x ≡ s.letter = cc in
      (here, rw (same, ← here) s.breaks)

  -- it breaks at a later letter: then the first link is not empty, and it breaks from there on
  later : (a x : ℕ) (xs : List ℕ) (y : ℕ) (ys : List ℕ) (q : ℕ) → BreaksFrom a (x ∷ xs) (y ∷ ys) q
      → (t.child a x ≢ 0) × BreaksFrom (t.child a x) xs ys q
  later a x xs y ys q s = (full, on)
    where
      same : y ≡ x
      same = let spelt = s.spelt in cc

      walked : descend t a (x ∷ ys) ≡ complete q
      walked = rw (← same) s.walked

      full : t.child a x ≢ 0
      full e =
          let ended : stopped a x ys ≡ complete q = sym (descend_empty t a x ys e) ∙ walked in
          let z : ◌≡◌ {A = ℕ} 0 1 = cc in
          omega arith

      on : BreaksFrom (t.child a x) xs ys q
      on =
          let spelt = s.spelt in
          record {
            letter = s.letter;
            rest = s.rest;
            spelt = cc;
            walked = sym (descend_on t a x ys full) ∙ walked;
            breaks = s.breaks;
          }

  -- nothing breaks on an empty link, nor where neither the first link nor a later one does
  stops : (a x : ℕ) (xs before : List ℕ) (q : ℕ) → t.child a x ≡ 0
      → ¬ BreaksFrom a (x ∷ xs) before q
  stops a x xs [] q e s = omega (arith, (at_first a x xs q s).1)
  stops a x xs (y ∷ ys) q e s = (later a x xs y ys q s).0 e

  leads_on : (a x : ℕ) (xs before : List ℕ) (q : ℕ) → bad_link g (t.child a x) ≡ false
      → ((ys : List ℕ) → length ys < length before → ¬ BreaksFrom (t.child a x) xs ys q)
      → ¬ BreaksFrom a (x ∷ xs) before q
  leads_on a x xs [] q good rest s =
      true≢false (sym ((bad_breaks g (t.child a x)).1 (at_first a x xs q s).1) ∙ good)
  leads_on a x xs (y ∷ ys) q good rest s = rest ys (omega arith) (later a x xs y ys q s).1

  -- the first link that breaks the rule is at node q
  record Earliest (a : ℕ) (key : List ℕ) (q : ℕ) : Type 0 where
    before : List ℕ
    here : BreaksFrom a key before q
    first : (earlier : List ℕ) (p : ℕ) → length earlier < length before
        → ¬ BreaksFrom a key earlier p

  -- what `fault` answers: no link on the path breaks the rule, or the first is at node q
  abbrev Judged : ℕ → List ℕ → Option ℕ → Type 0
  Judged a key none = (before : List ℕ) (q : ℕ) → ¬ BreaksFrom a key before q
  Judged a key (some q) = Earliest a key q

  first_here : (a x : ℕ) (xs : List ℕ) → bad_link g (t.child a x) ≡ true
      → Earliest a (x ∷ xs) a
  first_here a x xs e =
      record {
        before = [];
        here = record {
          letter = x;
          rest = xs;
          spelt = refl;
          walked = descend_nil t a;
          breaks = (bad_breaks g (t.child a x)).0 e;
        };
        first = λ earlier p b. absurd (omega arith);
      }

  led_on : (a x : ℕ) (xs : List ℕ) (o : Option ℕ) → t.child a x ≢ 0
      → bad_link g (t.child a x) ≡ false → Judged (t.child a x) xs o
      → Judged a (x ∷ xs) o
  led_on a x xs none full good j = λ before q. leads_on a x xs before q good (λ ys _. j ys q)
  led_on a x xs (some p) full good j =
      let there = j.here in
      record {
        before = x ∷ j.before;
        here = record {
          letter = there.letter;
          rest = there.rest;
          spelt = ap (x ∷◌) there.spelt;
          walked = descend_on t a x j.before full ∙ there.walked;
          breaks = there.breaks;
        };
        first = λ earlier q b. leads_on a x xs earlier q good
            (λ ys c. j.first ys q (omega arith));
      }

  judged : (key : List ℕ) (a : ℕ) → Judged a key (fault (bad_link g) t a key)
  judged [] a = rw (fault_nil (bad_link g) t a) (λ before q. none_left a before q)
  judged (x ∷ xs) a = go (ℕ_discrete (t.child a x) 0) (bad_link g (t.child a x)) refl
      (judged xs (t.child a x))
    where
      go : Dec (t.child a x ≡ 0) → (b : Bool) → bad_link g (t.child a x) ≡ b
          → Judged (t.child a x) xs (fault (bad_link g) t (t.child a x) xs)
          → Judged a (x ∷ xs) (fault (bad_link g) t a (x ∷ xs))
      go (yes z) b e rest =
          rw (fault_empty (bad_link g) t a x xs z) (λ before q. stops a x xs before q z)
      go (no full) true e rest =
          rw (fault_bad (bad_link g) t a x xs refl full e) (first_here a x xs e)
      go (no full) false e rest =
          rw (fault_on (bad_link g) t a x xs refl full e)
          (led_on a x xs (fault (bad_link g) t (t.child a x) xs) full e rest)

-- ---- 6 of a lookup in an image

module _ (l key : List ℕ) where
  abbrev table : Table
  table = table_of (head_of l) l

  after : {before : List ℕ} {q : ℕ} → BreaksFrom (head_of l).g table 0 key before q
      → BreaksAfter l key before q
  unfolding table_in
  after s =
      record {
        letter = s.letter;
        rest = s.rest;
        spelt = s.spelt;
        walked = s.walked;
        breaks = s.breaks;
      }

  from : {before : List ℕ} {q : ℕ} → BreaksAfter l key before q
      → BreaksFrom (head_of l).g table 0 key before q
  unfolding table_in
  from s =
      record {
        letter = s.letter;
        rest = s.rest;
        spelt = s.spelt;
        walked = s.walked;
        breaks = s.breaks;
      }

  -- the row for what `fault` answers
  at_fits : (o : Option ℕ) → Judged (head_of l).g table 0 key o
      → Fits (row6_at o) (6 when BreaksOnPath l key) × Tells (PathPlace l key) (row6_at o)
  unfolding row6_at
  at_fits none j = (λ s. let (before, q, there) = s in j before q (from there), tt)
  at_fits (some q) j = (
    ((j.before, q, after j.here), refl),
    record {
      six = λ _. record {
        before = j.before;
        here = after j.here;
        earliest = λ earlier p b s. j.first earlier p (omega arith) (from s);
      };
      others = λ d. absurd (d refl);
    },
  )

  pub path_fits : Fits (row6path (head_of l) table key) (6 when BreaksOnPath l key)
  unfolding row6path
  path_fits = (at_fits (fault (bad_link (head_of l).g) table 0 key)
      (judged (head_of l).g table key 0)).0

  pub path_tells : Tells (PathPlace l key) (row6path (head_of l) table key)
  unfolding row6path
  path_tells = (at_fits (fault (bad_link (head_of l).g) table 0 key)
      (judged (head_of l).g table key 0)).1
