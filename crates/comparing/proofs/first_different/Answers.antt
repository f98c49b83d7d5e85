-- `comparing::first_different` meets its contract: lists that are the same differ nowhere; else
-- the first pair of different numbers is at the lowest node. Assumes nothing.
use Prim.Native.Nat.{ℕ, ◌+◌, ◌<◌}
use native.Mathlib.Nat.{zero-add}
use native.Mathlib.Omega.{arith}
use mathlib.Core.Bool.{Bool, not}
use mathlib.Core.List.{List}
use mathlib.Core.Logic.{◌≢◌}
use mathlib.Core.Path.{◌≡◌, refl, sym}
use lib.Dec.{eqb}
use lib.ListN.{length, get_or}
use borrow.Author.Tests.{tests, eq-eqb, ne_eqb}
use Rattle.std.proofs.Common.{rules}
use Rattle.std.specs.Prelude.{Option, Some, None}
use Rattle.std.specs.List.{zip, AllWithin, HoldsAt}
use Rattle.std.specs.Option.{MatchOption}
use Rattle.std.proofs.lemmas.Bool.Decides.{Decides-eqb}
use Rattle.std.proofs.lemmas.Iterator.{IsFirst-from_position, YieldsList-from_slice}
use Rattle.std.proofs.lemmas.Iterator.{YieldsList-from_zip}
use Rattle.std.proofs.lemmas.Slice.Eq.{slice_eq-Decides}
use Rattle.std.proofs.lemmas.Slice.Zip.{length-zip, get_or-zip}
use Rattle.trie.proofs.Lowest.{lowest_none}
use Rattle.paper.proofs.Hearing.{untrue, unfalse}
use Rattle.tallying.specs.Tallied.{lowest_in}
use Rattle.tallying.proofs.LowestFound.{none_found, first_element}
use Rattle.comparing.proofs.first_different.Goals as goal

-- do the numbers of node q differ?
abbrev differ : List ℕ → List ℕ → ℕ → Bool
differ fresh counts q = not (eqb (get_or counts q 0) (get_or fresh q 0))

same_nowhere : (fresh counts : List ℕ) (nodes : ℕ) → fresh ≡ counts
    → None ≡ lowest_in (differ fresh counts) 0 nodes
same_nowhere fresh counts nodes e =
    none_found (differ fresh counts) 0 nodes
    (omega (
      arith,
      lowest_none (differ fresh counts) 0 nodes
          (λ q low high. rw e (rw (eq-eqb (get_or counts q 0) (get_or counts q 0) refl))),
    ))

-- are the numbers of a pair different, or the same?
abbrev unlike : ℕ × ℕ → Type 0
unlike d = d.0 ≢ d.1

abbrev alike : ℕ × ℕ → Type 0
alike d = d.0 ≡ d.1

-- the position among the pairs is the lowest node whose numbers differ
first_pair : (fresh counts : List ℕ) → length fresh ≡ length counts → (r : Option ℕ)
    → MatchOption r (AllWithin alike (zip fresh counts) 0 (length (zip fresh counts)))
    (λ i. (i < length (zip fresh counts)) × HoldsAt unlike (zip fresh counts) i
    × AllWithin alike (zip fresh counts) 0 i)
    → r ≡ lowest_in (differ fresh counts) 0 (length counts)
first_pair fresh counts e r found =
    let size : length (zip fresh counts) ≡ length counts =
    omega (arith, length-zip fresh counts) in
    let pair : (i : ℕ) → i < length (zip fresh counts)
    → get_or (zip fresh counts) i (0, 0) ≡ (get_or fresh i 0, get_or counts i 0) =
    λ i b. get_or-zip fresh counts i (0, 0) (omega arith) (omega arith) in
    rw (← size)
    (first_element unlike alike (zip fresh counts) (0, 0) (differ fresh counts) 0
    (λ i b f. let g : get_or fresh i 0 ≢ get_or counts i 0 = rw (pair i b) at f in
    rw (zero-add i) (unfalse (ne_eqb _ _ (λ q. g (sym q)))))
    (λ i b f. let g : get_or fresh i 0 ≡ get_or counts i 0 = rw (pair i b) at f in
    rw (zero-add i) (untrue (eq-eqb _ _ (sym g))))
    r found r (itself r))
  where
    itself : (o : Option ℕ) → MatchOption o (o ≡ None) (λ i. o ≡ Some (0 + i))
    itself None = refl
    itself (Some i) = rw (zero-add i)

pub returns-then-eq : goal.returns-then-eq
returns-then-eq c =
    let a = c.args in
    same_nowhere a.fresh.now a.counts.now _
    ((slice_eq-Decides Decides-eqb a.fresh.now a.counts.now c.eq.result c.eq.ensures).0
    c.if-eq.true)

pub returns : goal.returns
returns c =
    let a = c.args in
    first_pair a.fresh.now a.counts.now c.requires c.position.result
    (IsFirst-from_position c.position.new.self _ _ unlike alike c.position.ensures.ran
    (YieldsList-from_zip (YieldsList-from_slice a.fresh.now cc)
    (YieldsList-from_slice a.counts.now cc))
    (λ x q k. search (rules, tests)) (λ x q k. search (rules, tests)))
