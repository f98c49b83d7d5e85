-- `tallying::first_holding` meets its contract: the address is 1 more than the first position of
-- v among the numbers from number 1 on. Assumes nothing.
use mathlib.Core.Path.{◌≡◌, sym, ◌∙◌}
use mathlib.Core.Logic.{◌≢◌}
use mathlib.Core.List.{List}
use Prim.Native.Nat.{ℕ, ◌+◌, ◌-◌, ◌≤◌, ◌<◌}
use native.Mathlib.Omega.{arith}
use lib.Dec.{eqb}
use lib.ListN.{length, get_or, take, drop, length-drop}
use borrow.Author.Tests.{tests, eq-eqb, ne_eqb}
use Rattle.std.proofs.Common.{rules}
use Rattle.std.specs.Prelude.{Option, Some, None}
use Rattle.std.specs.List.{AllWithin, HoldsAt}
use Rattle.std.specs.Option.{MatchOption}
use Rattle.std.proofs.lemmas.List.{get_or-take, get_or-drop, length-take-le}
use Rattle.std.proofs.lemmas.Iterator.{IsFirst-from_position, YieldsList-from_slice}
use Rattle.tallying.specs.Tallied.{FoundFrom}
use Rattle.tallying.proofs.LowestFound.{first_element}
use Rattle.tallying.proofs.first_holding.Goals as goal

-- the position counts from number 1, where the part that is searched begins
held : (work : List ℕ) (count v : ℕ) → count ≤ length work → (o r : Option ℕ)
    → (let part = take (count - 1) (drop 1 work) in
    MatchOption o (AllWithin (λ d. d ≢ v) part 0 (length part))
    (λ i. (i < length part) × HoldsAt (λ d. d ≡ v) part i × AllWithin (λ d. d ≢ v) part 0 i))
    → MatchOption o (r ≡ None) (λ i. r ≡ Some (1 + i)) → FoundFrom work count v r
held work count v room o r found on =
    let part : List ℕ = take (count - 1) (drop 1 work) in
    let size : length part ≡ count - 1 =
    length-take-le (count - 1) (drop 1 work) (omega (arith, length-drop 1 work)) in
    let same : (i : ℕ) → i < length part → get_or part i 0 ≡ get_or work (1 + i) 0 =
    λ i b. let h : i < count - 1 = omega arith in
    rw (get_or-take (count - 1) (drop 1 work) i 0 h) (get_or-drop 1 work i 0) in
    rw (← size)
    (first_element (λ d. d ≡ v) (λ d. d ≢ v) part 0 (λ x. eqb (get_or work x 0) v) 1
    (λ i b e. eq-eqb _ _ (sym (same i b) ∙ e)) (λ i b e. ne_eqb _ _ (λ q. e (same i b ∙ q)))
    o found r on)

pub returns : goal.returns
returns c =
    let a = c.args in
    held a.work.now a.count a.v c.requires.room c.position.result c.map.result
    (IsFirst-from_position _ _ _ (λ d. d ≡ a.v) (λ d. d ≢ a.v) c.position.ensures.ran
    (YieldsList-from_slice (take (a.count - 1) (drop 1 a.work.now)) cc)
    (λ x q k. search (rules, tests)) (λ x q k. search (rules, tests)))
    (search rules)
