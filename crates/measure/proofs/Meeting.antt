-- The keys of a walk, counted. If m is the first key after k, the keys after m are the others
-- after k. So each key that is met leaves one fewer to come.
use Prim.Native.Nat.{ℕ, suc, ◌+◌, ◌<◌, ◌^◌}
use native.Mathlib.Omega.{arith}
use mathlib.Core.Bool.{true}
use mathlib.Core.List.{List, []}
use mathlib.Core.Path.{◌≡◌, ◌∙◌, ap}
use lib.ListN.{length, take}
use Rattle.std.specs.Prelude.{Result, Ok, Err, Option as Maybe, Some, None}
use Rattle.trie.specs.Keys.{meets}
use Rattle.trie.proofs.Filter.{filter_length}
use Rattle.head.specs.declared.Head.{Head}
use Rattle.head.specs.Fields.{head_of}
use Rattle.alphabet.specs.declared.codes.Codes.{Codes}
use Rattle.paper.specs.declared.Refusal.{Refusal}
use Rattle.paper.specs.Calls.{table_in, stored_keys}
use Rattle.paper.proofs.Hearing.{told_refused, told_passed}
use Rattle.audit.specs.Audit.{Checked}
use Rattle.depths.proofs.Walkable.{Walkable}
use Rattle.depths.specs.declared.Spot.{Spot}
use Rattle.traversal.specs.Search.{next_stored, SearchTells}
use Rattle.traversal.proofs.Walking.{Met, met, all_keys, keys_after, none_after, next_after}
use Rattle.measure.specs.KeysMet.{keys_met, keys_met_by, checked_keys_met}

-- how many keys come after a key
abbrev pub to_come : Head → List ℕ → List ℕ → ℕ
to_come h l m = length (keys_after h l m)

-- `count` keys were met; the last of them is the first n letters of the path
pub record Meeting (h : Head) (l path nodes : List ℕ) (n count : ℕ) : Type 0 where
  pub walking : Met h l path nodes n
  pub all : count + to_come h l (take n path) ≡ to_come h l []

pub meeting_start : {h : Head} {l path nodes : List ℕ} → Met h l path nodes 0
    → Meeting h l path nodes 0 0
meeting_start w = record { walking = w; all = omega arith }

module _ {h : Head} {l path nodes : List ℕ} {n count : ℕ} (w : Meeting h l path nodes n count)
  where
    pub meeting_few : Walkable h l → count < 2 ^ 32
    meeting_few a = omega (arith, w.all, a.few, filter_length (meets true []) (all_keys h l))

    module _ {r : Maybe Spot} {path₁ nodes₁ : List ℕ}
        (told : SearchTells h l (next_stored h l true (take n path)) r path₁ nodes₁) where
      pub meeting_end : h ≡ head_of l → r ≡ None → count ≡ keys_met l
      unfolding keys_met stored_keys table_in
      meeting_end same e =
          let none_left = ap length (none_after h l (take n path) told e) in
          let total : count ≡ to_come h l [] = omega (arith, w.all, none_left) in
          total ∙ ap (λ (k : Head). to_come k l []) same

      module _ {spot : Spot} (e : r ≡ Some spot) where
        fewer : to_come h l (take n path) ≡ suc (to_come h l (take spot.length path₁))
        fewer = ap length (next_after h l (take n path) told e)

        pub meeting_less : to_come h l (take spot.length path₁) < to_come h l (take n path)
        meeting_less = omega (arith, fewer)

        pub meeting_on : Meeting h l path₁ nodes₁ spot.length (count + 1)
        meeting_on = record { walking = met told e; all = omega (arith, w.all, fewer) }

-- ---- after the check

module _ {l work : List ℕ} {r : Result Head Refusal} {work' : List ℕ} {codes : Codes}
    (o : Checked l work r work' codes) where
  pub walk_refused : {why : Refusal} → r ≡ Err why → 0 ≡ checked_keys_met l work
  unfolding keys_met_by
  walk_refused e = rw (told_refused o.verdict e)

  pub walk_passed : {n : ℕ} {h : Head} → r ≡ Ok h → n ≡ keys_met l → n ≡ checked_keys_met l work
  unfolding keys_met_by
  walk_passed e f = rw (told_passed o.verdict e) f
