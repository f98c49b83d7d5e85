-- 11, 12 and 13 of a store: the verdict at each return of the code that judges them, and the
-- outcome if one of them is given or none is.
use Prim.Native.Nat.{ℕ, zero, suc, ◌+◌, ◌-◌, ◌*◌, ◌^◌, ◌≤◌, ◌<◌}
use mathlib.Core.Path.{◌≡◌, refl, sym, ◌∙◌}
use mathlib.Core.Logic.{◌≢◌}
use mathlib.Core.Bool.{Bool, ◌&&◌}
use mathlib.Core.Option.{none, some}
use mathlib.Core.List.{List, [], ◌∷◌}
use native.Mathlib.Omega.{arith}
use borrow.Author.Tests.{lt-ltb}
use lib.IntN.{ℤ, pos, negsuc}
use lib.Dec.{ltb}
use lib.ListN.{length}
use Rattle.std.specs.Prelude.{Result, Ok, Err}
use Rattle.trie.specs.Table.{Descent, missing, value_at}
use Rattle.trie.specs.Storing.{added, change_of}
use Rattle.head.specs.declared.Head.{Head}
use Rattle.head.specs.Fields.{node_width, used_len}
use Rattle.node.specs.Image.{table_of}
use Rattle.node.specs.Writes.{carried_out, store_writes}
use Rattle.node.proofs.Heads.{with_total, used_more}
use Rattle.paper.specs.declared.Refusal.{Refusal}
use Rattle.paper.specs.Hearing.{Row, outcome, first}
use Rattle.paper.specs.Answers.{said_of, row_of, refusal_numbers, stored_of}
use Rattle.paper.specs.Rows.{row11, row12, row13}
use Rattle.paper.specs.Orders.{adding_rows}
use Rattle.paper.proofs.Hearing.{yes_row, first_none, first_nil, passed_row, heard_refused}
use Rattle.paper.proofs.Hearing.{heard_done}
use Rattle.paper.proofs.StoreCall.{none_11, none_12, none_13}
use Rattle.storing.specs.StoreStage.{store_at, stopped_at, Unrefused, Space, Builds}
use Rattle.storing.proofs.Building.{space}

-- ---- the change

pub change_none : {old new : ℕ} → old ≡ 0 → new ≡ 0 → pos 0 ≡ change_of old new
unfolding change_of
change_none a b = rw (a, b) refl

pub change_new : (old new : ℕ) → old ≡ 0 → new ≢ 0 → pos 1 ≡ change_of old new
unfolding change_of
change_new old zero a b = absurd (b refl)
change_new old (suc v) a b = rw a refl

pub change_gone : (old new : ℕ) → old ≢ 0 → new ≡ 0 → negsuc 0 ≡ change_of old new
unfolding change_of
change_gone zero new a b = absurd (a refl)
change_gone (suc v) new a b = rw b refl

pub change_over : (old new : ℕ) → old ≢ 0 → new ≢ 0 → pos 0 ≡ change_of old new
unfolding change_of
change_over zero new a b = absurd (a refl)
change_over (suc u) zero a b = absurd (b refl)
change_over (suc u) (suc v) a b = refl

-- ---- 11, 12 and 13

-- if there is a new node, 12 and 13 depend on their second test alone
some_new : (k : ℕ) (b : Bool) → (ltb 0 (suc k) && b) ≡ b
some_new k b = rw (lt-ltb 0 (suc k) (omega arith)) refl

module _ (h : Head) (value len : ℕ) where
  -- at each return of the code
  abbrev Judged : ℕ → Result (Unit {0}) Refusal → Type 0
  Judged new v = row_of v ≡ first (adding_rows h value new len)

  pub judged_11 : (new : ℕ) {most : ℕ} → most + 1 ≡ 256 ^ h.d → most < value
      → Judged new (Err Refusal.ValueTooGreat)
  unfolding row_of adding_rows row11
  judged_11 new m b = sym (yes_row 11 0 _ (lt-ltb (256 ^ h.d - 1) value (omega arith)))

  module _ (fits : value < 256 ^ h.d) where
    left_12 : (k : ℕ) → first (adding_rows h value k len) ≡ first (row12 h k ∷ row13 h k len ∷ [])
    unfolding adding_rows
    left_12 k = first_none _ _ ((none_11 h value).1 fits)

    -- no node is new
    pub judged_none : (new : ℕ) → new ≡ 0 → Judged new (Ok tt)
    unfolding row_of
    judged_none new z =
        rw z
        (sym
        (left_12 0
        ∙ first_none _ _ ((none_12 h 0).1 (λ b. absurd (omega arith)))
        ∙ first_none _ _ ((none_13 h 0 len).1 (λ b. absurd (omega arith)))
        ∙ first_nil))

    pub judged_12 : (new : ℕ) → new ≢ 0 → {most : ℕ} → most + 1 ≡ 256 ^ h.a → most < h.g + new
        → Judged new (Err Refusal.NoAddress)
    unfolding row_of row12
    judged_12 zero z m b = absurd (z refl)
    judged_12 (suc k) z m b =
        sym (left_12 (suc k) ∙ yes_row 12 0 _
        (some_new k _ ∙ lt-ltb (256 ^ h.a - 1) (h.g + suc k) (omega arith)))

    module _ (new : ℕ) (few : h.g + new < 256 ^ h.a) where
      left_13 : first (adding_rows h value new len) ≡ first (row13 h new len ∷ [])
      left_13 = left_12 new ∙ first_none _ _ ((none_12 h new).1 (λ _. few))

      pub judged_passed : used_len (with_total h (h.g + new)) ≤ len → Judged new (Ok tt)
      unfolding row_of
      judged_passed b =
          sym (left_13 ∙ first_none _ _ ((none_13 h new len).1 (λ _. rw (used_more h new) at b))
          ∙ first_nil)

    pub judged_13 : (new : ℕ) → new ≢ 0 → h.g + new < 256 ^ h.a
        → len < used_len (with_total h (h.g + new))
        → Judged new (Err Refusal.NoRoom)
    unfolding row_of row13
    judged_13 zero z few b = absurd (z refl)
    judged_13 (suc k) z few b =
        sym
        (left_13 (suc k) few
        ∙ yes_row 13 0 _ (some_new k _ ∙ lt-ltb len (used_len h + suc k * node_width h)
        (rw (used_more h (suc k)) at b)))

  -- what is known once 11, 12 and 13 have passed
  pub record Passed (new : ℕ) : Type 0 where
    pub fits : value < 256 ^ h.d
    pub addresses : 0 < new → h.g + new < 256 ^ h.a
    pub room : 0 < new → used_len h + new * node_width h ≤ len

  pub passed : (new : ℕ) → first (adding_rows h value new len) ≡ none → Passed new
  unfolding adding_rows
  passed new e =
      let after11 = passed_row (row11 h value) (row12 h new ∷ row13 h new len ∷ []) e in
      let after12 = passed_row (row12 h new) (row13 h new len ∷ []) after11.1 in
      let after13 = passed_row (row13 h new len) [] after12.1 in
      record {
        fits = (none_11 h value).0 after11.0;
        addresses = (none_12 h new).0 after12.0;
        room = (none_13 h new len).0 after13.0;
      }

-- ---- the outcome

module _ (h : Head) (l : List ℕ) where
  -- the outcome, given how the walk ended
  abbrev pub Leaves : Descent → ℕ → Result ℤ Refusal → List ℕ → Type 0
  Leaves d value r l' = outcome (stored_of r) (l' ∷ []) ≡ store_at h l d value

  abbrev rows : Descent → ℕ → List Row
  rows d value = adding_rows h value (added (missing d) value) (length l)

  pub refuses : (d : Descent) (value : ℕ) (why : Refusal) → first (rows d value)
      ≡ some (said_of why) → Leaves d value (Err why) l
  unfolding store_at stored_of refusal_numbers
  refuses d value why e = sym (heard_refused _ _ _ e)

  pub done : (d : Descent) (value : ℕ) → first (rows d value) ≡ none → {c : ℤ} {l' : List ℕ}
      → c ≡ change_of (value_at (table_of h l) d) value
      → l' ≡ carried_out l (store_writes h d value) → Leaves d value (Ok c) l'
  unfolding store_at stored_of
  done d value e c w = rw (c, w) (sym (heard_done _ _ _ e))

-- ---- a walk that stopped at node q, with these letters left

module _ (h : Head) (l : List ℕ) (q : ℕ) {left : List ℕ} (x : ℕ) (xs : List ℕ) (e : left ≡ x ∷ xs)
  where
    pub none_built : (value : ℕ) → value ≡ 0
        → l ≡ carried_out l (store_writes h (stopped_at q left) value)
    unfolding stopped_at store_writes carried_out
    none_built value z = rw (z, e) refl

    -- addresses and room for all missing nodes
    pub path_space : (value : ℕ) → value ≢ 0 → Unrefused h (length l) (stopped_at q left) value
        → Space h l (h.g + length left)
    unfolding stopped_at missing added
    path_space zero z a = absurd (z refl)
    path_space (suc v) z a =
        let p = passed h (suc v) (length l) (suc (length xs)) (rw e at a) in
        rw e (space (p.addresses (omega arith))
        (rw (used_more h (suc (length xs))) (p.room (omega arith))))

    pub path_built : (value : ℕ) → value ≢ 0 → {total : ℕ} {l' : List ℕ} → total ≡ h.g
        + length left
        → Builds h l q left total value l'
        → l' ≡ carried_out l (store_writes h (stopped_at q left) value)
    unfolding stopped_at store_writes
    path_built zero z all w = absurd (z refl)
    path_built (suc v) z all w = w x xs e ∙ rw (all, e) refl
