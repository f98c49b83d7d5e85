-- The outcome of a store with counts after 10, at each return of the code: 11, 12 or 13, 5
-- again, or done. The head in hand is the image's own, and the walk ends as the key's descent
-- does. So the image left is the image after a store, and the list left has its counts.
use Prim.Native.Nat.{ℕ, ◌+◌, ◌^◌, ◌≤◌, ◌<◌}
use mathlib.Core.Path.{◌≡◌, sym, ◌∙◌, ap, ap₂, subst}
use mathlib.Core.Logic.{◌≢◌}
use mathlib.Core.Bool.{true}
use mathlib.Core.Option.{none, some}
use mathlib.Core.List.{List, [], ◌∷◌}
use native.Mathlib.Nat.{mul-le-mul_right}
use native.Mathlib.Omega.{arith}
use borrow.Author.Tests.{lt-ltb, le-ltb}
use lib.IntN.{ℤ, pos}
use lib.ListN.{length}
use Rattle.std.specs.Prelude.{Ok, Err}
use Rattle.field.specs.Range.{between}
use Rattle.trie.specs.Table.{Descent, missing, value_at, answer}
use Rattle.trie.specs.Rules.{LinkRules}
use Rattle.trie.specs.Storing.{added, change_of}
use Rattle.head.specs.declared.Head.{Head}
use Rattle.head.specs.Fields.{head_of}
use Rattle.head.proofs.Permitted.{bounds}
use Rattle.head.proofs.Places.{used, width_least}
use Rattle.node.specs.Image.{Open, table_of}
use Rattle.node.specs.Writes.{carried_out, store_writes}
use Rattle.node.proofs.Heads.{with_total}
use Rattle.paper.specs.declared.Refusal.{Refusal}
use Rattle.paper.specs.Hearing.{Row, Outcome, outcome, done_numbers, first}
use Rattle.paper.specs.Answers.{said_of, refusal_numbers, stored_of}
use Rattle.paper.specs.Orders.{adding_rows, new_of}
use Rattle.paper.specs.Calls.{table_in, stored_image}
use Rattle.paper.specs.Accepted.{Accepted}
use Rattle.paper.specs.Granted.{Granted}
use Rattle.paper.proofs.Hearing.{yes_row, no_row, first_nil, first_part, second_part}
use Rattle.paper.proofs.Hearing.{heard_refused, heard_done}
use Rattle.paper.proofs.CheckCall.{head_open}
use Rattle.paper.proofs.StoreCall.{stored_head, accepted_again}
use Rattle.position.specs.Counts.{row5again, RightCounts}
use Rattle.position.specs.Calls.{worked}
use Rattle.key.specs.declared.Key.{Key}
use Rattle.key.specs.Hand.{Ready, letters_of}
use Rattle.walk.specs.declared.Walked.{Walked}
use Rattle.walk.specs.Descent.{at_root, walked_from}
use Rattle.storing.specs.StoreStage.{end_of}
use Rattle.storing.proofs.Adding.{passed}
use Rattle.storing.proofs.StoreStage.{in_hand_lem}
use Rattle.tracking.specs.Tracking.{adding_counts_rows, store_counted, StoresCounted, Whole}
use Rattle.tracking.specs.Tracking.{gain_of, loss_of, CountsFit, Shifted, RangeCleared}
use Rattle.tracking.proofs.PathCounts.{whole, room, kept}

-- what is known after the walk along the key: the image's head, the key, and the number of new
-- nodes
pub record Hand (l : List ℕ) (h : Head) (key : Key) (o : Walked) (value new : ℕ) : Type 0 where
  pub accepted : Accepted l
  pub same : h ≡ head_of l
  pub ready : Ready h key
  pub allowed : between (length (letters_of key)) h.min h.max ≡ true
  pub walked : Ok o ≡ walked_from h.g (table_of h l) at_root (letters_of key)
  pub count : new ≡ added (missing (end_of (letters_of key) o)) value

module _ {l : List ℕ} {h : Head} {key : Key} {o : Walked} {value new : ℕ}
    (x : Hand l h key o value new) where
  abbrev k : List ℕ
  k = letters_of key

  new_same : new ≡ new_of (head_of l) l k value
  unfolding new_of table_in
  new_same = x.count ∙ ap (λ (d : Descent). added (missing d) value)
      (in_hand_lem x.accepted x.same k x.walked)

  rows_same : first (adding_rows h value new (length l))
      ≡ first (adding_rows (head_of l) value (new_of (head_of l) l k value) (length l))
  rows_same =
      ap₂ (λ (h : Head) (n : ℕ). first (adding_rows h value n (length l))) x.same new_same

  last_same : h.g + new ≡ (head_of l).g + new_of (head_of l) l k value
  last_same = ap₂ (λ (h : Head) (n : ℕ). h.g + n) x.same new_same

  -- the outcome if it is done
  abbrev leaves : List ℕ → Outcome
  leaves counts =
      outcome (done_numbers 0 (change_of (answer (table_in l) k) value) 0)
      (stored_image l k value ∷ worked (stored_image l k value) counts ∷ [])

  -- 5 again
  abbrev again : List ℕ → Row
  again counts = row5again (head_of l) (new_of (head_of l) l k value) (length counts)

  refuses : (counts : List ℕ) (why : Refusal) → first (adding_counts_rows l k value counts)
      ≡ some (said_of why)
      → StoresCounted l k value counts (Err why) l counts
  unfolding store_counted stored_of refusal_numbers
  refuses counts why e =
      sym (heard_refused (first (adding_counts_rows l k value counts)) (l ∷ counts ∷ [])
      (leaves counts) e)

  -- 11, 12 and 13
  pub refused : (counts : List ℕ) (why : Refusal) → first (adding_rows h value new (length l))
      ≡ some (said_of why)
      → StoresCounted l k value counts (Err why) l counts
  refused counts why e = refuses counts why (first_part _ (again counts ∷ []) (sym rows_same ∙ e))

  module _ (passes : first (adding_rows h value new (length l)) ≡ none) where
    pub granted : Granted l k value
    granted =
        let p = passed (head_of l) value (length l) (new_of (head_of l) l k value)
        (sym rows_same ∙ passes) in
        record {
          accepted = x.accepted;
          fit = record {
            allowed = rw x.same at x.allowed;
            below = rw x.same at x.ready.letters;
          };
          value_fits = p.fits;
          addresses = p.addresses;
          room = p.room;
        }

    -- what the writes require
    pub allows : first (adding_rows h value (added (missing (end_of k o)) value) (length l)) ≡ none
    allows = ap (λ (n : ℕ). first (adding_rows h value n (length l))) (sym x.count) ∙ passes

    left_5 : (counts : List ℕ) → first (adding_counts_rows l k value counts)
        ≡ first (again counts ∷ [])
    left_5 counts = second_part _ (again counts ∷ []) (sym rows_same ∙ passes)

    five : (counts : List ℕ) → length counts ≤ h.g + new → first (again counts ∷ [])
        ≡ some (said_of Refusal.TooFewNumbers)
    unfolding row5again
    five counts b =
        yes_row 5 0 [] (lt-ltb (length counts) ((head_of l).g + new_of (head_of l) l k value + 1)
        (omega (arith, last_same)))

    pub too_few : (counts : List ℕ) → length counts ≤ h.g + new
        → StoresCounted l k value counts (Err Refusal.TooFewNumbers) l counts
    too_few counts b = refuses counts Refusal.TooFewNumbers (left_5 counts ∙ five counts b)

    no_five : (counts : List ℕ) → h.g + new < length counts → first (again counts ∷ []) ≡ none
    unfolding row5again
    no_five counts b =
        no_row 5 0 [] (le-ltb (length counts) ((head_of l).g + new_of (head_of l) l k value + 1)
        (omega (arith, last_same))) ∙ first_nil

    -- done
    abbrev after : List ℕ
    after = stored_image l k value

    head_same : with_total h (h.g + new) ≡ head_of after
    head_same =
        ap₂ (λ (h : Head) (g : ℕ). with_total h g) x.same last_same ∙ sym (stored_head granted)

    -- all nodes are inside the image, so their addresses fit 32 bits
    pub last_fits : h.g + new < 2 ^ 32
    last_fits =
        let b = accepted_again granted in
        let wide = width_least (bounds (head_of after) b.head_permitted) in
        omega (
          arith,
          ap (λ (h : Head). h.g) head_same,
          used (head_of after),
          b.room,
          b.short_enough,
          mul-le-mul_right ((head_of after).g + 1) wide,
        )

    module _ {image : List ℕ} (wrote : image ≡ carried_out l (store_writes h (end_of k o) value))
      where
        image_same : image ≡ after
        unfolding stored_image
        image_same =
            wrote
            ∙ ap₂ (λ (h : Head) (d : Descent). carried_out l (store_writes h d value)) x.same
            (in_hand_lem x.accepted x.same k x.walked)

        table_same : table_of (with_total h (h.g + new)) image ≡ table_in after
        unfolding table_in
        table_same = ap₂ table_of head_same image_same

        pub grown_open : Open (with_total h (h.g + new)) image
        grown_open =
            subst (λ (m : List ℕ). Open (with_total h (h.g + new)) m) (sym image_same)
            (head_open (accepted_again granted) head_same)

        module _ {change : ℤ}
            (told : change ≡ change_of (value_at (table_of h l) (end_of k o)) value)
            {counts start : List ℕ} (right : RightCounts l counts)
            (clear : RangeCleared (h.g + 1) (h.g + new + 1) counts start)
            (long : h.g + new < length counts) where
          change_same : change ≡ change_of (answer (table_in l) k) value
          unfolding answer table_in
          change_same =
              told
              ∙ ap₂ (λ (h : Head) (d : Descent). change_of (value_at (table_of h l) d) value)
              x.same
              (in_hand_lem x.accepted x.same k x.walked)

          cleared : RangeCleared ((head_of l).g + 1)
              ((head_of l).g + new_of (head_of l) l k value + 1)
              counts
              start
          cleared = rw (x.same, new_same) at clear

          -- the nodes after the writes, as `carry` is given them
          module _ {grown : Head} {bytes : List ℕ} (head : grown ≡ with_total h (h.g + new))
              (same : bytes ≡ image) where
            table_after : table_of grown bytes ≡ table_in after
            table_after = ap₂ table_of head same ∙ table_same

            pub carry_rules : LinkRules (table_of grown bytes) grown.g
            carry_rules =
                rw (table_after, ap (λ (h : Head). h.g) (head ∙ head_same))
                (accepted_again granted).links

            pub carry_whole : change ≢ pos 0 → Whole (table_of grown bytes) k
            carry_whole z = rw table_after (whole granted (λ e. z (change_same ∙ e)))

            pub carry_fit : CountsFit (table_of grown bytes) k (gain_of change) (loss_of change)
                start
            carry_fit = rw (table_after, change_same) (room granted right cleared)

            pub done : {list : List ℕ}
                → Shifted (table_of grown bytes) k (gain_of change) (loss_of change) start list
                → StoresCounted l k value counts (Ok change) image list
            unfolding store_counted stored_of
            done {list} w =
                let last : list ≡ worked after counts =
                kept granted right cleared (omega (arith, last_same))
                (rw (table_after, change_same) at w) in
                rw (change_same, image_same, last)
                (sym
                (heard_done (first (adding_counts_rows l k value counts)) (l ∷ counts ∷ [])
                (leaves counts) (left_5 counts ∙ no_five counts long)))
