-- 02, Ask 8: in an accepted image each record, which is a node whose data is not 0, can be looked
-- up, is listed once and is counted: "The check now refuses data at any depth outside min..max".
-- All of it is stated of the calls' own outcomes and of the stored keys that they speak of.
use Prim.Native.Nat.{ℕ, ◌+◌, ◌≤◌}
use mathlib.Core.Path.{◌≡◌, ap, ◌∙◌}
use mathlib.Core.Logic.{◌≢◌}
use mathlib.Core.List.{List, [], ◌∷◌, Memᴰ}
use lib.ListN.{length}
use lib.IntN.{pos}
use Rattle.field.proofs.Range.{true_between}
use Rattle.trie.specs.Table.{complete, descend}
use Rattle.trie.specs.Keys.{holding}
use Rattle.trie.proofs.Holding.{named_once, keys_hold}
use Rattle.trie.proofs.Listing.{under_listed}
use Rattle.trie.proofs.Walk.{answer_complete}
use Rattle.head.specs.Fields.{head_of}
use Rattle.node.proofs.Tables.{framed}
use Rattle.paper.specs.Hearing.{outcome, done_numbers}
use Rattle.paper.specs.Given.{as_letters, meant_in, meant_by, key_in}
use Rattle.paper.specs.Orders.{key_rows, key_rows_by}
use Rattle.paper.specs.Calls.{table_in, work_after, stored_keys, count_of, telling, look_up_of}
use Rattle.paper.specs.Accepted.{Accepted}
use Rattle.paper.specs.Granted.{Fit}
use Rattle.paper.proofs.Hearing.{heard_done}
use Rattle.paper.proofs.Keying.{fit_letters}
use Rattle.paper.proofs.CheckCall.{accepted_checks}
use Rattle.paper.proofs.StoreCall.{looks_up_accepted}

-- one stored key, and no other, names node x, and a lookup of this key answers the node's data
pub record RecordAt (l : List ℕ) (x : ℕ) : Type 0 where
  pub key : List ℕ
  pub listed : Memᴰ key (stored_keys l)
  pub leads : descend (table_in l) 0 key ≡ complete x
  pub alone : (m : List ℕ) → descend (table_in l) 0 m ≡ complete x → m ≡ key
  pub found : look_up_of l (as_letters key) ≡ telling ((table_in l).value x)

module _ {l : List ℕ} (a : Accepted l) where
  -- every record in an accepted image can be found
  pub record_named : (x : ℕ) → x ≤ (head_of l).g → (table_in l).value x ≢ 0 → RecordAt l x
  unfolding stored_keys table_in key_rows key_rows_by key_in meant_in meant_by
  record_named x low full =
      let h = head_of l in
      let (key, listed, leads, alone) =
      named_once (framed h l) a.links h.min h.max a.visible x low full in
      let f = under_listed (table_in l) h.n h.min h.max 0 key listed in
      let fit : Fit h key =
      record {
        allowed = true_between (length key) h.min h.max f.long f.deep;
        below = f.letters;
      } in
      record {
        key = key;
        listed = listed;
        leads = leads;
        alone = alone;
        found =
            looks_up_accepted a (as_letters key)
            ∙ heard_done _ _ _ (fit_letters fit)
            ∙ ap telling (answer_complete (table_in l) key leads);
      }

  -- and the number of keys is the number of records
  pub records_counted : (work : List ℕ) → (head_of l).g + 1 ≤ length work
      → count_of l work
      ≡ outcome (done_numbers 0 (pos 0) (holding (table_in l) ((head_of l).g + 1)))
      (work_after l work ∷ [])
  unfolding count_of stored_keys table_in
  records_counted work enough =
      let h = head_of l in
      heard_done _ _ _ (accepted_checks l work a enough)
      ∙ ap (λ (n : ℕ). outcome (done_numbers 0 (pos 0) n) (work_after l work ∷ []))
      (keys_hold (framed h l) a.links h.min h.max a.visible)
