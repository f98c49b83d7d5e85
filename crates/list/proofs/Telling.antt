-- What the listing's loop keeps: after what was handed over come the lines in the buffer, then
-- the line of each stored key after the path's key. The first of these keys is the one that the
-- search finds, and the keys after that one are the others.
use Prim.Native.Nat.{ℕ, zero, suc, ◌+◌, ◌≤◌, ◌<◌}
use native.Mathlib.Omega.{arith}
use native.Mathlib.Nat.{sub-zero}
use native.Mathlib.Decide.{ℕ_discrete}
use mathlib.Core.Bool.{true}
use mathlib.Core.List.{List, [], ◌++◌}
use mathlib.Core.Logic.{◌≢◌}
use mathlib.Core.Path.{◌≡◌, refl, sym, ◌∙◌, ap}
use lib.ListN.{length, take}
use Rattle.std.specs.Prelude.{Option as Maybe, Some, None}
use Rattle.trie.specs.Table.{answer}
use Rattle.trie.specs.Keys.{own_key}
use Rattle.head.specs.declared.Head.{Head}
use Rattle.head.specs.Fields.{head_of}
use Rattle.node.specs.Image.{table_of}
use Rattle.paper.specs.Calls.{table_in, stored_keys}
use Rattle.depths.specs.Depths.{own_value}
use Rattle.depths.proofs.Links.{own_empty, own_full, own_long, own_data}
use Rattle.depths.specs.declared.Spot.{Spot}
use Rattle.traversal.specs.Search.{next_stored, SearchTells}
use Rattle.traversal.proofs.Walking.{met, Met, all_keys, keys_after, from_root, none_after}
use Rattle.traversal.proofs.Walking.{next_after, next_value}
use Rattle.lines.specs.Lines.{TextAt, entries_line, entry_line}
use Rattle.lines.proofs.TextsAt.{laid_long, laid_as}
use Rattle.list.specs.Output.{lines_of, listing_text, output_of, root_line}
use Rattle.list.proofs.Pieces.{Waiting, waiting_none, waiting_more, waiting_all}

-- ---- the root's own key

pub root_none : {v : ℕ} → v ≡ 0 → root_line v ≡ []
unfolding root_line
root_none e = ap root_line e

pub root_stored : (v : ℕ) → v ≢ 0 → root_line v ≡ entry_line [] v
unfolding root_line
root_stored zero full = absurd (full refl)
root_stored (suc v) full = refl

-- the lines of keys, by the values in an image
abbrev pub lined : Head → List ℕ → List (List ℕ) → List ℕ
lined h l keys = lines_of (answer (table_of h l)) keys

module _ (h : Head) (l : List ℕ) where
  -- the line of the root's own key comes before those of the keys after it
  root_lines : {root : ℕ} → root ≡ own_value h (table_of h l) 0 0
      → lined h l (all_keys h l) ≡ root_line root ++ lined h l (keys_after h l [])
  unfolding lines_of answer
  root_lines {root} e = ap (lined h l) (from_root h l) ∙ go (ℕ_discrete root 0)
    where
      go : Dec (root ≡ 0)
          → lined h l (own_key (table_of h l) h.min 0 ++ keys_after h l [])
          ≡ root_line root ++ lined h l (keys_after h l [])
      go (yes z) =
          let own = rw (sub-zero h.min) at (own_empty h (table_of h l) 0 0 (sym e ∙ z)) in
          ap (λ (ks : List (List ℕ)). lined h l (ks ++ keys_after h l [])) own
          ∙ ap (◌++ lined h l (keys_after h l [])) (sym (root_none z))
      go (no full) =
          let some_value : own_value h (table_of h l) 0 0 ≢ 0 = λ z. full (e ∙ z) in
          let own = rw (sub-zero h.min) at (own_full h (table_of h l) 0 0 some_value) in
          let long = own_long h (table_of h l) 0 0 some_value in
          let value : (table_of h l).value 0
          ≡ root = sym (e ∙ own_data h (table_of h l) 0 0 long) in
          ap (λ (ks : List (List ℕ)). lined h l (ks ++ keys_after h l [])) own
          ∙ ap (λ (v : ℕ). entry_line [] v ++ lined h l (keys_after h l [])) value
          ∙ ap (◌++ lined h l (keys_after h l [])) (sym (root_stored root full))

  listing_lines : {count : ℕ} → h ≡ head_of l → count ≡ length (all_keys h l)
      → listing_text l ≡ entries_line count ++ lined h l (all_keys h l)
  unfolding listing_text stored_keys table_in
  listing_lines {count} same counted =
      ap (λ (k : Head). entries_line (length (all_keys k l)) ++ lined k l (all_keys k l))
      (sym same)
      ∙ ap (λ (n : ℕ). entries_line n ++ lined h l (all_keys h l)) (sym counted)

-- ---- from key to key

-- the bytes that the buffer takes
abbrev pub buffer_len : ℕ
buffer_len = 65536

-- the path's first n letters are the last key whose line is in the buffer or was handed over
pub record Telling (h : Head) (l out path nodes : List ℕ) (done end n : ℕ) : Type 0 where
  pub met : Met h l path nodes n
  pub long : length out ≡ buffer_len
  pub waiting : Waiting (output_of l) done out end (lined h l (keys_after h l (take n path)))

pub telling_start : {h : Head} {l out₀ out₁ out path nodes : List ℕ} {count root head end done : ℕ}
    → h ≡ head_of l
    → output_of l ≡ listing_text l
    → count ≡ length (all_keys h l)
    → root ≡ own_value h (table_of h l) 0 0
    → length out₀ ≡ buffer_len
    → TextAt out₀ 0 (entries_line count) head out₁
    → TextAt out₁ head (root_line root) end out
    → head ≤ buffer_len
    → end ≤ buffer_len
    → Met h l path nodes 0
    → done ≡ 0
    → Telling h l out path nodes done end 0
telling_start {h} {l} {out₀} same listed counted value long first second fits fits₁ m none =
    let titled =
    waiting_more (waiting_none (output_of l) out₀ none) (listed ∙ listing_lines h l same counted)
    first (omega arith) in
    record {
      met = m;
      long = laid_long second ∙ laid_long first ∙ long;
      waiting =
          waiting_more titled (root_lines h l value) second (omega (arith, laid_long first));
    }

-- the search for the key after m
module _ {h : Head} {l out : List ℕ} {done end : ℕ} (m : List ℕ)
    (w : Waiting (output_of l) done out end (lined h l (keys_after h l m))) {r : Maybe Spot}
    {path nodes : List ℕ}
    (told : SearchTells h l (next_stored h l true m) r path nodes) where
  -- it finds none: the buffer's front ends the output
  pub telling_end : r ≡ None → done + length (take end out) ≡ length (output_of l)
  unfolding lines_of
  telling_end e = waiting_all w (ap (lined h l) (none_after h l m told e))

  -- it finds a key, whose line is put into the buffer
  module _ {p : Spot} (e : r ≡ Some p) where
    pub telling_less : length (keys_after h l (take p.length path)) < length (keys_after h l m)
    telling_less = omega (arith, ap length (next_after h l m told e))

    pub telling_on : {out' : List ℕ} {end' : ℕ} → length out ≡ buffer_len
        → TextAt out end (entry_line (take p.length path) p.value) end' out'
        → end' ≤ buffer_len
        → Telling h l out' path nodes done end' p.length
    unfolding lines_of
    telling_on long laid fits =
        let line = laid_as (ap (entry_line (take p.length path)) (next_value h l m told e)) laid in
        record {
          met = met told e;
          long = laid_long laid ∙ long;
          waiting =
              waiting_more w (ap (lined h l) (next_after h l m told e)) line (omega arith);
        }
