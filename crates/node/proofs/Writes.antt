-- What a write does to the table. A write outside the nodes changes nothing. A write of a link
-- or of data changes its own entry only, since no other field has a byte in common with it.
use mathlib.Core.Path.{◌≡◌, sym, ap, ◌∙◌}
use mathlib.Core.Logic.Dec
use mathlib.Core.Logic.{◌⊎◌, inl, inr, ⊎_elim}
use Prim.Native.Nat.{ℕ, ◌+◌, ◌^◌, ◌≤◌, ◌<◌}
use native.Mathlib.Decide.{ℕ_discrete}
use native.Mathlib.Omega.{arith}
use mathlib.Core.List.{List, [], ◌∷◌}
use lib.ListN.{length}
use lib.Seq.{sets}
use Rattle.field.specs.Field.{Bytes, field_at, digits, put_field}
use Rattle.field.proofs.Field.{field_outside, length_digits, read_written_fits, write_back}
use Rattle.trie.specs.Table.{Table}
use Rattle.trie.specs.Storing.{put, grow}
use Rattle.trie.proofs.Grow.{grow_child, grow_child_other}
use Rattle.trie.proofs.Put.{put_value, put_value_other}
use Rattle.head.specs.declared.Head.{Head}
use Rattle.head.specs.Fields.{fields_len, total_at, total_len, put_total, used_len}
use Rattle.node.specs.Image.{Open, link_place, data_place, table_of}
use Rattle.node.specs.Writes.{carried_out, data_write}
use Rattle.node.proofs.FieldPlaces.{inside_least, inside_used, inside_room, link_inside}
use Rattle.node.proofs.FieldPlaces.{data_inside}
use Rattle.node.proofs.FieldPlaces.{Apart, links_apart, link_data_apart, data_apart}
use Rattle.node.proofs.Tables.{table_eq, child_in, value_in, child_same, value_same}
use Rattle.node.proofs.Tables.{table_same}

-- a write into the head or the alphabet, or after the used length
pub table_outside : (h : Head) (l vs : List ℕ) (at : ℕ) → (at + length vs ≤ fields_len + h.f)
    ⊎ (used_len h ≤ at) → table_of h (sets l at vs) ≡ table_of h l
table_outside h l vs at e =
    table_same h (sets l at vs) l
    (λ q bt u b s. field_outside l vs at bt u
    (⊎_elim (λ x. inr (omega (arith, inside_least s)))
    (λ x. inl (omega (arith, inside_used s b))) e))

-- the write of G too, since the table is that of a given head
pub table_total : (h : Head) (l : List ℕ) (g : ℕ) → table_of h (put_total l g) ≡ table_of h l
table_total h l g =
    table_outside h l (digits total_len g) total_at
    (inl (omega (arith, length_digits total_len g)))

-- writing a number leaves a field that is apart
kept : (l : List ℕ) (at w v bt u : ℕ) → Apart at w bt u → field_at (put_field l at w v) bt u
    ≡ field_at l bt u
kept l at w v bt u a = field_outside l (digits w v) at bt u (rw (length_digits w v) a)

module _ (h : Head) (l : List ℕ) (room : used_len h ≤ length l) where
  pub table_link : (q i c : ℕ) → q ≤ h.g → i < h.n → c < 256 ^ h.a
      → table_of h (put_field l (link_place h q i) h.a c) ≡ grow (table_of h l) q i c
  unfolding grow
  table_link q i c b e f =
      table_eq (table_of h m) (grow t q i c)
      (λ p j. child p j (Dec.and (ℕ_discrete p q) (ℕ_discrete j i)))
      (λ p. value_same h m l p (λ _. kept l (link_place h q i) h.a c (data_place h p) h.d
      (link_data_apart h q i p e)))
    where
      m : List ℕ
      m = put_field l (link_place h q i) h.a c

      t : Table
      t = table_of h l

      child : (p j : ℕ) → Dec ((p ≡ q) × (j ≡ i)) → (table_of h m).child p j
          ≡ (grow t q i c).child p j
      child p j (yes s) =
          rw (s.0, s.1, grow_child t q i c)
          (child_in h m q i b e ∙ read_written_fits l (link_place h q i) h.a c
          (omega (arith, inside_used (link_inside h q e) b)) f)
      child p j (no s) =
          child_same h m l p j (λ _ o. kept l (link_place h q i) h.a c (link_place h p j) h.a
          (links_apart h q i p j e o s))
          ∙ sym (grow_child_other t q i c p j s)

  pub table_data : (q v : ℕ) → q ≤ h.g → v < 256 ^ h.d
      → table_of h (put_field l (data_place h q) h.d v) ≡ put (table_of h l) q v
  unfolding put
  table_data q v b f =
      table_eq (table_of h m) (put t q v)
      (λ p j. child_same h m l p j (λ _ o. kept l (data_place h q) h.d v (link_place h p j) h.a
      (⊎_elim inr inl (link_data_apart h p j q o))))
      (λ p. value p (ℕ_discrete p q))
    where
      m : List ℕ
      m = put_field l (data_place h q) h.d v

      t : Table
      t = table_of h l

      value : (p : ℕ) → Dec (p ≡ q) → (table_of h m).value p ≡ (put t q v).value p
      value p (yes s) =
          rw (s, put_value t q v)
          (value_in h m q b ∙ read_written_fits l (data_place h q) h.d v
          (omega (arith, inside_used (data_inside h q) b)) f)
      value p (no s) =
          value_same h m l p (λ _. kept l (data_place h q) h.d v (data_place h p) h.d
          (data_apart h q p s))
          ∙ sym (put_value_other t q v p s)

-- the data that a node has, written once more, changes no byte
pub data_again : (h : Head) (l : List ℕ) (q : ℕ) → Bytes l → Open h l → q ≤ h.g
    → carried_out l (data_write h q ((table_of h l).value q) ∷ []) ≡ l
unfolding carried_out data_write
data_again h l q bytes o b =
    ap (λ (v : ℕ). put_field l (data_place h q) h.d v) (value_in h l q b)
    ∙ write_back l (data_place h q) h.d bytes (inside_room (data_inside h q) o b)
