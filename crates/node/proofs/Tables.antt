-- An image as a table. For the nodes 0 to G and the letters below N an entry is the number in
-- its field; every other entry is 0. So tables are equal if these fields are.
use mathlib.Core.Path.{◌≡◌, refl}
use mathlib.Core.Bool.{Bool, true, false, ◌&&◌, cond, and-false}
use Prim.Native.Nat.{ℕ, ◌+◌, ◌≤◌, ◌<◌}
use native.Mathlib.Omega.{arith}
use borrow.Author.Tests.{le-leb, lt-leb, lt-ltb, le-ltb, leb-true, ltb-true}
use mathlib.Core.List.{List}
use lib.Dec.{leb, ltb}
use lib.ListN.{get_or}
use Rattle.field.specs.Field.{field_at}
use Rattle.field.proofs.Field.{field_same}
use Rattle.field.proofs.Range.{both}
use Rattle.trie.specs.Table.{Table}
use Rattle.trie.specs.Rules.{Framed}
use Rattle.head.specs.declared.Head.{Head}
use Rattle.head.specs.Fields.{fields_len, used_len}
use Rattle.node.specs.Image.{link_place, data_place, table_of}
use Rattle.node.proofs.FieldPlaces.{Inside, link_inside, data_inside, inside_least}
use Rattle.node.proofs.FieldPlaces.{inside_used}

-- tables with equal entries are equal
pub table_eq : (s t : Table) → ((q i : ℕ) → s.child q i ≡ t.child q i)
    → ((q : ℕ) → s.value q ≡ t.value q) → s ≡ t
table_eq s t c v j = record { child = λ q i. c q i j; value = λ q. v q j }

where_true : (b : Bool) {x y : ℕ} → (b ≡ true → x ≡ y) → cond b x 0 ≡ cond b y 0
where_true true e = e refl
where_true false e = refl

module _ (h : Head) (l : List ℕ) where
  -- ---- inside

  pub child_in : (q i : ℕ) → q ≤ h.g → i < h.n → (table_of h l).child q i
      ≡ field_at l (link_place h q i) h.a
  unfolding table_of
  child_in q i b c = rw (le-leb q h.g b, lt-ltb i h.n c)

  pub value_in : (q : ℕ) → q ≤ h.g → (table_of h l).value q ≡ field_at l (data_place h q) h.d
  unfolding table_of
  value_in q b = rw (le-leb q h.g b)

  -- ---- outside

  pub framed : Framed (table_of h l) h.g h.n
  unfolding table_of
  framed =
      record {
        no_node = λ q i b. rw (lt-leb q h.g b);
        no_letter = λ q i b. rw (le-ltb i h.n b, and-false (leb q h.g));
        no_data = λ q b. rw (lt-leb q h.g b);
      }

  -- ---- in either case

  pub child_same : (m : List ℕ) (q i : ℕ)
      → (q ≤ h.g → i < h.n → field_at l (link_place h q i) h.a ≡ field_at m (link_place h q i)
      h.a)
      → (table_of h l).child q i ≡ (table_of h m).child q i
  unfolding table_of
  child_same m q i e =
      where_true (leb q h.g && ltb i h.n)
      (λ t. let s = both (leb q h.g) (ltb i h.n) t in
      e (leb-true q h.g s.0) (ltb-true i h.n s.1))

  pub value_same : (m : List ℕ) (q : ℕ)
      → (q ≤ h.g → field_at l (data_place h q) h.d ≡ field_at m (data_place h q) h.d)
      → (table_of h l).value q ≡ (table_of h m).value q
  unfolding table_of
  value_same m q e = where_true (leb q h.g) (λ t. e (leb-true q h.g t))

  -- images with the same fields in every node up to G give the same table
  pub table_same : (m : List ℕ)
      → ((q at w : ℕ) → q ≤ h.g → Inside h q at w → field_at l at w ≡ field_at m at w)
      → table_of h l
      ≡ table_of h m
  table_same m e =
      table_eq (table_of h l) (table_of h m)
      (λ q i. child_same m q i (λ b c. e q (link_place h q i) h.a b (link_inside h q c)))
      (λ q. value_same m q (λ b. e q (data_place h q) h.d b (data_inside h q)))

  -- and so do images with the same bytes from the first node up to the used length
  pub table_bytes : (m : List ℕ)
      → ((p : ℕ) → fields_len + h.f ≤ p → p < used_len h → get_or l p 0 ≡ get_or m p 0)
      → table_of h l
      ≡ table_of h m
  table_bytes m e =
      table_same m
      (λ q at w b s. field_same l m at at w
      (λ k c. e (at + k) (omega (arith, inside_least s)) (omega (arith, inside_used s b))))
