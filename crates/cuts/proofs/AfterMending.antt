-- Mending, for every image: what it leaves, and that it changes no lookup's answer. Where G is
-- lowered, the image with the lower G is accepted, so a walk in it stays among the nodes that
-- are left. These are as they were, so the walk is the same before and after.
use Prim.Native.Nat.{ℕ, ◌+◌, ◌-◌, ◌^◌, ◌≤◌, ◌<◌}
use mathlib.Core.Path.{◌≡◌, refl, sym, ap, ap₂, subst, ◌∙◌}
use mathlib.Core.Bool.{Bool, true, false, cond, true≢false}
use mathlib.Core.List.{List, [], ◌∷◌}
use native.Mathlib.Omega.{arith}
use lib.Dec.{eqb}
use lib.ListN.{length, get_or}
use borrow.Author.Tests.{eqb-true}
use Rattle.field.proofs.Range.{both, between_true}
use Rattle.trie.specs.Table.{Table, answer}
use Rattle.trie.specs.Rules.{Within}
use Rattle.trie.proofs.Lowered.{Agree, answer_alike, fault_alike}
use Rattle.head.specs.declared.Head.{Head}
use Rattle.head.specs.Fields.{shortest_image, longest_image, head_of, put_total, total_at}
use Rattle.head.specs.Fields.{total_len}
use Rattle.head.proofs.Fields.{length_total, total_outside, head_total}
use Rattle.alphabet.specs.Letters.{among}
use Rattle.node.specs.Image.{table_of}
use Rattle.node.proofs.Heads.{with_total, child_kept, value_kept}
use Rattle.node.proofs.Writes.{table_total}
use Rattle.paper.specs.Hearing.{Row, Numbers, Outcome, first, heard}
use Rattle.paper.specs.Given.{Given, alphabet_in, key_in}
use Rattle.paper.specs.Rows.{bad_link}
use Rattle.paper.specs.Orders.{opening_rows_of, key_rows}
use Rattle.paper.specs.Calls.{table_in, work_after, check_of, telling, look_up_of, is_accepted}
use Rattle.paper.specs.Calls.{can_mend}
use Rattle.paper.specs.Calls.{mend_of}
use Rattle.paper.specs.Accepted.{Accepted}
use Rattle.paper.proofs.Numbers.{first_says, none_heard}
use Rattle.paper.proofs.Opening.{Passed, passed}
use Rattle.paper.proofs.Linking.{milder}
use Rattle.paper.proofs.CheckCall.{check_accepts, checking_says}
use Rattle.paper.proofs.StoreCall.{unfaulted, looks_up_open, looks_up_accepted, same_keying}
use Rattle.paper.proofs.StoreCall.{same_key_lem}
use Rattle.paper.proofs.MendCall.{accepted_exactly, mend_kept, mend_lowered, Eight, eight}
use Rattle.paper.proofs.MendCall.{not_mended}
use Rattle.seen.proofs.Seen.{same_alphabet}
use Rattle.seen.proofs.SameCalls.{eight_fits}
use Rattle.cuts.specs.Mended.{mended_image}

-- ---- G is lowered or the image is kept

-- "if the check answers 8 at p, and the image with G set to p-1 is accepted": both hold where G
-- is lowered
lowers_tell : (l : List ℕ) (m : Numbers) → can_mend l m ≡ true → (m.number ≡ 8)
    × (is_accepted (put_total l (m.place - 1)) ≡ true)
unfolding can_mend
lowers_tell l m e = let b = both (eqb m.number 8) (is_accepted (put_total l (m.place - 1))) e in
    (eqb-true m.number 8 b.0, b.1)

module _ (l work : List ℕ) where
  abbrev numbers : Numbers
  numbers = (check_of l work).numbers

  mended_kept : can_mend l numbers ≡ false → mended_image l work ≡ l
  unfolding mended_image
  mended_kept e = ap (λ (b : Bool). cond b (put_total l (numbers.place - 1)) l) e

  mended_lowered : can_mend l numbers ≡ true → mended_image l work
      ≡ put_total l (numbers.place - 1)
  unfolding mended_image
  mended_lowered e = ap (λ (b : Bool). cond b (put_total l (numbers.place - 1)) l) e

  either : (P : List ℕ → Type 0) → P l
      → (can_mend l numbers ≡ true → P (put_total l (numbers.place - 1))) → P (mended_image l work)
  either P kept lowered = go (can_mend l numbers) refl
    where
      go : (b : Bool) → can_mend l (check_of l work).numbers ≡ b → P (mended_image l work)
      go false e = subst P (sym (mended_kept e)) kept
      go true e = subst P (sym (mended_lowered e)) (lowered e)

  -- the image and the working numbers after mending
  pub mend_leaves : (mend_of l work).lent ≡ mended_image l work ∷ work_after l work ∷ []
  mend_leaves = go (can_mend l numbers) refl
    where
      go : (b : Bool) → can_mend l (check_of l work).numbers ≡ b → (mend_of l work).lent
          ≡ mended_image l work ∷ work_after l work ∷ []
      go false e =
          ap (λ (o : Outcome). o.lent) (mend_kept l work e)
          ∙ ap (λ (r : List ℕ). r ∷ work_after l work ∷ []) (sym (mended_kept e))
      go true e =
          ap (λ (o : Outcome). o.lent) (mend_lowered l work e)
          ∙ ap (λ (r : List ℕ). r ∷ work_after l work ∷ []) (sym (mended_lowered e))

  -- the image keeps its length, and only the four bytes of G change
  pub mend_length : length (mended_image l work) ≡ length l
  mend_length =
      either (λ (r : List ℕ). length r ≡ length l) refl (λ _. length_total l (numbers.place - 1))

  pub mend_four : (p : ℕ) → total_at + total_len ≤ p → get_or (mended_image l work) p 0
      ≡ get_or l p 0
  mend_four p b = either (λ (r : List ℕ). get_or r p 0 ≡ get_or l p 0) refl
      (λ _. total_outside l (numbers.place - 1) p b)

  -- an accepted image is left as it is, however many working numbers are lent
  pub mend_accepted : Accepted l → mended_image l work ≡ l
  mend_accepted a =
      either (λ (r : List ℕ). r ≡ l) refl
      (λ e. absurd (true≢false (sym e ∙ not_mended a work)))

-- ---- where G is lowered

module _ (l work : List ℕ) (e : can_mend l (check_of l work).numbers ≡ true) where
  abbrev h : Head
  h = head_of l

  abbrev low : ℕ
  low = (check_of l work).numbers.place - 1

  abbrev m : List ℕ
  m = put_total l low

  told : Eight l work
  told = eight l work (lowers_tell l (check_of l work).numbers e).0

  again : Accepted m
  again = (accepted_exactly m).0 (lowers_tell l (check_of l work).numbers e).1

  opened : Passed h (alphabet_in h l) (length l)
  unfolding opening_rows_of
  opened = passed h (alphabet_in h l) (length l) told.opened

  -- the lower G is at most the old one
  below : low < h.g + 1
  below = omega (arith, told.least, told.most)

  fits : low < 2 ^ 32
  fits = omega (arith, below, eight_fits l work (lowers_tell l (check_of l work).numbers e).0)

  heads : head_of m ≡ with_total h low
  heads = let long = between_true (length l) shortest_image longest_image opened.allowed in
      head_total l low (omega arith) fits

  tables : table_in m ≡ table_of (with_total h low) l
  unfolding table_in
  tables =
      ap (λ (k : Head). table_of k m) heads
      ∙ table_total (with_total h low) l low

  agree : Agree (table_in m) (table_in l) low
  unfolding table_in
  agree =
      record {
        links = λ q i b. ap (λ (t : Table). t.child q i) tables ∙ child_kept h l low q
            (omega (arith, below)) b i;
        values = λ q b. ap (λ (t : Table). t.value q) tables ∙ value_kept h l low q
            (omega (arith, below)) b;
      }

  within : Within (table_in m) low
  within = subst (λ (k : Head). Within (table_in m) k.g) heads again.links.within

  -- a link that is not bad with the lower G is not bad with the old one
  milder_here : (c : ℕ) → bad_link (head_of m).g c ≡ false → bad_link h.g c ≡ false
  milder_here c f = let g : (head_of m).g ≡ low = ap (λ (k : Head). k.g) heads in
      milder (head_of m).g h.g c (omega (arith, below)) f

  same_letters : alphabet_in (head_of m) m ≡ alphabet_in h l
  unfolding alphabet_in
  same_letters =
      ap (λ (k : Head). alphabet_in k m) heads
      ∙ same_alphabet h m l (length_total l low) (λ p b _. total_outside l low p b)

  looks_alike : (given : Given) → look_up_of m given ≡ look_up_of l given
  looks_alike given =
      let key : List ℕ = key_in l given in
      looks_up_accepted again given
      ∙ ap₂ (λ (rows : List Row) (k : List ℕ). heard (first rows) []
      (telling (answer (table_in m) k)))
      (same_keying m l heads same_letters given) (same_key_lem m l heads same_letters given)
      ∙ ap (λ (v : ℕ). heard (first (key_rows l given)) [] (telling v))
      (answer_alike agree within key)
      ∙ sym
      (looks_up_open l given told.opened
      (fault_alike agree within (bad_link (head_of m).g) (bad_link h.g) milder_here 0 key
      (omega arith) (unfaulted again 0 key)))

-- ---- no lookup's answer changes

pub mend_looks : (l work : List ℕ) (given : Given) → look_up_of (mended_image l work) given
    ≡ look_up_of l given
mend_looks l work given = either l work (λ (r : List ℕ). look_up_of r given ≡ look_up_of l given)
    refl
    (λ e. looks_alike l work e given)

-- ---- a mending that answers 0 leaves an accepted image

check_zero : (l work : List ℕ) → (check_of l work).numbers.number ≡ 0 → Accepted l
unfolding check_of among
check_zero l work z =
    check_accepts l work (none_heard _ _ (first_says (checking_says l work)) refl z)

pub mend_zero : (l work : List ℕ) → (mend_of l work).numbers.number ≡ 0
    → Accepted (mended_image l work)
mend_zero l work z = go (can_mend l (check_of l work).numbers) refl
  where
    go : (b : Bool) → can_mend l (check_of l work).numbers ≡ b → Accepted (mended_image l work)
    go false e =
        let n : (check_of l work).numbers.number ≡ 0 =
        sym (ap (λ (o : Outcome). o.numbers.number) (mend_kept l work e)) ∙ z in
        subst Accepted (sym (mended_kept l work e)) (check_zero l work n)
    go true e = subst Accepted (sym (mended_lowered l work e)) (again l work e)
