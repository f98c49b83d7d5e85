-- 02, Ask 1: "After a cut anywhere, a mending call with enough working numbers must leave the
-- answers from before the store or after it." A cut among the new nodes has changed only spare
-- bytes. Once G has landed and the link has not, the first new node is the only one that stands in
-- no link: the check answers 8 there, and p-1 is the old G. After the last write all has landed.
use Prim.Native.Nat.{ℕ, zero, suc, ◌+◌, ◌-◌, ◌^◌, ◌≤◌, ◌<◌}
use mathlib.Core.Path.{◌≡◌, refl, sym, ap, ap₂, subst, ◌∙◌}
use mathlib.Core.Bool.{Bool, true, false, ◌&&◌}
use mathlib.Core.Logic.{inl}
use mathlib.Core.Option.{none}
use mathlib.Core.List.{List, [], ◌∷◌, ◌++◌}
use native.Mathlib.Numerals.{add-one}
use native.Mathlib.Decide.{dec_lt}
use native.Mathlib.Omega.{arith}
use lib.ListN.{length, get_or, length-append}
use lib.Seq.{length-sets}
use lib.IntN.{pos}
use borrow.Author.Tests.{eq-eqb}
use Rattle.field.specs.Field.{Bytes, digits, put_field}
use Rattle.field.proofs.Field.{length_digits}
use Rattle.field.proofs.Sets.{get_d_outside}
use Rattle.trie.specs.Table.{Table, Descent, complete, stopped, descend}
use Rattle.trie.specs.Storing.{grow}
use Rattle.trie.proofs.Walk.{complete_within, where_stopped}
use Rattle.head.specs.declared.Head.{Head}
use Rattle.head.specs.Fields.{fields_len, head_of, node_place, used_len, put_total, total_at}
use Rattle.head.specs.Fields.{total_len}
use Rattle.head.proofs.Fields.{head_outside, length_total, total_outside, head_total, total_back}
use Rattle.head.proofs.Permitted.{bounds, addresses_fit}
use Rattle.head.proofs.Places.{place_le, place_least}
use Rattle.node.specs.Image.{link_place, data_place, table_of}
use Rattle.node.specs.Writes.{Write, carried_out, new_nodes, total_write, link_write, data_write}
use Rattle.node.specs.Writes.{store_writes}
use Rattle.node.proofs.FieldPlaces.{link_from, link_inside, data_inside, inside_used}
use Rattle.node.proofs.Tables.{table_bytes}
use Rattle.node.proofs.Writes.{table_link}
use Rattle.node.proofs.Heads.{with_total, child_kept, used_total}
use Rattle.node.proofs.StoreOnTable.{Storable, length_carried, carried_append, new_head}
use Rattle.paper.specs.Hearing.{Numbers, Outcome, outcome, first, refused_numbers, done_numbers}
use Rattle.paper.specs.Answers.{number_at}
use Rattle.paper.specs.Orders.{opening_rows_of, check_order}
use Rattle.paper.specs.Given.{Given, key_in}
use Rattle.paper.specs.Calls.{table_in, work_after, check_of, writes_in, stored_image, store_of}
use Rattle.paper.specs.Calls.{is_accepted, can_mend}
use Rattle.paper.specs.Accepted.{Accepted}
use Rattle.paper.specs.Granted.{Granted}
use Rattle.paper.proofs.Hearing.{heard_done}
use Rattle.paper.proofs.Linking.{Unlinked}
use Rattle.paper.proofs.CheckCall.{accepted_opens, accepted_checks}
use Rattle.paper.proofs.StoreCall.{able, accepted_again, store_granted}
use Rattle.paper.proofs.MendCall.{accepted_exactly, mend_kept, mend_lowered}
use Rattle.cuts.specs.Cut.{hit, cut_after}
use Rattle.cuts.specs.Mended.{MendsTo}
use Rattle.cuts.proofs.WriteLists.{From, from_before, length_cut, carried_before}
use Rattle.cuts.proofs.WriteLists.{cut_before_all, cut_append, cut_whole, hit_none}
use Rattle.seen.specs.Seen.{SameUsed}
use Rattle.seen.proofs.Seen.{before_used, opens_same}
use Rattle.seen.proofs.SameWrites.{sets_cover}
use Rattle.seen.proofs.SameCalls.{alike_itself, alike_from, agree_alike, alike_accepted}
use Rattle.seen.proofs.SameCalls.{same_answers}
use Rattle.cuts.proofs.OneLinkShort.{check_unlinked}

-- ---- an image that looks as an accepted one does is kept

module _ (a work m : List ℕ) (same : SameUsed 0 a m) (accepted : Accepted m)
    (lent : (head_of a).g + 1 ≤ length work) where
  check_done : (check_of a work).numbers ≡ done_numbers 0 (pos 0) 0
  unfolding check_of
  check_done =
      ap (λ (o : Outcome). o.numbers)
      (heard_done (first (check_order a work)) _ _
      (accepted_checks a work (alike_accepted (omega arith) same accepted) lent))

  -- mending leaves it as it is
  pub mends_kept : MendsTo a work m
  unfolding can_mend done_numbers
  mends_kept =
      let still : can_mend a (check_of a work).numbers ≡ false = rw check_done in
      record {
        image = a;
        heard = mend_kept a work still
            ∙ ap (λ (n : Numbers). outcome n (a ∷ work_after a work ∷ [])) check_done;
        accepted = alike_accepted (omega arith) same accepted;
        answers = same_answers (omega arith) (alike_from (total_at + total_len) same);
        used_bytes = λ _. same;
      }

-- ---- where G is lowered

lowers : (l : List ℕ) (m : Numbers) {g : ℕ} → m.number ≡ 8 → m.place - 1 ≡ g
    → is_accepted (put_total l g) ≡ true → can_mend l m ≡ true
unfolding can_mend
lowers l m n p e =
    ap₂ ◌&&◌ (eq-eqb m.number 8 n) (ap (λ (g : ℕ). is_accepted (put_total l g)) p ∙ e)

-- ---- the cut hits a write that is not to spare bytes

-- mending what the cut left answers 0 and leaves the answers from before the store
abbrev pub Before : List ℕ → List ℕ → List ℕ → Type 0
Before l work r = (head_of r).g + 1 ≤ length work → MendsTo r work l

not_landed : {l : List ℕ} (lands : ℕ → Bool) (work r : List ℕ) (w : Write) → Accepted l
    → SameUsed 0 r l → w.place < used_len (head_of r)
    → Before l work (hit lands r w)
not_landed {l} lands work r w a same b lent =
    mends_kept (hit lands r w) work l
    (subst (λ (c : List ℕ). SameUsed 0 c l) (sym (hit_none lands r w b)) same) a lent

-- ---- new nodes to which no link leads yet

-- they are written at the place of the first one or after it
pub nodes_from : (h : Head) (q : ℕ) (ys : List ℕ) (v : ℕ)
    → From (node_place h q) (new_nodes h q ys v)
unfolding new_nodes
nodes_from h q [] v = (omega arith, tt)
nodes_from h q (y ∷ ys) v = (
  omega arith,
  from_before (node_place h q) (node_place h (suc q)) (new_nodes h (suc q) ys v)
      (place_le h q (suc q) (omega arith)) (nodes_from h (suc q) ys v),
)

module _ {l key : List ℕ} {v : ℕ} (s : Granted l key (suc v)) {q x : ℕ} {xs : List ℕ}
    (e : descend (table_in l) 0 key ≡ stopped q x xs) where
  abbrev h : Head
  h = head_of l

  abbrev g : ℕ
  g = h.g

  abbrev total : ℕ
  total = g + suc (length xs)

  abbrev nodes : List Write
  nodes = new_nodes h (suc g) xs (suc v)

  -- the image with the new nodes
  abbrev begun : List ℕ
  begun = carried_out l nodes

  -- the image with the new nodes and the new G
  abbrev counted : List ℕ
  counted = put_total begun total

  enough : Storable (head_of l) l q x xs (suc v)
  enough = able s e

  fits : total < 2 ^ 32
  fits = omega (arith, enough.addresses, addresses_fit (bounds h s.accepted.head_permitted))

  spare : (p : ℕ) → p < used_len (head_of l) → From (suc p) nodes
  unfolding used_len
  spare p b = from_before (suc p) (node_place h (suc g)) nodes
      (omega (arith, ap (node_place h) (add-one g))) (nodes_from h (suc g) xs (suc v))

  long : length counted ≡ length l
  long = length_total begun total ∙ length_carried l nodes

  heads : head_of counted ≡ with_total h total
  heads =
      head_total begun total (omega (arith, length_carried l nodes, s.accepted.long_enough)) fits
      ∙ ap (λ (k : Head). with_total k total) (new_head h l (suc g) xs (suc v))

  after_g : (p : ℕ) → total_at + total_len ≤ p → p < used_len h → get_or counted p 0 ≡ get_or l p 0
  after_g p a b = total_outside begun total p a ∙ carried_before p l nodes (spare p b)

  -- with G lowered again the image is as before the store
  lowered : SameUsed (total_at + total_len) (put_total counted g) l
  lowered =
      record {
        heads = head_total counted g (omega (arith, long, s.accepted.long_enough))
            (omega (arith, fits)) ∙ ap (λ (k : Head). with_total k g) heads;
        lengths = length_total counted g ∙ long;
        bytes = λ p a b. total_outside counted g p a ∙ after_g p a b;
      }

  -- and the bytes of G are those from before
  lowered_bytes : Bytes l → SameUsed 0 (put_total counted g) l
  lowered_bytes all =
      record {
        heads = lowered.heads;
        lengths = lowered.lengths;
        bytes = λ p _ b. go p b (dec_lt p (total_at + total_len));
      }
    where
      four : length (digits total_len g) ≡ total_len
      four = length_digits total_len g

      go : (p : ℕ) → p < used_len h → Dec (p < total_at + total_len)
          → get_or (put_total counted g) p 0 ≡ get_or l p 0
      go p b (no c) = lowered.bytes p (omega arith) b
      go p b (yes c) =
          sets_cover p counted (put_total l g) total_at (digits total_len g)
          (long ∙ sym (length_total l g)) (omega arith, omega (arith, four))
          (omega (arith, four, long, s.accepted.long_enough))
          ∙ ap (λ (r : List ℕ). get_or r p 0)
          (total_back l g all (omega (arith, s.accepted.long_enough)))

  -- ---- the last write: the link

  pub last : stored_image l key (suc v) ≡ put_field counted (link_place h q x) h.a (suc g)
  unfolding stored_image store_writes carried_out total_write link_write
  last =
      ap (λ (d : Descent). carried_out l (store_writes h d (suc v))) e
      ∙ carried_append l nodes (total_write total ∷ link_write h q x (suc g) ∷ [])

  far : fields_len + h.f ≤ link_place h q x
  far = omega (arith, place_least h q, link_from h q x)

  same_head : head_of (stored_image l key (suc v)) ≡ head_of counted
  same_head = ap head_of last ∙ head_outside counted (digits h.a (suc g)) (link_place h q x)
      (omega (arith, far))

  linked : table_in (stored_image l key (suc v)) ≡ grow (table_in counted) q x (suc g)
  unfolding table_in link_place
  linked =
      let k : Head = with_total h total in
      let r : used_len k ≤ length counted = omega (arith, long, enough.room) in
      ap (λ (m : Head). table_of m (stored_image l key (suc v))) (same_head ∙ heads)
      ∙ ap (table_of k) last
      ∙ table_link k counted r q x (suc g) (omega (arith, enough.node)) enough.letters.0
      (omega (arith, enough.addresses))
      ∙ ap (λ (m : Head). grow (table_of m counted) q x (suc g)) (sym heads)

  empty : (table_in counted).child q x ≡ 0
  unfolding table_in
  empty =
      ap (λ (k : Head). (table_of k counted).child q x) heads
      ∙ child_kept h counted total q enough.node (omega (arith, enough.node)) x
      ∙ ap (λ (t : Table). t.child q x)
      (table_bytes h counted l (λ p a b. after_g p (omega arith) b))
      ∙ (where_stopped (table_in l) 0 key e).empty

  unlinked : Unlinked (head_of counted).g (table_in counted) q x (suc g)
  unlinked =
      let a = accepted_again s in
      record {
        empty = empty;
        least = omega arith;
        most = rw heads (omega arith);
        rules = rw (linked, same_head) at a.links;
      }

  opened : first (opening_rows_of counted) ≡ none
  opened =
      let a = accepted_again s in
      let f : (head_of (stored_image l key (suc v))).f ≡ h.f =
      ap (λ (k : Head). k.f) (same_head ∙ heads) in
      let at : ℕ = link_place h q x in
      let bs : List ℕ = digits h.a (suc g) in
      ap first
      (opens_same counted (stored_image l key (suc v)) (sym same_head)
      (rw last (sym (length-sets counted at bs)))
      (λ p low high. rw last (sym (get_d_outside counted bs at p 0 (inl (omega (arith, far)))))))
      ∙ accepted_opens a

  -- ---- between the write of G and the write of the link

  eight : (work : List ℕ) → (head_of counted).g + 1 ≤ length work → (check_of counted work).numbers
      ≡ refused_numbers (number_at 8 (suc g))
  eight work lent = check_unlinked counted work unlinked opened lent

  pub mends_lowered : (work : List ℕ) → (head_of counted).g + 1 ≤ length work
      → MendsTo counted work l
  unfolding refused_numbers
  mends_lowered work lent =
      let numbers : Numbers = (check_of counted work).numbers in
      let again : Accepted (put_total counted g) =
      alike_accepted (omega arith) lowered s.accepted in
      let number : numbers.number ≡ 8 = ap (λ (n : Numbers). n.number) (eight work lent) in
      let place : numbers.place - 1 ≡ g =
      ap (λ (n : Numbers). n.place - 1) (eight work lent) ∙ omega arith in
      record {
        image = put_total counted g;
        heard =
            mend_lowered counted work
            (lowers counted numbers number place
            ((accepted_exactly (put_total counted g)).1 again))
            ∙ ap (λ (p : ℕ). outcome (done_numbers 0 (pos 0) 0)
            (put_total counted p ∷ work_after counted work ∷ [])) place;
        accepted = again;
        answers = same_answers (omega arith) lowered;
        used_bytes = lowered_bytes;
      }

  -- ---- a cut after the nodes

  pub looks_begun : SameUsed 0 begun l
  looks_begun =
      agree_alike begun l (length_carried l nodes) (λ p b. carried_before p l nodes (spare p b))

  pub link_used : link_place h q x < used_len (head_of counted)
  link_used =
      let a = link_inside h q enough.letters.0 in
      rw (heads, used_total h total)
      (omega (
        arith,
        (bounds h s.accepted.head_permitted).a_least,
        place_le h (q + 1)
            (suc total) (omega (arith, enough.node)),
      ))

  cut_later : (lands : ℕ → Bool) (work : List ℕ) (j : ℕ) → j < 2
      → Before l work (cut_after j lands begun (total_write total ∷ link_write h q x (suc g) ∷ []))
  unfolding cut_after total_write link_write
  cut_later lands work zero b =
      not_landed lands work begun (total_write total) s.accepted looks_begun
      (omega (arith, before_used (head_of begun)))
  cut_later lands work (suc zero) b =
      subst (Before l work) (sym (hit_none lands counted (link_write h q x (suc g)) link_used))
      (mends_lowered work)
  cut_later lands work (suc (suc j)) b = absurd (omega arith)

  -- ---- a cut among the nodes or after them

  cut_new : (lands : ℕ → Bool) (work : List ℕ) (k : ℕ)
      → k < length (store_writes (head_of l) (stopped q x xs) (suc v))
      → Before l work (cut_after k lands l (store_writes (head_of l) (stopped q x xs) (suc v)))
  unfolding store_writes
  cut_new lands work k b = go (dec_lt k (length nodes))
    where
      two : List Write
      two = total_write total ∷ link_write h q x (suc g) ∷ []

      go : Dec (k < length nodes) → Before l work (cut_after k lands l (nodes ++ two))
      go (yes c) =
          mends_kept (cut_after k lands l (nodes ++ two)) work l
          (agree_alike (cut_after k lands l (nodes ++ two)) l (length_cut k lands l (nodes ++ two))
          (λ p d. cut_before_all p k lands l nodes two (spare p d) c))
          s.accepted
      go (no c) =
          let j : ℕ = k - length nodes in
          let at : k ≡ length nodes + j = omega arith in
          let few : j < 2 = omega (arith, length-append nodes two) in
          subst (Before l work) (sym (ap (λ (i : ℕ). cut_after i lands l (nodes ++ two)) at
          ∙ cut_append j lands l nodes two)) (cut_later lands work j few)

-- ---- the theorem

-- a complete path
cut_data : {l key : List ℕ} {value q : ℕ} → Granted l key value → descend (table_in l) 0 key
    ≡ complete q
    → (lands : ℕ → Bool) (work : List ℕ) (k : ℕ)
    → k < length (store_writes (head_of l) (complete q) value)
    → Before l work (cut_after k lands l (store_writes (head_of l) (complete q) value))
unfolding store_writes cut_after data_write
cut_data {l} {key} {value} {q} s e lands work zero b =
    let h : Head = head_of l in
    let within = complete_within (table_in l) h.g key s.accepted.links.within e in
    let used : data_place h q < used_len h =
    omega (
      arith,
      inside_used (data_inside h q) within,
      (bounds h s.accepted.head_permitted).d_least,
    ) in
    not_landed lands work l (data_write h q value) s.accepted (alike_itself 0 l) used
cut_data s e lands work (suc k) b = absurd (omega arith)

-- "Path incomplete and value 0: nothing changes"
none_written : (h : Head) (q x : ℕ) (xs : List ℕ) (k : ℕ)
    → ¬ (k < length (store_writes h (stopped q x xs) 0))
unfolding store_writes
none_written h q x xs k b = omega arith

module _ {l key : List ℕ} {value : ℕ} (s : Granted l key value) (k : ℕ) (lands : ℕ → Bool)
    (work : List ℕ) where
  -- before the last write has landed: the answers from before the store
  pub cut_before : k < length (writes_in l key value)
      → (head_of (cut_after k lands l (writes_in l key value))).g + 1 ≤ length work
      → MendsTo (cut_after k lands l (writes_in l key value)) work l
  cut_before = go (descend (table_in l) 0 key) value refl s
    where
      go : (d : Descent) (v : ℕ) → descend (table_in l) 0 key ≡ d → Granted l key v
          → k < length (store_writes (head_of l) d v)
          → Before l work (cut_after k lands l (store_writes (head_of l) d v))
      go (complete q) v e t b = cut_data t e lands work k b
      go (stopped q x xs) zero e t b = absurd (none_written (head_of l) q x xs k b)
      go (stopped q x xs) (suc v) e t b = cut_new t e lands work k b

  -- once it has landed: those from after the store
  pub cut_after_lem : length (writes_in l key value) ≤ k
      → (head_of (cut_after k lands l (writes_in l key value))).g + 1 ≤ length work
      → MendsTo (cut_after k lands l (writes_in l key value)) work (stored_image l key value)
  unfolding stored_image
  cut_after_lem b =
      let cut : List ℕ = cut_after k lands l (writes_in l key value) in
      mends_kept cut work (stored_image l key value)
      (subst (SameUsed 0 cut) (cut_whole k lands l (writes_in l key value) b) (alike_itself 0 cut))
      (accepted_again s)

-- ---- for a store whose answer is done

-- "the answers from before the store or after it", wherever the cut is and whatever lands
abbrev pub Mended : List ℕ → List ℕ → ℕ → Type 0
Mended l key value =
    (k : ℕ) (lands : ℕ → Bool) (work : List ℕ)
    → (head_of (cut_after k lands l (writes_in l key value))).g + 1 ≤ length work
    → (k < length (writes_in l key value)
    → MendsTo (cut_after k lands l (writes_in l key value)) work
    l)
    × (length (writes_in l key value) ≤ k
    → MendsTo (cut_after k lands l (writes_in l key value)) work
    (stored_image l key value))

cut_anywhere : {l key : List ℕ} {value : ℕ} → Granted l key value → Mended l key value
cut_anywhere s k lands work lent =
    (λ b. cut_before s k lands work b lent, λ b. cut_after_lem s k lands work b lent)

pub cut_store : (l work : List ℕ) (given : Given) (value : ℕ)
    → (store_of l work given value).numbers.number ≡ 0 → Mended l (key_in l given) value
cut_store l work given value z = cut_anywhere (store_granted l work given value z)
