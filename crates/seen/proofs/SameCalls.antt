-- Images that are alike up to U answer alike in every call, and leave images that are alike again:
-- demand 1's "bytes from U on are spare, may hold anything, and are never judged", for the stores,
-- mending and make too. A call that does not write the image goes by what is seen of it. A store
-- makes the same writes on both, make writes every used byte, and mending writes the same G.
use Prim.Native.Nat.{ℕ, zero, suc, ◌+◌, ◌-◌, ◌*◌, ◌^◌, ◌≤◌, ◌<◌}
use mathlib.Core.Path.{◌≡◌, refl, sym, ap, ap₂, subst, ◌∙◌}
use mathlib.Core.Bool.{Bool, true, false, ◌&&◌, cond}
use mathlib.Core.Option.{none, some}
use mathlib.Core.List.{List, [], ◌∷◌, ◌++◌}
use native.Mathlib.Nat.{mul-le-mul, le_refl, add-zero, suc-mul}
use native.Mathlib.Decide.{dec_lt}
use native.Mathlib.Omega.{arith}
use lib.Dec.{eqb}
use lib.IntN.{pos}
use lib.ListN.{length, get_or, replicate, length-append, length-replicate}
use lib.Seq.{sets}
use borrow.Author.Tests.{eqb-true}
use Rattle.field.specs.Field.{digits}
use Rattle.field.proofs.Range.{both, between_true}
use Rattle.trie.specs.Table.{Descent, complete, stopped, descend, missing, LettersBelow}
use Rattle.trie.specs.Storing.{added}
use Rattle.trie.proofs.Storing.{none_added}
use Rattle.head.specs.declared.Head.{Head}
use Rattle.head.specs.Fields.{shortest_image, longest_image, fields_len, total_at, total_len}
use Rattle.head.specs.Fields.{head_of}
use Rattle.head.specs.Fields.{head_bytes, node_width, node_place, used_len, put_total}
use Rattle.head.proofs.Fields.{head_same, length_head, length_total, head_total}
use Rattle.head.proofs.Permitted.{bounds}
use Rattle.head.proofs.Places.{width_least, used, place_le}
use Rattle.node.specs.Writes.{Write, carried_out, noted, new_nodes, total_write, link_write}
use Rattle.node.specs.Writes.{store_writes}
use Rattle.node.proofs.Heads.{with_total, used_total, used_more}
use Rattle.node.proofs.StoreOnTable.{length_carried, carried_append}
use Rattle.paper.specs.Hearing.{Row, Numbers, Outcome, outcome, first, heard, done_numbers}
use Rattle.paper.specs.Hearing.{Said, refused_numbers}
use Rattle.paper.specs.Given.{Given, alphabet_in, key_in}
use Rattle.paper.specs.Orders.{opening_rows, opening_rows_of, new_of, store_order}
use Rattle.paper.specs.Calls.{table_in, fresh_head, fresh_image, make_of, check_of, writes_in}
use Rattle.paper.specs.Calls.{stored_image, store_of, with_writes, is_accepted, can_mend}
use Rattle.paper.specs.Calls.{work_after, store_writes_of}
use Rattle.paper.specs.Accepted.{Accepted}
use Rattle.paper.specs.Granted.{Granted}
use Rattle.paper.proofs.Hearing.{heard_refused, heard_done}
use Rattle.paper.proofs.Opening.{Passed, passed}
use Rattle.paper.proofs.StoreCall.{able, stored_head, stored_length, granted}
use Rattle.paper.proofs.MendCall.{mend_kept, mend_lowered, eight, eight_long}
use Rattle.paper.proofs.MakeCall.{Made, fresh_head_lem, fresh_length}
use Rattle.position.specs.Orders.{store_counts_order}
use Rattle.position.proofs.Plain.{store_order_lem, plain_passes}
use Rattle.calls.specs.Call.{Call, make, check, count, look_up, store}
use Rattle.calls.specs.Call.{store_writes as stores_writes}
use Rattle.calls.specs.Call.{mend, next_key, counts, check_counts, store_counts, key_at, position}
use Rattle.paper.specs.Repeated.{first_left}
use Rattle.calls.specs.Call.{outcome_of, writes_image, rest_left, image_after, besides_image}
use Rattle.calls.specs.Call.{answers_of}
use Rattle.seen.specs.Seen.{seen_in, SameUsed, SameOutcome, SameAnswers}
use Rattle.seen.proofs.SameWrites.{AgreeAt, carried_agree, sets_agree, sets_cover}
use Rattle.seen.proofs.SameWrites.{nodes_cover}
use Rattle.seen.proofs.Seen.{before_used, seen_same, same_accepted, check_seen, count_seen}
use Rattle.seen.proofs.Seen.{look_seen}
use Rattle.seen.proofs.Seen.{next_seen, keys_seen, counts_seen, check_counts_seen}
use Rattle.seen.proofs.Seen.{key_at_seen, position_seen, weights_seen, key_seen, new_seen}
use Rattle.seen.proofs.Seen.{writes_seen, store_seen, store_counts_seen, is_accepted_seen}
use Rattle.seen.proofs.Seen.{store_order_seen, stores_counts, changes, clears, work_seen}

-- ---- images that are alike

alike_seen : {from : ℕ} {a b : List ℕ} → from ≤ total_at + total_len → SameUsed from a b
    → seen_in a ≡ seen_in b
alike_seen {a = a} {b} low s =
    seen_same a b s.heads s.lengths (λ p c d. s.bytes p (omega arith) d)

pub alike_itself : (from : ℕ) (l : List ℕ) → SameUsed from l l
alike_itself from l = record { heads = refl; lengths = refl; bytes = λ p _ _. refl }

-- images that agree below U are alike
pub agree_alike : (a b : List ℕ) → length a ≡ length b
    → ((p : ℕ) → p < used_len (head_of b) → get_or a p 0 ≡ get_or b p 0) → SameUsed 0 a b
agree_alike a b n e =
    record {
      heads = head_same a b (λ k c. e k (omega (arith, before_used (head_of b))));
      lengths = n;
      bytes = λ p _ c. e p c;
    }

pub alike_from : (from : ℕ) {a b : List ℕ} → SameUsed 0 a b → SameUsed from a b
alike_from from s =
    record { heads = s.heads; lengths = s.lengths; bytes = λ p _ c. s.bytes p (omega arith) c }

-- one is accepted where the other is
pub alike_accepted : {from : ℕ} {a b : List ℕ} → from ≤ total_at + total_len → SameUsed from a b
    → Accepted b → Accepted a
alike_accepted low s x = same_accepted (alike_seen low s) x

-- ---- after a store

-- what the bytes of new nodes need: letters of the alphabet, and room
abbrev Fits : Head → List ℕ → Descent → ℕ → Type 0
Fits h a (complete q) v = Unit {0}
Fits h a (stopped q x xs) zero = Unit {0}
Fits h a (stopped q x xs) (suc v) =
    LettersBelow h.n xs × (used_len (with_total h (h.g + suc (length xs))) ≤ length a)

-- the new nodes come first, and the writes after them are the same on both
new_written : (h : Head) (q x : ℕ) (xs : List ℕ) (v p : ℕ) (a b : List ℕ) → length a ≡ length b
    → AgreeAt p (carried_out a (new_nodes h (suc h.g) xs (suc v)))
    (carried_out b (new_nodes h (suc h.g) xs (suc v)))
    → AgreeAt p (carried_out a (store_writes h (stopped q x xs) (suc v)))
    (carried_out b (store_writes h (stopped q x xs) (suc v)))
unfolding store_writes
new_written h q x xs v p a b n e =
    let nodes : List Write = new_nodes h (suc h.g) xs (suc v) in
    let two : List Write =
    total_write (h.g + suc (length xs)) ∷ link_write h q x (suc h.g) ∷ [] in
    ap (λ (l : List ℕ). get_or l p 0) (carried_append a nodes two)
    ∙ carried_agree p (carried_out a nodes) (carried_out b nodes) two
    (length_carried a nodes ∙ n ∙ sym (length_carried b nodes)) e
    ∙ ap (λ (l : List ℕ). get_or l p 0) (sym (carried_append b nodes two))

-- a byte that was used is as before or written over, and a byte of a new node is written over
written_same : (h : Head) (d : Descent) (v p : ℕ) (a b : List ℕ) → length a ≡ length b
    → (p < used_len h → AgreeAt p a b) → Fits h a d v
    → p < used_len (with_total h (h.g + added (missing d) v))
    → AgreeAt p (carried_out a (store_writes h d v)) (carried_out b (store_writes h d v))
unfolding added missing
written_same h (complete q) v p a b n same fits high =
    let less : h.g + added 0 v ≡ h.g = ap (h.g +◌) (none_added v) ∙ add-zero h.g in
    carried_agree p a b (store_writes h (complete q) v) n
    (same (subst (λ (g : ℕ). p < used_len (with_total h g)) less high))
written_same h (stopped q x xs) zero p a b n same fits high =
    carried_agree p a b (store_writes h (stopped q x xs) zero) n
    (same (subst (λ (g : ℕ). p < used_len (with_total h g)) (add-zero h.g) high))
written_same h (stopped q x xs) (suc v) p a b n same fits high =
    go (dec_lt p (used_len h))
  where
    first_new : node_place h (suc h.g) ≡ used_len h
    first_new = sym (used_total h h.g)

    go : Dec (p < used_len h)
        → AgreeAt p (carried_out a (store_writes h (stopped q x xs) (suc v)))
        (carried_out b (store_writes h (stopped q x xs) (suc v)))
    go (yes c) = carried_agree p a b (store_writes h (stopped q x xs) (suc v)) n (same c)
    go (no c) =
        new_written h q x xs v p a b n
        (nodes_cover p h (suc h.g) xs (suc v) a b n fits.0
        (omega (arith, first_new), omega (arith, first_new, used_more h (suc (length xs))))
        (omega (arith, first_new, used_more h (suc (length xs)), fits.1)))

module _ {from : ℕ} {a b : List ℕ} (low : from ≤ total_at + total_len)
    (s : SameUsed from a b) where
  -- a store that is granted for both makes the same writes on both: a byte that was used is as
  -- before or written over, and a byte of a new node is written over
  alike_stored : {key : List ℕ} {value : ℕ} → Granted a key value → Granted b key value
      → SameUsed from (stored_image a key value) (stored_image b key value)
  unfolding stored_image new_of table_in
  alike_stored {key} {value} ga gb =
      record {
        heads = heads_after;
        lengths = stored_length a key value ∙ s.lengths ∙ sym (stored_length b key value);
        bytes = λ p c d. ap (λ (ws : List Write). get_or (carried_out a ws) p 0) same_writes
            ∙ same_byte p c d;
      }
    where
      seen : seen_in a ≡ seen_in b
      seen = alike_seen low s

      same_writes : writes_in a key value ≡ writes_in b key value
      same_writes = writes_seen a b seen key value

      heads_after : head_of (stored_image a key value) ≡ head_of (stored_image b key value)
      heads_after =
          stored_head ga
          ∙ ap₂ (λ (h : Head) (n : ℕ). with_total h (h.g + n)) s.heads
          (new_seen a b seen key value)
          ∙ sym (stored_head gb)

      fits : (d : Descent) (v : ℕ) → descend (table_in b) 0 key ≡ d → Granted b key v
          → Fits (head_of b) a d v
      fits (complete q) v e g = tt
      fits (stopped q x xs) zero e g = tt
      fits (stopped q x xs) (suc v) e g = let r = able g e in
          (r.letters.1, omega (arith, r.room, s.lengths))

      same_byte : (p : ℕ) → from ≤ p → p < used_len (head_of (stored_image b key value))
          → get_or (carried_out a (writes_in b key value)) p 0
          ≡ get_or (carried_out b (writes_in b key value)) p 0
      same_byte p c d =
          written_same (head_of b) (descend (table_in b) 0 key) value p a b s.lengths
          (s.bytes p c) (fits (descend (table_in b) 0 key) value refl gb)
          (rw (stored_head gb) at d)

-- ---- a call that may write the image

-- equal numbers, equal other buffers, and images that are alike
same_writing : (from : ℕ) (a b : List ℕ) (c : Call) {n : Numbers} {x y : List ℕ}
    {xs : List (List ℕ)} → writes_image c ≡ true → outcome_of a c ≡ outcome n (x ∷ xs)
    → outcome_of b c ≡ outcome n (y ∷ xs) → SameUsed from x y → SameOutcome from a b c
unfolding image_after besides_image first_left rest_left
same_writing from a b c {n} {x} {y} w p q s =
    record {
      numbers = ap (λ (o : Outcome). o.numbers) p ∙ sym (ap (λ (o : Outcome). o.numbers) q);
      buffers = rw (w, p, q);
      images = rw (w, p, q) s;
    }

-- one that may not
same_reading : {from : ℕ} {a b : List ℕ} (c : Call) → writes_image c ≡ false
    → outcome_of a c ≡ outcome_of b c → SameUsed from a b → SameOutcome from a b c
unfolding image_after besides_image
same_reading {a = a} {b} c w p s =
    record {
      numbers = ap (λ (o : Outcome). o.numbers) p;
      buffers = rw w (ap (λ (o : Outcome). o.lent) p);
      images = rw w s;
    }

-- make that is done writes every used byte
made : (l : List ℕ) (n a d : ℕ) (alphabet : List ℕ) (least most : ℕ)
    → first (opening_rows (fresh_head n a d alphabet least most) alphabet (length l)) ≡ none
    → Made (fresh_head n a d alphabet least most) alphabet l
unfolding fresh_head
made l n a d alphabet least most e =
    record {
      root_alone = refl;
      all_letters = refl;
      judged = passed (fresh_head n a d alphabet least most) alphabet (length l) e;
    }

fresh_alike : (from : ℕ) {h : Head} {alphabet a b : List ℕ} → Made h alphabet a
    → Made h alphabet b → length a ≡ length b
    → SameUsed from (fresh_image h alphabet a) (fresh_image h alphabet b)
unfolding fresh_image
fresh_alike from {h} {alphabet} {a} {b} ma mb n =
    record {
      heads = fresh_head_lem ma ∙ sym (fresh_head_lem mb);
      lengths = fresh_length ma ∙ n ∙ sym (fresh_length mb);
      bytes = λ p _ d. sets_cover p a b 0 written n
          (omega arith, omega (arith, long, used_here, rw (fresh_head_lem mb) at d))
          (omega (arith, long, used_here, ma.judged.room));
    }
  where
    written : List ℕ
    written = head_bytes h ++ (alphabet ++ replicate (node_width h) 0)

    long : length written ≡ fields_len + (length alphabet + node_width h)
    long =
        length-append (head_bytes h) (alphabet ++ replicate (node_width h) 0)
        ∙ ap₂ ◌+◌ (length_head h)
        (length-append alphabet (replicate (node_width h) 0)
        ∙ ap (length alphabet +◌) (length-replicate (node_width h) 0))

    used_here : used_len h ≡ fields_len + length alphabet + node_width h
    used_here =
        used h
        ∙ rw (ma.root_alone, ma.all_letters) (omega (arith, suc-mul 0 (node_width h)))

-- ---- mending lowers G

-- "if the check answers 8 at p": so it does where G is lowered
can_eight : (l : List ℕ) (m : Numbers) → can_mend l m ≡ true → m.number ≡ 8
unfolding can_mend
can_eight l m e =
    eqb-true m.number 8 (both (eqb m.number 8) (is_accepted (put_total l (m.place - 1))) e).0

-- every node takes a byte or more, so G is below the image's length
pub eight_fits : (l work : List ℕ) → (check_of l work).numbers.number ≡ 8 → (head_of l).g < 2 ^ 32
unfolding opening_rows_of
eight_fits l work e =
    let h : Head = head_of l in
    let o : Passed h (alphabet_in h l) (length l) =
    passed h (alphabet_in h l) (length l) (eight l work e).opened in
    let long = between_true (length l) shortest_image longest_image o.allowed in
    let each : (h.g + 1) * 1 ≤ (h.g + 1) * node_width h =
    mul-le-mul (le_refl (h.g + 1)) (omega (arith, width_least (bounds h o.head_permitted))) in
    omega (arith, used h, o.room)

module _ {from : ℕ} {a b : List ℕ} (s : SameUsed from a b) (work : List ℕ) where
  -- the same lower G
  alike_lowered : (check_of b work).numbers.number ≡ 8
      → SameUsed from (put_total a ((check_of b work).numbers.place - 1))
      (put_total b ((check_of b work).numbers.place - 1))
  unfolding used_len
  alike_lowered e =
      let t = eight b work e in
      let lower : ℕ = (check_of b work).numbers.place - 1 in
      let narrow : lower < 2 ^ 32 = omega (arith, eight_fits b work e, t.least, t.most) in
      let long = eight_long b work e in
      let heads_a = head_total a lower (omega (arith, s.lengths, long)) narrow in
      let heads_b = head_total b lower long narrow in
      record {
        heads = heads_a ∙ ap (λ (h : Head). with_total h lower) s.heads ∙ sym heads_b;
        lengths = length_total a lower ∙ s.lengths ∙ sym (length_total b lower);
        bytes = λ p c d. sets_agree p a b total_at (digits total_len lower) s.lengths
            (s.bytes p c (omega (
              arith,
              rw heads_b at d,
              place_le (head_of b) (lower + 1) ((head_of b).g + 1)
                  (omega (arith, t.least, t.most)),
            )));
      }

  -- so one is mended where the other is
  can_same : from ≤ total_at + total_len → can_mend a (check_of b work).numbers
      ≡ can_mend b (check_of b work).numbers
  unfolding can_mend
  can_same low = go (eqb (check_of b work).numbers.number 8) refl
    where
      numbers : Numbers
      numbers = (check_of b work).numbers

      go : (t : Bool) → eqb numbers.number 8 ≡ t → can_mend a numbers ≡ can_mend b numbers
      go false e = rw e
      go true e =
          ap (λ (x : Bool). eqb numbers.number 8 && x)
          (is_accepted_seen (put_total a (numbers.place - 1)) (put_total b (numbers.place - 1))
          (alike_seen low (alike_lowered (eqb-true numbers.number 8 e))))

-- a store with writes, done and refused
with_done : (ws : List Write) (list : List ℕ) (n : Numbers) (x : List ℕ) (xs : List (List ℕ))
    → n.number ≡ 0 → with_writes ws list (outcome n (x ∷ xs))
    ≡ outcome (done_numbers (length ws) n.change 0) (x ∷ (xs ++ (sets list 0 (noted ws) ∷ [])))
unfolding with_writes
with_done ws list n x xs e = rw e

with_other : (ws : List Write) (list : List ℕ) (t : Said) (x : List ℕ) (xs : List (List ℕ))
    → with_writes ws list (outcome (refused_numbers t) (x ∷ xs))
    ≡ outcome (cond (eqb t.number 0) (done_numbers (length ws) (pos 0) 0) (refused_numbers t))
    (x ∷ (xs ++ (cond (eqb t.number 0) (sets list 0 (noted ws)) list ∷ [])))
unfolding with_writes refused_numbers done_numbers
with_other ws list t x xs = go (eqb t.number 0)
  where
    go : (b : Bool)
        → cond b (outcome (done_numbers (length ws) (pos 0) 0)
        (x ∷ (xs ++ (sets list 0 (noted ws) ∷ []))))
        (outcome (refused_numbers t) (x ∷ (xs ++ (list ∷ []))))
        ≡ outcome (cond b (done_numbers (length ws) (pos 0) 0) (refused_numbers t))
        (x ∷ (xs ++ (cond b (sets list 0 (noted ws)) list ∷ [])))
    go true = refl
    go false = refl

module _ {from : ℕ} {a b : List ℕ} (low : from ≤ total_at + total_len)
    (s : SameUsed from a b) where
  abbrev seen : seen_in a ≡ seen_in b
  seen = alike_seen low s

  -- ---- the stores

  -- where the order passes on one image it passes on the other, and both stores are granted
  stored_alike : (work : List ℕ) (given : Given) (value : ℕ)
      → first (store_order b work given value) ≡ none
      → SameUsed from (stored_image a (key_in a given) value)
      (stored_image b (key_in b given) value)
  stored_alike work given value e =
      let key : key_in a given ≡ key_in b given = key_seen a b seen given in
      let passes : first (store_order a work given value) ≡ none =
      ap first (store_order_seen a b seen work given value) ∙ e in
      subst (λ (k : List ℕ). SameUsed from (stored_image a k value)
      (stored_image b (key_in b given) value)) (sym key)
      (alike_stored low s
      (subst (λ (k : List ℕ). Granted a k value) key (granted a work given value passes))
      (granted b work given value e))

  same_store : (work : List ℕ) (given : Given) (value : ℕ)
      → SameOutcome from a b (store work given value)
  unfolding outcome_of writes_image
  same_store work given value = go (first (store_order b work given value)) refl
    where
      go : (row : Row) → first (store_order b work given value) ≡ row
          → SameOutcome from a b (store work given value)
      go none e = same_writing from a b (store work given value) refl
          (store_seen a b seen work given value ∙ heard_done _ _ _ e)
          (store_seen b b refl work given value ∙ heard_done _ _ _ e)
          (stored_alike work given value e)
      go (some t) e = same_writing from a b (store work given value) refl
          (store_seen a b seen work given value ∙ heard_refused _ _ _ e)
          (store_seen b b refl work given value ∙ heard_refused _ _ _ e) s

  same_store_writes : (work : List ℕ) (given : Given) (value : ℕ) (list : List ℕ)
      → SameOutcome from a b (stores_writes work given value list)
  unfolding outcome_of writes_image store_writes_of done_numbers
  same_store_writes work given value list = go (first (store_order b work given value)) refl
    where
      c : Call
      c = stores_writes work given value list

      ws : List Write
      ws = writes_in b (key_in b given) value

      n : Numbers
      n = changes (seen_in b) given value

      xs : List (List ℕ)
      xs = clears (seen_in b) work ∷ []

      same_ws : writes_in a (key_in a given) value ≡ ws
      same_ws = writes_seen a b seen (key_in a given) value
          ∙ ap (λ (k : List ℕ). writes_in b k value) (key_seen a b seen given)

      at_a : {o : Outcome} → store_of a work given value ≡ o
          → store_writes_of a work given value list ≡ with_writes ws list o
      at_a e = ap₂ (λ (v : List Write) (o : Outcome). with_writes v list o) same_ws e

      at_b : {o : Outcome} → store_of b work given value ≡ o
          → store_writes_of b work given value list ≡ with_writes ws list o
      at_b e = ap (with_writes ws list) e

      go : (row : Row) → first (store_order b work given value) ≡ row → SameOutcome from a b c
      go none e = same_writing from a b c refl
          (at_a (store_seen a b seen work given value ∙ heard_done _ _ _ e)
          ∙ with_done ws list n (stored_image a (key_in a given) value) xs refl)
          (at_b (store_seen b b refl work given value ∙ heard_done _ _ _ e)
          ∙ with_done ws list n (stored_image b (key_in b given) value) xs refl)
          (stored_alike work given value e)
      go (some t) e = same_writing from a b c refl
          (at_a (store_seen a b seen work given value ∙ heard_refused _ _ _ e)
          ∙ with_other ws list t a xs)
          (at_b (store_seen b b refl work given value ∙ heard_refused _ _ _ e)
          ∙ with_other ws list t b xs) s

  same_store_counts : (work : List ℕ) (given : Given) (value : ℕ) (tally : List ℕ)
      → SameOutcome from a b (store_counts work given value tally)
  unfolding outcome_of writes_image
  same_store_counts work given value tally =
      go (first (store_counts_order b work given value tally)) refl
    where
      c : Call
      c = store_counts work given value tally

      go : (row : Row) → first (store_counts_order b work given value tally) ≡ row
          → SameOutcome from a b c
      go none e =
          let plain = plain_passes b work given value tally
          (store_order_lem b work given value tally e) in
          let after = stored_alike work given value plain in
          same_writing from a b c refl
          (store_counts_seen a b seen work given value tally
          ∙ ap (stores_counts (seen_in b) work given value tally a
          (stored_image a (key_in a given) value))
          (weights_seen (stored_image a (key_in a given) value)
          (stored_image b (key_in b given) value) (alike_seen low after))
          ∙ heard_done _ _ _ e)
          (store_counts_seen b b refl work given value tally ∙ heard_done _ _ _ e)
          after
      go (some t) e = same_writing from a b c refl
          (store_counts_seen a b seen work given value tally ∙ heard_refused _ _ _ e)
          (store_counts_seen b b refl work given value tally ∙ heard_refused _ _ _ e) s

  -- ---- make

  same_make : (n w d : ℕ) (alphabet : List ℕ) (least most : ℕ)
      → SameOutcome from a b (make n w d alphabet least most)
  unfolding outcome_of writes_image make_of
  same_make n w d alphabet least most = go (first (opening_rows h alphabet (length b))) refl
    where
      h : Head
      h = fresh_head n w d alphabet least most

      c : Call
      c = make n w d alphabet least most

      at_a : make_of a n w d alphabet least most
          ≡ heard (first (opening_rows h alphabet (length b))) (a ∷ [])
          (outcome (done_numbers 0 (pos 0) 0) (fresh_image h alphabet a ∷ []))
      at_a = ap (λ (len : ℕ). heard (first (opening_rows h alphabet len)) (a ∷ [])
          (outcome (done_numbers 0 (pos 0) 0) (fresh_image h alphabet a ∷ []))) s.lengths

      go : (row : Row) → first (opening_rows h alphabet (length b)) ≡ row → SameOutcome from a b c
      go none e = same_writing from a b c refl (at_a ∙ heard_done _ _ _ e) (heard_done _ _ _ e)
          (fresh_alike from
          (made a n w d alphabet least most
          (ap (λ (len : ℕ). first (opening_rows h alphabet len)) s.lengths ∙ e))
          (made b n w d alphabet least most e) s.lengths)
      go (some t) e =
          same_writing from a b c refl (at_a ∙ heard_refused _ _ _ e) (heard_refused _ _ _ e) s

  -- ---- mending

  same_mend : (work : List ℕ) → SameOutcome from a b (mend work)
  unfolding outcome_of writes_image
  same_mend work = go (can_mend b numbers) refl
    where
      numbers : Numbers
      numbers = (check_of b work).numbers

      same_numbers : (check_of a work).numbers ≡ numbers
      same_numbers = ap (λ (o : Outcome). o.numbers) (check_seen a b seen work)

      same_work : work_after a work ≡ work_after b work
      same_work = work_seen a b seen work

      go : (t : Bool) → can_mend b numbers ≡ t → SameOutcome from a b (mend work)
      go false e = same_writing from a b (mend work) refl
          (mend_kept a work (ap (can_mend a) same_numbers ∙ can_same s work low ∙ e)
          ∙ ap₂ (λ (n : Numbers) (w : List ℕ). outcome n (a ∷ w ∷ [])) same_numbers same_work)
          (mend_kept b work e) s
      go true e = same_writing from a b (mend work) refl
          (mend_lowered a work (ap (can_mend a) same_numbers ∙ can_same s work low ∙ e)
          ∙ ap₂ (λ (n : Numbers) (w : List ℕ). outcome (done_numbers 0 (pos 0) 0)
          (put_total a (n.place - 1) ∷ w ∷ [])) same_numbers same_work)
          (mend_lowered b work e)
          (alike_lowered s work (can_eight b numbers e))

  -- ---- every call

  pub same_call : (c : Call) → SameOutcome from a b c
  unfolding outcome_of writes_image
  same_call (make n w d alphabet least most) = same_make n w d alphabet least most
  same_call (check work) = same_reading (check work) refl (check_seen a b seen work) s
  same_call (count work) = same_reading (count work) refl (count_seen a b seen work) s
  same_call (look_up given) = same_reading (look_up given) refl (look_seen a b seen given) s
  same_call (store work given value) = same_store work given value
  same_call (stores_writes work given value list) = same_store_writes work given value list
  same_call (mend work) = same_mend work
  same_call (next_key work key after buffer) =
      same_reading (next_key work key after buffer) refl
      (next_seen a b seen work key after buffer) s
  same_call (counts work tally) =
      same_reading (counts work tally) refl (counts_seen a b seen work tally) s
  same_call (check_counts work tally) =
      same_reading (check_counts work tally) refl (check_counts_seen a b seen work tally) s
  same_call (store_counts work given value tally) = same_store_counts work given value tally
  same_call (key_at work tally at buffer) =
      same_reading (key_at work tally at buffer) refl
      (key_at_seen a b seen work tally at buffer) s
  same_call (position work tally given) =
      same_reading (position work tally given) refl (position_seen a b seen work tally given) s

-- and any run of calls
same_runs : {from : ℕ} (a b : List ℕ) → from ≤ total_at + total_len → SameUsed from a b
    → (cs : List Call) → answers_of a cs ≡ answers_of b cs
unfolding answers_of
same_runs a b low s [] = refl
same_runs a b low s (c ∷ cs) =
    ap₂ ◌∷◌ (same_call low s c).numbers
    (same_runs (image_after a c) (image_after b c) low (same_call low s c).images cs)

-- images that are alike answer alike
pub same_answers : {from : ℕ} {a b : List ℕ} → from ≤ total_at + total_len → SameUsed from a b
    → SameAnswers from a b
same_answers {a = a} {b} low s =
    record {
      alike = s;
      calls = same_call low s;
      runs = same_runs a b low s;
      lists = keys_seen a b (alike_seen low s);
      weighed = weights_seen a b (alike_seen low s);
    }

-- demand 1, "bytes from U on are spare, may hold anything, and are never judged": two images of
-- one length that agree below U answer alike in every call, and agree below the new U afterwards
pub spare_unjudged : (a b : List ℕ) → length a ≡ length b
    → ((p : ℕ) → p < used_len (head_of b) → get_or a p 0 ≡ get_or b p 0)
    → SameAnswers 0 a b
spare_unjudged a b n e = same_answers (omega arith) (agree_alike a b n e)
