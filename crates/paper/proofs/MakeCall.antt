-- The image that make leaves where it is done: its head and alphabet are those given, and its
-- one node has no link and no data. So it is accepted, every key in it is absent, and no key is
-- stored. Head, alphabet and root follow one another, and the root ends at U.
use Prim.Native.Nat.{ℕ, zero, suc, ◌+◌, ◌*◌, ◌≤◌}
use mathlib.Core.Path.{◌≡◌, refl, sym, ◌∙◌, ap, subst}
use mathlib.Core.Option.{none}
use mathlib.Core.List.{List, [], ◌∷◌, ◌++◌, append_assoc}
use native.Mathlib.Nat.{one-mul}
use native.Mathlib.Omega.{arith}
use lib.IntN.{pos}
use lib.ListN.{length, take, drop, replicate, length-append, length-replicate}
use lib.Seq.{sets, sets-eq, length-sets, take_at, drop_at}
use Rattle.field.specs.Field.{cleared}
use Rattle.field.proofs.Sets.{sets_append}
use Rattle.field.proofs.Range.{between_true}
use Rattle.trie.specs.Table.{complete, Table, answer}
use Rattle.trie.proofs.Walk.{descend_nil, descend_empty, answer_complete, answer_stopped}
use Rattle.trie.proofs.Count.{blank_keys}
use Rattle.head.specs.declared.Head.{Head}
use Rattle.head.specs.Fields.{fields_len, shortest_image, longest_image, head_of, head_bytes}
use Rattle.head.specs.Fields.{node_width}
use Rattle.head.specs.Fields.{node_place, used_len}
use Rattle.head.proofs.Permitted.{bounds}
use Rattle.head.proofs.Places.{used, place}
use Rattle.head.proofs.Fields.{fit_bounds, length_head, head_begun}
use Rattle.alphabet.specs.Letters.{among}
use Rattle.node.specs.Image.{table_of}
use Rattle.node.proofs.Tables.{framed}
use Rattle.node.proofs.WholeNodes.{Blank, blank_child, blank_value, blank_cleared}
use Rattle.paper.specs.Hearing.{first, outcome, done_numbers}
use Rattle.paper.specs.Given.{alphabet_in}
use Rattle.paper.specs.Orders.{opening_rows}
use Rattle.paper.specs.Calls.{table_in, fresh_head, fresh_image, make_of, stored_keys}
use Rattle.paper.specs.Accepted.{Accepted}
use Rattle.paper.proofs.Hearing.{heard_done}
use Rattle.paper.proofs.Numbers.{first_says, none_heard}
use Rattle.paper.proofs.Opening.{Passed, passed, opening_says, unspoilt_good}

-- ---- what make writes

-- head, alphabet and one node are inside the image
pub whole : (h : Head) (alphabet image : List ℕ) → h.g ≡ 0 → h.f ≡ length alphabet
    → used_len h ≤ length image
    → fields_len + length alphabet + node_width h ≤ length image
whole h alphabet image g f room =
    let one : (h.g + 1) * node_width h ≡ node_width h =
    ap (λ (k : ℕ). (k + 1) * node_width h) g ∙ one-mul (node_width h) in
    omega (arith, used h)

-- the three writes together give the fresh image
pub parts : (h : Head) (alphabet image : List ℕ)
    → cleared (sets (sets image 0 (head_bytes h)) fields_len alphabet)
    (fields_len + length alphabet)
    (node_width h) ≡ fresh_image h alphabet image
unfolding fresh_image
parts h alphabet image =
    let zeros : List ℕ = replicate (node_width h) 0 in
    let end : 0 + length (head_bytes h) ≡ fields_len = omega (arith, length_head h) in
    sym
    (sets_append image 0 (head_bytes h) (alphabet ++ zeros)
    ∙ ap (λ (k : ℕ). sets (sets image 0 (head_bytes h)) k (alphabet ++ zeros)) end
    ∙ sets_append (sets image 0 (head_bytes h)) fields_len alphabet zeros)

-- the middle part of what is written at the front of a list
middle : (l a b c : List ℕ) → length (a ++ (b ++ c)) ≤ length l
    → take (length b) (drop (length a) (sets l 0 (a ++ (b ++ c)))) ≡ b
middle l a b c r =
    let rest : List ℕ = drop (0 + length (a ++ (b ++ c))) l in
    let e : sets l 0 (a ++ (b ++ c)) ≡ a ++ (b ++ (c ++ rest)) =
    sets-eq (a ++ (b ++ c)) l 0 (omega arith) ∙ simp append_assoc in
    rw e (ap (take (length b)) (drop_at a (b ++ (c ++ rest)) (length a) refl)
    ∙ take_at b (c ++ rest) (length b) refl)

-- ---- a make that is done

-- what is known where make is done: the head has no node but the root, its F is the length of
-- this alphabet, and 1 to 4 pass
pub record Made (h : Head) (alphabet image : List ℕ) : Type 0 where
  pub root_alone : h.g ≡ 0
  pub all_letters : h.f ≡ length alphabet
  pub judged : Passed h alphabet (length image)

module _ (image : List ℕ) (n a d : ℕ) (alphabet : List ℕ) (least most : ℕ)
    (done : (make_of image n a d alphabet least most).numbers.number ≡ 0) where
  -- the head that it writes
  abbrev h : Head
  h = fresh_head n a d alphabet least most

  passes : first (opening_rows h alphabet (length image)) ≡ none
  unfolding make_of among
  passes = none_heard _ _ (first_says (opening_says h alphabet (length image))) refl done

  pub make_done : Made h alphabet image
  unfolding fresh_head
  make_done =
      record {
        root_alone = refl;
        all_letters = refl;
        judged = passed h alphabet (length image) passes;
      }

  pub make_leaves : make_of image n a d alphabet least most ≡ outcome (done_numbers 0 (pos 0) 0)
      (fresh_image h alphabet image ∷ [])
  unfolding make_of
  make_leaves = heard_done (first (opening_rows h alphabet (length image))) _ _ passes

module _ {h : Head} {alphabet image : List ℕ} (m : Made h alphabet image) where
  pub fresh_length : length (fresh_image h alphabet image) ≡ length image
  unfolding fresh_image
  fresh_length = length-sets image 0 (head_bytes h ++ (alphabet ++ replicate (node_width h) 0))

  lent : (shortest_image ≤ length image) × (length image ≤ longest_image)
  lent = between_true (length image) shortest_image longest_image m.judged.allowed

  written : fields_len + length alphabet + node_width h ≤ length image
  written = whole h alphabet image m.root_alone m.all_letters m.judged.room

  pub fresh_head_lem : head_of (fresh_image h alphabet image) ≡ h
  unfolding fresh_image
  fresh_head_lem =
      head_begun image h (alphabet ++ replicate (node_width h) 0)
      (fit_bounds (bounds h m.judged.head_permitted) (omega (arith, m.root_alone)))
      lent.0

  pub fresh_alphabet : alphabet_in (head_of (fresh_image h alphabet image))
      (fresh_image h alphabet image) ≡ alphabet
  unfolding alphabet_in fresh_image
  fresh_alphabet =
      let zeros : List ℕ = replicate (node_width h) 0 in
      let bytes : List ℕ = head_bytes h ++ (alphabet ++ zeros) in
      let long : length bytes ≡ fields_len + length alphabet + node_width h =
      omega (
        arith,
        length-append (head_bytes h) (alphabet ++ zeros),
        length-append alphabet zeros,
        length_head h,
        length-replicate {A = ℕ} (node_width h) 0,
      ) in
      ap (λ (k : Head). take k.f (drop fields_len (sets image 0 bytes))) fresh_head_lem
      ∙ ap (λ (k : ℕ). take k (drop fields_len (sets image 0 bytes))) m.all_letters
      ∙ ap (λ (k : ℕ). take (length alphabet) (drop k (sets image 0 bytes))) (sym (length_head h))
      ∙ middle image (head_bytes h) alphabet zeros (omega (arith, written))

  -- the root is zeros, and there is no other node
  blank_root : Blank h (fresh_image h alphabet image) 0
  blank_root =
      let lettered : List ℕ = sets (sets image 0 (head_bytes h)) fields_len alphabet in
      let at : node_place h 0 ≡ fields_len + length alphabet =
      omega (arith, place h 0, m.all_letters) in
      let same : cleared lettered (node_place h 0) (node_width h) ≡ fresh_image h alphabet image =
      ap (λ (k : ℕ). cleared lettered k (node_width h)) at ∙ parts h alphabet image in
      let long : length lettered ≡ length image =
      length-sets (sets image 0 (head_bytes h)) fields_len alphabet ∙ length-sets image 0
      (head_bytes h) in
      subst (λ (l : List ℕ). Blank h l 0) same
      (blank_cleared h lettered 0 (omega (arith, written)))

  table : table_in (fresh_image h alphabet image) ≡ table_of h (fresh_image h alphabet image)
  unfolding table_in
  table = ap (λ (k : Head). table_of k (fresh_image h alphabet image)) fresh_head_lem

  pub fresh_child : (q i : ℕ) → (table_in (fresh_image h alphabet image)).child q i ≡ 0
  fresh_child q i = ap (λ (t : Table). t.child q i) table ∙ go q
    where
      go : (q : ℕ) → (table_of h (fresh_image h alphabet image)).child q i ≡ 0
      go zero = blank_child h (fresh_image h alphabet image) 0 blank_root i
      go (suc q) =
          (framed h (fresh_image h alphabet image)).no_node (suc q) i (omega (arith, m.root_alone))

  pub fresh_value : (q : ℕ) → (table_in (fresh_image h alphabet image)).value q ≡ 0
  fresh_value q = ap (λ (t : Table). t.value q) table ∙ go q
    where
      go : (q : ℕ) → (table_of h (fresh_image h alphabet image)).value q ≡ 0
      go zero = blank_value h (fresh_image h alphabet image) 0 blank_root
      go (suc q) =
          (framed h (fresh_image h alphabet image)).no_data (suc q) (omega (arith, m.root_alone))

  pub fresh_answers : (k : List ℕ) → answer (table_in (fresh_image h alphabet image)) k ≡ 0
  fresh_answers [] =
      answer_complete (table_in (fresh_image h alphabet image)) [] (descend_nil _ 0)
      ∙ fresh_value 0
  fresh_answers (x ∷ xs) = answer_stopped (table_in (fresh_image h alphabet image)) (x ∷ xs)
      (descend_empty _ 0 x xs (fresh_child 0 x))

  pub fresh_accepted : Accepted (fresh_image h alphabet image)
  fresh_accepted =
      let e : head_of (fresh_image h alphabet image) ≡ h = fresh_head_lem in
      let long : length (fresh_image h alphabet image) ≡ length image = fresh_length in
      record {
        long_enough = omega (arith, lent.0);
        short_enough = omega (arith, lent.1);
        head_permitted = rw e m.judged.head_permitted;
        alphabet_good = λ b.
            rw (fresh_alphabet, e)
            (unspoilt_good h alphabet (length image) m.judged.unspoilt (rw e at b)
            (sym m.all_letters));
        room = rw (e, long) m.judged.room;
        links =
            record {
              within = λ q i. omega (arith, fresh_child q i);
              named =
                  λ x low high. absurd (omega (arith, ap (λ (k : Head). k.g) e, m.root_alone));
              once = λ q i p j full same. absurd (full (fresh_child q i));
              reached = λ c high.
                  let z : c ≡ 0 = omega (arith, ap (λ (k : Head). k.g) e, m.root_alone) in
                  ([], descend_nil _ 0 ∙ ap complete (sym z));
            };
        visible = λ k full. absurd (full (fresh_answers k));
      }

  pub fresh_keys : stored_keys (fresh_image h alphabet image) ≡ []
  unfolding stored_keys
  fresh_keys =
      let k : Head = head_of (fresh_image h alphabet image) in
      blank_keys (table_in (fresh_image h alphabet image)) k.n k.min k.max 0 (fresh_child 0)
      (fresh_value 0)
