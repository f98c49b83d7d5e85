-- From a list that begins with G+1 zeros to the counts worked out. What the walk from the root
-- adds for a node is that node's count. So after the walk the list begins with the counts. From
-- G+1 on it keeps what it held, since the image has no such node.
use Prim.Native.Nat.{ℕ, ◌+◌, ◌-◌, ◌^◌, ◌<◌, ◌≤◌}
use native.Mathlib.Decide.{dec_lt}
use native.Mathlib.Nat.{sub-zero, zero-add}
use native.Mathlib.Omega.{arith}
use mathlib.Core.Bool.{Bool, true}
use mathlib.Core.List.{List, ◌++◌}
use mathlib.Core.Path.{◌≡◌, sym, ◌∙◌, ap}
use lib.ListN.{length, get_or, set, drop, replicate, length-append, length-drop, length-replicate}
use lib.ListN.{get_or-replicate, get_or-append}
use lib.Seq.{sets-eq, ext_get_or, get_or-append-add, get_or-drop}
use Rattle.head.specs.declared.Head.{Head}
use Rattle.head.specs.Fields.{head_of}
use Rattle.node.specs.Image.{table_of}
use Rattle.depths.specs.Depths.{KeysBelow}
use Rattle.tallying.proofs.Clearing.{cleared_rest, cleared_again}
use Rattle.passing.proofs.Weights.{weight_count}
use Rattle.passing.proofs.Reached.{count_few, count_outside, each_length, each_at}
use Rattle.paper.specs.Calls.{table_in, stored_keys}
use Rattle.paper.specs.Accepted.{Accepted}
use Rattle.paper.proofs.CheckCall.{accepted_linked}
use Rattle.paper.proofs.NextKeyCall.{counted_fits}
use Rattle.position.specs.Counts.{count_in, counts_in}
use Rattle.position.specs.Calls.{worked}
use Rattle.weighing.specs.Weighing.{weight, SumsFit, Weighed}
use Rattle.weighing.proofs.KeysLeft.{owned}
use Rattle.weighing.proofs.Weighing.{weighed_leaf}

-- ---- a list whose first n numbers are replaced by as many others

module _ (front list : List ℕ) {n : ℕ} (size : length front ≡ n) where
  front_length : n ≤ length list → length (front ++ drop n list) ≡ length list
  front_length room = omega (arith, length-append front (drop n list), length-drop n list, size)

  in_front_lem : (q : ℕ) → q < n → get_or (front ++ drop n list) q 0 ≡ get_or front q 0
  in_front_lem q low = get_or-append front (drop n list) 0 q (omega arith)

  past_front : (q : ℕ) → n ≤ q → get_or (front ++ drop n list) q 0 ≡ get_or list q 0
  past_front q high =
      let e : q ≡ length front + (q - n) = omega arith in
      let f : n + (q - n) ≡ q = omega arith in
      ap (λ (x : ℕ). get_or (front ++ drop n list) x 0) e
      ∙ get_or-append-add front (drop n list) (q - n) 0
      ∙ get_or-drop n list (q - n) 0
      ∙ ap (λ (x : ℕ). get_or list x 0) f

-- ---- the counts

module _ {l : List ℕ} (a : Accepted l) where
  weight_root : (q : ℕ) → weight (head_of l) l 0 0 q ≡ count_in l q
  unfolding count_in table_in
  weight_root q =
      rw (sub-zero (head_of l).min, sub-zero (head_of l).max)
      (weight_count (accepted_linked a) (head_of l).min (head_of l).max q)

  count_fits : (q : ℕ) → count_in l q < 2 ^ 32
  unfolding count_in stored_keys
  count_fits q =
      omega (
        arith,
        count_few (table_in l) (head_of l).n (head_of l).min (head_of l).max q,
        counted_fits a,
      )

  count_none : (q : ℕ) → (head_of l).g < q → count_in l q ≡ 0
  unfolding count_in
  count_none q out =
      count_outside (table_in l) (head_of l).g (head_of l).n (head_of l).min (head_of l).max q
      (accepted_linked a).within out

  -- `start` is the list before the walk
  module _ {h : Head} (same : h ≡ head_of l) (list : List ℕ) {start : List ℕ}
      (clear : start ≡ replicate (h.g + 1) 0 ++ drop (h.g + 1) list) where
    zeros : length (replicate {A = ℕ} (h.g + 1) 0) ≡ h.g + 1
    zeros = length-replicate (h.g + 1) 0

    start_front : (q : ℕ) → q ≤ h.g → get_or start q 0 ≡ 0
    start_front q low =
        ap (λ (s : List ℕ). get_or s q 0) clear
        ∙ in_front_lem (replicate (h.g + 1) 0) list zeros q (omega arith)
        ∙ get_or-replicate (h.g + 1) q 0 0 (omega arith)

    start_past : (q : ℕ) → h.g < q → get_or start q 0 ≡ get_or list q 0
    start_past q high = ap (λ (s : List ℕ). get_or s q 0) clear
        ∙ past_front (replicate (h.g + 1) 0)
        list zeros q (omega arith)

    pub start_length : h.g + 1 ≤ length list → length start ≡ length list
    start_length room = ap length clear ∙ front_length (replicate (h.g + 1) 0) list zeros room

    weight_counts : (q : ℕ) → weight h l 0 0 q ≡ count_in l q
    weight_counts q = rw same (weight_root q)

    outside : (q : ℕ) → h.g < q → count_in l q ≡ 0
    outside q out = count_none q (omega (arith, out, ap (λ (k : Head). k.g) same))

    -- what the walk adds fits 32 bits
    pub fits_start : ((q : ℕ) → get_or start q 0 < 2 ^ 32) → SumsFit h l 0 0 start
    fits_start known q = go (dec_lt h.g q)
      where
        go : Dec (h.g < q) → get_or start q 0 + weight h l 0 0 q < 2 ^ 32
        go (yes out) = omega (arith, known q, weight_counts q, outside q out)
        go (no low) = omega (arith, start_front q (omega arith), weight_counts q, count_fits q)

    -- what the walk leaves
    counts_size : length (counts_in l) ≡ h.g + 1
    unfolding counts_in
    counts_size =
        omega (arith, each_length (count_in l) 0 ((head_of l).g + 1), ap (λ (k : Head). k.g) same)

    counts_at : (q : ℕ) → q ≤ h.g → get_or (counts_in l) q 0 ≡ count_in l q
    unfolding counts_in
    counts_at q low =
        each_at (count_in l) 0 ((head_of l).g + 1) q (omega (arith, ap (λ (k : Head). k.g) same))
        ∙ ap (count_in l) (zero-add q)

    counts_front : h.g + 1 ≤ length list → worked l list ≡ counts_in l ++ drop (h.g + 1) list
    unfolding worked
    counts_front room =
        let e : 0 + length (counts_in l) ≡ h.g + 1 = omega (arith, counts_size) in
        sets-eq (counts_in l) list 0 (omega arith) ∙ ap (λ (x : ℕ). counts_in l ++ drop x list) e

    pub weighed_worked : {list' : List ℕ} → h.g + 1 ≤ length list → Weighed h l 0 0 start list'
        → list' ≡ worked l list
    weighed_worked {list'} room w =
        ext_get_or
        0
        list'
        (counts_in l ++ drop (h.g + 1) list)
        (w.long ∙ start_length room ∙ sym (front_length (counts_in l) list counts_size room))
        (λ q _. go q (dec_lt h.g q))
        ∙ sym (counts_front room)
      where
        go : (q : ℕ) → Dec (h.g < q) → get_or list' q 0
            ≡ get_or (counts_in l ++ drop (h.g + 1) list)
            q 0
        go q (yes out) =
            omega (
              arith,
              w.each q,
              start_past q out,
              weight_counts q,
              outside q out,
              past_front (counts_in l) list counts_size q (omega arith),
            )
        go q (no low) =
            omega (
              arith,
              w.each q,
              start_front q (omega arith),
              weight_counts q,
              in_front_lem (counts_in l) list counts_size q (omega arith),
              counts_at q (omega arith),
            )

    -- if no key lies below the root, its own key alone is counted
    pub leaf_worked : {own : ℕ} {r : Bool} → h.g + 1 ≤ length list
        → own ≡ owned h (table_of h l) 0 0
        → KeysBelow h (table_of h l) 0 0 r → r ≡ true → set start 0 own ≡ worked l list
    leaf_worked {own} room e b z =
        let blank : own ≡ get_or start 0 0 + own = omega (arith, start_front 0 (omega arith)) in
        ap (set start 0) blank ∙ weighed_worked room
        (weighed_leaf h l 0 0 start e b z (omega (arith, start_length room)))

  -- a list whose first G+1 numbers were cleared has the same length, begins with zeros, and gets
  -- the same counts
  module _ {h : Head} (same : h ≡ head_of l) (list : List ℕ) {start : List ℕ}
      (clear : start ≡ replicate (h.g + 1) 0 ++ drop (h.g + 1) list)
      (room : h.g + 1 ≤ length list) where
    pub cleared_room : h.g + 1 ≤ length start
    cleared_room = omega (arith, room, start_length same list clear room)

    pub cleared_start : start ≡ replicate (h.g + 1) 0 ++ drop (h.g + 1) start
    cleared_start = cleared_again (h.g + 1) list clear

    pub cleared_worked : worked l start ≡ worked l list
    cleared_worked =
        counts_front same start cleared_start cleared_room
        ∙ ap (counts_in l ++◌) (cleared_rest (h.g + 1) list clear)
        ∙ sym (counts_front same list clear room)
