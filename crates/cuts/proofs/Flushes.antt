-- 02, Ask 1, with three flushes in a store instead of one for each write: "After a cut anywhere, a
-- mending call with enough working numbers must leave the answers from before the store or after
-- it." Of the new nodes any bytes may have landed, in any order: all of them are spare bytes until
-- G has landed. G and the link are alone since the last flush, and land whole or not at all. So it
-- is after any number of rounds, in which starts wrote the same bytes back and were cut in turn.
use Prim.Native.Nat.{ℕ, zero, suc, ◌+◌, ◌-◌, ◌≤◌, ◌<◌}
use mathlib.Core.Path.{◌≡◌, refl, sym, ap, subst, ◌∙◌}
use mathlib.Core.Bool.{Bool, true, false, cond}
use mathlib.Core.Logic.{◌⊎◌, inl, inr}
use mathlib.Core.List.{List, [], ◌∷◌, ◌++◌}
use native.Mathlib.Numerals.{add-one}
use native.Mathlib.Decide.{dec_lt}
use native.Mathlib.Omega.{arith}
use lib.ListN.{length, get_or}
use Rattle.trie.specs.Table.{Descent, complete, stopped, descend}
use Rattle.trie.proofs.Walk.{complete_within}
use Rattle.head.specs.declared.Head.{Head}
use Rattle.head.specs.Fields.{head_of, node_place, used_len}
use Rattle.head.proofs.Permitted.{bounds}
use Rattle.node.specs.Image.{link_place, data_place}
use Rattle.node.specs.Writes.{Write, carried_out, new_nodes, total_write, link_write, data_write}
use Rattle.node.specs.Writes.{store_writes}
use Rattle.node.proofs.FieldPlaces.{link_inside, data_inside, inside_used}
use Rattle.paper.specs.Given.{Given, key_in}
use Rattle.paper.specs.Calls.{table_in, writes_in, stored_image, store_of}
use Rattle.paper.specs.Accepted.{Accepted}
use Rattle.paper.specs.Granted.{Granted}
use Rattle.paper.proofs.StoreCall.{able, accepted_again, store_granted}
use Rattle.cuts.specs.Cut.{cut_after}
use Rattle.cuts.specs.Flushed.{closed, flushed, groups_in, in_rounds, cut_since}
use Rattle.cuts.specs.Mended.{MendsTo}
use Rattle.cuts.proofs.WriteLists.{From, from_before, cut_append, hit_none}
use Rattle.cuts.proofs.WriteGroups.{flushed_spare, flushed_other, since_whole}
use Rattle.cuts.proofs.WriteGroups.{length_rounds, rounds_before, in_one, rounds_other}
use Rattle.cuts.proofs.WriteGroups.{up_to, cut_since_lem}
use Rattle.cuts.proofs.Cuts.{Before, mends_kept, nodes_from, last, mends_lowered}
use Rattle.cuts.proofs.Cuts.{looks_begun, link_used}
use Rattle.seen.specs.Seen.{SameUsed}
use Rattle.seen.proofs.Seen.{before_used}
use Rattle.seen.proofs.SameCalls.{alike_itself, agree_alike}

-- mending leaves an accepted image as it is
kept : (l work : List ℕ) → Accepted l → Before l work l
kept l work a = mends_kept l work l (alike_itself 0 l) a

-- the cut left an image that mending gives the answers from before the store, or the very image
-- from after it
abbrev Halves : List ℕ → List ℕ → List ℕ → List ℕ → Type 0
Halves l after work r = Before l work r ⊎ (r ≡ after)

-- the cut left what one after some flushes can leave
abbrev Case : List ℕ → List (List Write) → List ℕ → Type 0
Case l groups r = (j : ℕ) × (rounds : List (ℕ → ℕ → Bool)) × (r ≡ cut_since j rounds l groups)

-- ---- new nodes

-- they are one at least, so they are a group
closed_nodes : (h : Head) (q : ℕ) (ys : List ℕ) (v : ℕ) (groups : List (List Write))
    → closed (new_nodes h q ys v) groups ≡ new_nodes h q ys v ∷ groups
unfolding closed new_nodes
closed_nodes h q [] v groups = refl
closed_nodes h q (y ∷ ys) v groups = refl

module _ {l key : List ℕ} {v : ℕ} (s : Granted l key (suc v)) {q x : ℕ} {xs : List ℕ}
    (e : descend (table_in l) 0 key ≡ stopped q x xs) where
  abbrev h : Head
  h = head_of l

  abbrev u : ℕ
  u = used_len h

  abbrev nodes : List Write
  nodes = new_nodes h (suc h.g) xs (suc v)

  abbrev total : Write
  total = total_write (h.g + suc (length xs))

  abbrev link : Write
  link = link_write h q x (suc h.g)

  abbrev groups : List (List Write)
  groups = nodes ∷ (total ∷ []) ∷ (link ∷ []) ∷ []

  -- all new nodes are in spare bytes
  all_spare : From u nodes
  unfolding used_len
  all_spare =
      from_before u (node_place h (suc h.g)) nodes
      (omega (arith, ap (node_place h) (add-one h.g))) (nodes_from h (suc h.g) xs (suc v))

  link_below : link_place h q x < u
  link_below =
      omega (
        arith,
        inside_used (link_inside h q (able s e).letters.0) (able s e).node,
        (bounds h s.accepted.head_permitted).a_least,
      )

  -- "first the new nodes", all in one group, "then G, then the old link", each in its own
  pub groups_new : groups_in l key (suc v) ≡ groups
  unfolding store_writes total_write link_write closed flushed
  groups_new =
      ap (λ (d : Descent). flushed u [] (store_writes h d (suc v))) e
      ∙ flushed_spare u [] nodes (total ∷ link ∷ []) all_spare
      ∙ flushed_other u nodes total (link ∷ []) (omega (arith, before_used h))
      ∙ ap (λ (r : List (List Write)). closed nodes ((total ∷ []) ∷ r))
      (flushed_other u [] link [] link_below)
      ∙ closed_nodes h (suc h.g) xs (suc v) ((total ∷ []) ∷ (link ∷ []) ∷ [])

  -- ---- a cut among the nodes

  -- the image that it left
  abbrev pub among : List (ℕ → ℕ → Bool) → List ℕ
  among rounds = in_rounds u rounds l nodes

  -- whatever of the nodes landed, the bytes up to U are as before the store
  pub among_below : (rounds : List (ℕ → ℕ → Bool)) (p : ℕ) → p < u
      → get_or (among rounds) p 0 ≡ get_or l p 0
  among_below rounds p b = rounds_before p u rounds l nodes
      (from_before (suc p) u nodes b all_spare)

  pub among_length : (rounds : List (ℕ → ℕ → Bool)) → length (among rounds) ≡ length l
  among_length rounds = length_rounds u rounds l nodes

  looks_among : (rounds : List (ℕ → ℕ → Bool)) → SameUsed 0 (among rounds) l
  looks_among rounds = agree_alike (among rounds) l (among_length rounds) (among_below rounds)

  -- ---- a cut after the nodes

  -- the image with the new nodes, and that with the new G too
  abbrev begun : List ℕ
  begun = carried_out l nodes

  abbrev counted : List ℕ
  counted = carried_out begun (total ∷ [])

  -- G has landed or not
  at_total : (rounds : List (ℕ → ℕ → Bool)) (work : List ℕ)
      → Before l work (in_rounds (used_len (head_of begun)) rounds begun (total ∷ []))
  unfolding total_write carried_out
  at_total rounds work =
      subst (Before l work)
      (sym (rounds_other (used_len (head_of begun)) rounds begun total
      (omega (arith, before_used (head_of begun)))))
      (go (in_one rounds 0))
    where
      go : (b : Bool) → Before l work (cond b counted begun)
      go true = mends_lowered s e work
      go false = mends_kept begun work l (looks_begun s e) s.accepted

  before_last : (rounds : List (ℕ → ℕ → Bool)) (work : List ℕ) (k : ℕ) → k < 2
      → Before l work (cut_since k rounds l groups)
  unfolding cut_since
  before_last rounds work zero b =
      mends_kept (among rounds) work l (looks_among rounds) s.accepted
  before_last rounds work (suc zero) b = at_total rounds work
  before_last rounds work (suc (suc k)) b = absurd (omega arith)

  -- the link has landed or not
  at_link : (rounds : List (ℕ → ℕ → Bool)) (work : List ℕ)
      → Halves l (stored_image l key (suc v)) work
      (in_rounds (used_len (head_of counted)) rounds counted (link ∷ []))
  unfolding total_write link_write carried_out
  at_link rounds work =
      subst (Halves l (stored_image l key (suc v)) work)
      (sym (rounds_other (used_len (head_of counted)) rounds counted link (link_used s e)))
      (go (in_one rounds (link_place h q x)))
    where
      go : (b : Bool) → Halves l (stored_image l key (suc v)) work
          (cond b (carried_out counted (link ∷ [])) counted)
      go true = inr (sym (last s e))
      go false = inl (mends_lowered s e work)

  halves_new : (rounds : List (ℕ → ℕ → Bool)) (work : List ℕ) (k : ℕ)
      → Halves l (stored_image l key (suc v)) work (cut_since k rounds l groups)
  unfolding cut_since carried_out total_write link_write
  halves_new rounds work zero = inl (before_last rounds work 0 (omega arith))
  halves_new rounds work (suc zero) = inl (before_last rounds work 1 (omega arith))
  halves_new rounds work (suc (suc zero)) = at_link rounds work
  halves_new rounds work (suc (suc (suc k))) = inr (sym (last s e))

  -- ---- a cut that hits one write is one of these

  -- G, the link, or none
  case_later : (lands : ℕ → Bool) (j : ℕ)
      → Case l groups (cut_after j lands begun (total ∷ link ∷ []))
  unfolding cut_after cut_since carried_out total_write link_write
  case_later lands zero = (
    1,
    [],
    hit_none lands begun total (omega (arith, before_used (head_of begun))),
  )
  case_later lands (suc zero) = (
    2,
    [],
    hit_none lands counted link (link_used s e),
  )
  case_later lands (suc (suc j)) = (3, [], refl)

  -- a new node, or a later write
  case_new : (lands : ℕ → Bool) (k : ℕ)
      → Case l groups (cut_after k lands l (nodes ++ (total ∷ link ∷ [])))
  unfolding cut_since in_rounds
  case_new lands k = go (dec_lt k (length nodes))
    where
      two : List Write
      two = total ∷ link ∷ []

      go : Dec (k < length nodes) → Case l groups (cut_after k lands l (nodes ++ two))
      go (yes c) = (
        0,
        up_to k lands ∷ [],
        cut_since_lem k lands u l nodes two refl (omega (arith, before_used h)) all_spare c,
      )
      go (no c) =
          let j : ℕ = k - length nodes in
          let at : k ≡ length nodes + j = omega arith in
          subst (Case l groups) (sym (ap (λ (i : ℕ). cut_after i lands l (nodes ++ two)) at
          ∙ cut_append j lands l nodes two)) (case_later lands j)

-- ---- a complete path

module _ {l key : List ℕ} {value : ℕ} (s : Granted l key value) {q : ℕ}
    (e : descend (table_in l) 0 key ≡ complete q) where
  abbrev field : Write
  field = data_write (head_of l) q value

  data_below : data_place (head_of l) q < used_len (head_of l)
  data_below =
      let h : Head = head_of l in
      let within = complete_within (table_in l) h.g key s.accepted.links.within e in
      omega (
        arith,
        inside_used (data_inside h q) within,
        (bounds h s.accepted.head_permitted).d_least,
      )

  -- "the data field alone"
  pub groups_data : groups_in l key value ≡ (field ∷ []) ∷ []
  unfolding store_writes data_write closed flushed
  groups_data =
      ap (λ (d : Descent). flushed (used_len (head_of l)) [] (store_writes (head_of l) d value)) e
      ∙ flushed_other (used_len (head_of l)) [] field [] data_below

  -- so it takes one flush
  pub one_flush : length (groups_in l key value) ≡ 1
  one_flush = ap length groups_data

  stored_data : carried_out l (field ∷ []) ≡ stored_image l key value
  unfolding stored_image store_writes
  stored_data = sym (ap (λ (d : Descent). carried_out l (store_writes (head_of l) d value)) e)

  -- it has landed or not
  halves_data : (rounds : List (ℕ → ℕ → Bool)) (work : List ℕ) (k : ℕ)
      → Halves l (stored_image l key value) work (cut_since k rounds l ((field ∷ []) ∷ []))
  unfolding cut_since data_write carried_out
  halves_data rounds work zero =
      subst (Halves l (stored_image l key value) work)
      (sym (rounds_other (used_len (head_of l)) rounds l field data_below))
      (go (in_one rounds (data_place (head_of l) q)))
    where
      go : (b : Bool) → Halves l (stored_image l key value) work
          (cond b (carried_out l (field ∷ [])) l)
      go true = inr stored_data
      go false = inl (kept l work s.accepted)
  halves_data rounds work (suc k) = inr stored_data

  -- a cut that hits one write is one of these
  case_data : (lands : ℕ → Bool) (k : ℕ)
      → Case l ((field ∷ []) ∷ []) (cut_after k lands l (field ∷ []))
  unfolding cut_after cut_since carried_out data_write
  case_data lands zero = (
    0,
    [],
    hit_none lands l field data_below,
  )
  case_data lands (suc k) = (1, [], refl)

-- ---- how many flushes

-- "Path incomplete and value 0: nothing changes"
pub groups_none : (l key : List ℕ) {q x : ℕ} {xs : List ℕ}
    → descend (table_in l) 0 key ≡ stopped q x xs → groups_in l key 0 ≡ []
unfolding store_writes flushed closed
groups_none l key e =
    ap (λ (d : Descent). flushed (used_len (head_of l)) [] (store_writes (head_of l) d 0)) e

pub three_flushes : {l key : List ℕ} {value : ℕ} → Granted l key value
    → length (groups_in l key value) ≤ 3
three_flushes {l} {key} {value} s = go (descend (table_in l) 0 key) value refl s
  where
    go : (d : Descent) (v : ℕ) → descend (table_in l) 0 key ≡ d → Granted l key v
        → length (groups_in l key v) ≤ 3
    go (complete q) v e t = omega (arith, one_flush t e)
    go (stopped q x xs) zero e t = omega (arith, ap length (groups_none l key e))
    go (stopped q x xs) (suc v) e t = omega (arith, ap length (groups_new t e))

-- ---- the theorem

-- what mending leaves after a cut after k flushes, which left the image `cut`
pub record MendedSince (l key : List ℕ) (value k : ℕ) (cut work : List ℕ) : Type 0 where
  -- "the answers from before the store or after it"; those from after it where all writes landed
  pub either : MendsTo cut work l
      ⊎ ((cut ≡ stored_image l key value) × MendsTo cut work (stored_image l key value))
  -- those from before it where no write of the last group was issued
  pub early : k + 1 < length (groups_in l key value) → MendsTo cut work l
  -- after the last flush all landed
  pub late : length (groups_in l key value) ≤ k → cut ≡ stored_image l key value

-- wherever the cut is, whatever landed, and however many starts wrote back and were cut in turn
abbrev pub MendedFlushed : List ℕ → List ℕ → ℕ → Type 0
MendedFlushed l key value =
    (k : ℕ) (rounds : List (ℕ → ℕ → Bool)) (work : List ℕ)
    → (head_of (cut_since k rounds l (groups_in l key value))).g + 1 ≤ length work
    → MendedSince l key value k (cut_since k rounds l (groups_in l key value)) work

module _ (l : List ℕ) (k : ℕ) (rounds : List (ℕ → ℕ → Bool)) (work : List ℕ) where
  -- of a store that leaves `after` and has these groups
  abbrev Parts : List ℕ → List (List Write) → Type 0
  Parts after groups =
      Halves l after work (cut_since k rounds l groups)
      × (k + 1 < length groups → Before l work (cut_since k rounds l groups))

  parts : {key : List ℕ} {value : ℕ} → Granted l key value
      → Parts (stored_image l key value) (groups_in l key value)
  unfolding cut_since
  parts {key} {value} s = go (descend (table_in l) 0 key) value refl s
    where
      go : (d : Descent) (v : ℕ) → descend (table_in l) 0 key ≡ d → Granted l key v
          → Parts (stored_image l key v) (groups_in l key v)
      go (complete q) v e t =
          rw (groups_data t e) (halves_data t e rounds work k, λ b. absurd (omega arith))
      go (stopped q x xs) zero e t =
          rw (groups_none l key e)
          (inl (kept l work t.accepted), λ b. absurd (omega arith))
      go (stopped q x xs) (suc v) e t =
          rw (groups_new t e)
          (halves_new t e rounds work k, λ b. before_last t e rounds work k (omega arith))

-- after the last flush, granted or not
pub flushed_whole : (l key : List ℕ) (value k : ℕ) (rounds : List (ℕ → ℕ → Bool))
    → length (groups_in l key value) ≤ k
    → cut_since k rounds l (groups_in l key value) ≡ stored_image l key value
unfolding stored_image
flushed_whole l key value k rounds b =
    since_whole k rounds l (used_len (head_of l)) (writes_in l key value) b

pub flushed_cut : {l key : List ℕ} {value : ℕ} → Granted l key value → MendedFlushed l key value
flushed_cut {l} {key} {value} s k rounds work lent =
    let p = parts l k rounds work s in
    record {
      either = go p.0;
      early = λ b. p.1 b lent;
      late = flushed_whole l key value k rounds;
    }
  where
    cut : List ℕ
    cut = cut_since k rounds l (groups_in l key value)

    after : List ℕ
    after = stored_image l key value

    go : Halves l after work cut → MendsTo cut work l ⊎ ((cut ≡ after) × MendsTo cut work after)
    go (inl before) = inl (before lent)
    go (inr same) =
        inr (same, subst (Before after work) (sym same) (kept after work (accepted_again s)) lent)

-- ---- for a store whose answer is done

pub flushed_store : (l work : List ℕ) (given : Given) (value : ℕ)
    → (store_of l work given value).numbers.number ≡ 0 → MendedFlushed l (key_in l given) value
flushed_store l work given value z = flushed_cut (store_granted l work given value z)

-- ---- flushing after every write

-- every cut that hits one write, with a flush after each write, is a cut with three flushes
pub cut_is_flushed : {l key : List ℕ} {value : ℕ} → Granted l key value → (k : ℕ)
    (lands : ℕ → Bool)
    → (j : ℕ) × (some : List (ℕ → ℕ → Bool))
    × (cut_after k lands l (writes_in l key value) ≡ cut_since j some l (groups_in l key value))
unfolding store_writes cut_after cut_since
cut_is_flushed {l} {key} {value} s k lands = go (descend (table_in l) 0 key) value refl s
  where
    go : (d : Descent) (v : ℕ) → descend (table_in l) 0 key ≡ d → Granted l key v
        → Case l (groups_in l key v) (cut_after k lands l (store_writes (head_of l) d v))
    go (complete q) v e t = rw (groups_data t e) (case_data t e lands k)
    go (stopped q x xs) zero e t = rw (groups_none l key e) (0, [], refl)
    go (stopped q x xs) (suc v) e t = rw (groups_new t e) (case_new t e lands k)
