-- Lists of writes in groups, with a flush after each group. The groups put together are the list.
-- Of the writes since the last flush, whatever part of them landed, in however many rounds, bytes
-- before all of them stay.
-- A cut that hits one write of a list to spare bytes is one case: the writes before it landed
-- whole, and those after it not at all.
use Prim.Native.Nat.{ℕ, zero, suc, ◌≤◌, ◌<◌}
use mathlib.Core.Path.{◌≡◌, refl, sym, ap, ◌∙◌}
use mathlib.Core.Bool.{Bool, true, false, cond}
use mathlib.Core.Logic.{inl}
use mathlib.Core.List.{List, [], ◌∷◌, ◌++◌, append-nil, append_assoc, flatten}
use native.Mathlib.Omega.{arith}
use lib.Dec.{leb}
use lib.ListN.{length, get_or, set}
use lib.Seq.{sets, length-sets, set-set, set_comm}
use borrow.Author.Tests.{le-leb, lt-leb}
use Rattle.field.proofs.Sets.{get_d_outside}
use Rattle.head.specs.Fields.{fields_len, head_of, used_len}
use Rattle.head.proofs.Fields.{head_outside}
use Rattle.node.specs.Writes.{Write, carried_out}
use Rattle.node.proofs.StoreOnTable.{carried_append}
use Rattle.cuts.specs.Cut.{torn, hit, cut_after}
use Rattle.cuts.specs.Flushed.{closed, flushed, landing, landed, in_rounds, cut_since}
use Rattle.cuts.proofs.WriteLists.{From, length_torn, torn_before}

-- ---- the groups put together

flat_closed : (ws : List Write) (groups : List (List Write)) → flatten (closed ws groups)
    ≡ ws ++ flatten groups
unfolding closed flatten
flat_closed [] groups = refl
flat_closed (w ∷ ws) groups = refl

flat_cond : {r : List Write} (b : Bool) (x y : List (List Write)) → flatten x ≡ r → flatten y ≡ r
    → flatten (cond b x y) ≡ r
flat_cond true x y e f = e
flat_cond false x y e f = f

joined_since : (u : ℕ) (since ws : List Write) → flatten (flushed u since ws) ≡ since ++ ws
unfolding flushed flatten
joined_since u since [] = flat_closed since []
joined_since u since (w ∷ ws) =
    flat_cond (leb u w.place) (flushed u (since ++ (w ∷ [])) ws)
    (closed since ((w ∷ []) ∷ flushed u [] ws))
    (joined_since u (since ++ (w ∷ [])) ws ∙ append_assoc since (w ∷ []) ws)
    (flat_closed since ((w ∷ []) ∷ flushed u [] ws)
    ∙ ap (λ (r : List Write). since ++ (w ∷ r)) (joined_since u [] ws))

-- no write is lost, and none changes its place in the order
pub joined : (u : ℕ) (ws : List Write) → flatten (flushed u [] ws) ≡ ws
joined u ws = joined_since u [] ws

-- ---- which writes share a flush

-- those to spare bytes
pub flushed_spare : (u : ℕ) (since us ws : List Write) → From u us
    → flushed u since (us ++ ws) ≡ flushed u (since ++ us) ws
unfolding flushed
flushed_spare u since [] ws f = ap (λ (s : List Write). flushed u s ws) (sym (append-nil since))
flushed_spare u since (w ∷ us) ws f =
    rw (le-leb u w.place f.0) (flushed_spare u (since ++ (w ∷ [])) us ws f.1
    ∙ ap (λ (s : List Write). flushed u s ws) (append_assoc since (w ∷ []) us))

-- any other has one of its own
pub flushed_other : (u : ℕ) (since : List Write) (w : Write) (ws : List Write) → w.place < u
    → flushed u since (w ∷ ws) ≡ closed since ((w ∷ []) ∷ flushed u [] ws)
unfolding flushed
flushed_other u since w ws h = rw (lt-leb u w.place h)

-- ---- a cut after the last flush

since_flat : (k : ℕ) (rounds : List (ℕ → ℕ → Bool)) (l : List ℕ) (groups : List (List Write))
    → length groups ≤ k → cut_since k rounds l groups ≡ carried_out l (flatten groups)
unfolding cut_since carried_out flatten
since_flat k rounds l [] h = refl
since_flat zero rounds l (ws ∷ groups) h = absurd (omega arith)
since_flat (suc k) rounds l (ws ∷ groups) h =
    since_flat k rounds (carried_out l ws) groups (omega arith)
    ∙ sym (carried_append l ws (flatten groups))

-- all writes have landed
pub since_whole : (k : ℕ) (rounds : List (ℕ → ℕ → Bool)) (l : List ℕ) (u : ℕ) (ws : List Write)
    → length (flushed u [] ws) ≤ k → cut_since k rounds l (flushed u [] ws) ≡ carried_out l ws
since_whole k rounds l u ws h =
    since_flat k rounds l (flushed u [] ws) h ∙ ap (carried_out l) (joined u ws)

-- ---- the length is kept, and bytes before all writes stay

length_cond : {n : ℕ} (b : Bool) (x y : List ℕ) → length x ≡ n → length y ≡ n
    → length (cond b x y) ≡ n
length_cond true x y e f = e
length_cond false x y e f = f

length_landing : (u : ℕ) (lands : ℕ → Bool) (l : List ℕ) (w : Write)
    → length (landing u lands l w) ≡ length l
unfolding landing
length_landing u lands l w =
    let some : List ℕ = torn lands l w.place w.bytes in
    let all : List ℕ = sets l w.place w.bytes in
    length_cond (leb u w.place) some (cond (lands w.place) all l)
    (length_torn lands l w.place w.bytes)
    (length_cond (lands w.place) all l (length-sets l w.place w.bytes) refl)

length_since : (u : ℕ) (lands : ℕ → ℕ → Bool) (l : List ℕ) (ws : List Write)
    → length (landed u lands l ws) ≡ length l
unfolding landed
length_since u lands l [] = refl
length_since u lands l (w ∷ ws) =
    length_since u (λ i. lands (suc i)) (landing u (lands 0) l w) ws
    ∙ length_landing u (lands 0) l w

pub length_rounds : (u : ℕ) (rounds : List (ℕ → ℕ → Bool)) (l : List ℕ) (ws : List Write)
    → length (in_rounds u rounds l ws) ≡ length l
unfolding in_rounds
length_rounds u [] l ws = refl
length_rounds u (lands ∷ rounds) l ws =
    length_rounds u rounds (landed u lands l ws) ws ∙ length_since u lands l ws

module _ (p : ℕ) where
  get_d_cond : {n : ℕ} (b : Bool) (x y : List ℕ) → get_or x p 0 ≡ n → get_or y p 0 ≡ n
      → get_or (cond b x y) p 0 ≡ n
  get_d_cond true x y e f = e
  get_d_cond false x y e f = f

  landing_before : (u : ℕ) (lands : ℕ → Bool) (l : List ℕ) (w : Write) → p < w.place
      → get_or (landing u lands l w) p 0 ≡ get_or l p 0
  unfolding landing
  landing_before u lands l w h =
      let some : List ℕ = torn lands l w.place w.bytes in
      let all : List ℕ = sets l w.place w.bytes in
      get_d_cond (leb u w.place) some (cond (lands w.place) all l)
      (torn_before p lands l w.place w.bytes h)
      (get_d_cond (lands w.place) all l (get_d_outside l w.bytes w.place p 0 (inl h)) refl)

  since_before : (u : ℕ) (lands : ℕ → ℕ → Bool) (l : List ℕ) (ws : List Write)
      → From (suc p) ws → get_or (landed u lands l ws) p 0 ≡ get_or l p 0
  unfolding landed
  since_before u lands l [] f = refl
  since_before u lands l (w ∷ ws) f =
      since_before u (λ i. lands (suc i)) (landing u (lands 0) l w) ws f.1
      ∙ landing_before u (lands 0) l w f.0

  pub rounds_before : (u : ℕ) (rounds : List (ℕ → ℕ → Bool)) (l : List ℕ) (ws : List Write)
      → From (suc p) ws → get_or (in_rounds u rounds l ws) p 0 ≡ get_or l p 0
  unfolding in_rounds
  rounds_before u [] l ws f = refl
  rounds_before u (lands ∷ rounds) l ws f =
      rounds_before u rounds (landed u lands l ws) ws f ∙ since_before u lands l ws f

-- ---- a group of one write that does not go to spare bytes

since_other : (u : ℕ) (lands : ℕ → ℕ → Bool) (l : List ℕ) (w : Write) → w.place < u
    → landed u lands l (w ∷ [])
    ≡ cond (lands 0 w.place) (sets l w.place w.bytes) l
unfolding landed landing
since_other u lands l w h = rw (lt-leb u w.place h)

-- a byte that stands before a write may be set before that write or after it
set_first : (l : List ℕ) (i a at : ℕ) (bs : List ℕ) → i < at
    → set (sets l at bs) i a ≡ sets (set l i a) at bs
set_first l i a at [] h = refl
set_first l i a at (b ∷ bs) h =
    set_first (set l at b) i a (suc at) bs (omega arith)
    ∙ ap (λ (m : List ℕ). sets m (suc at) bs) (set_comm l at i b a (omega arith))

-- a write that lands a second time changes nothing
sets_twice : (l : List ℕ) (at : ℕ) (bs : List ℕ) → sets (sets l at bs) at bs ≡ sets l at bs
sets_twice l at [] = refl
sets_twice l at (b ∷ bs) =
    ap (λ (m : List ℕ). sets m (suc at) bs)
    (set_first (set l at b) at b (suc at) bs (omega arith)
    ∙ ap (λ (m : List ℕ). sets m (suc at) bs) (set-set l at b b))
    ∙ sets_twice (set l at b) (suc at) bs

-- whether the first write of a group landed in one of the rounds
abbrev pub in_one : List (ℕ → ℕ → Bool) → ℕ → Bool
in_one [] p = false
in_one (lands ∷ rounds) p = cond (lands 0 p) true (in_one rounds p)

pub rounds_other : (u : ℕ) (rounds : List (ℕ → ℕ → Bool)) (l : List ℕ) (w : Write)
    → w.place < u → in_rounds u rounds l (w ∷ [])
    ≡ cond (in_one rounds w.place) (sets l w.place w.bytes) l
unfolding in_rounds
rounds_other u [] l w h = refl
rounds_other u (lands ∷ rounds) l w h =
    ap (λ (m : List ℕ). in_rounds u rounds m (w ∷ [])) (since_other u lands l w h)
    ∙ go (lands 0 w.place) (rounds_other u rounds all w h) (rounds_other u rounds l w h)
  where
    all : List ℕ
    all = sets l w.place w.bytes

    go : (b : Bool)
        → in_rounds u rounds all (w ∷ [])
        ≡ cond (in_one rounds w.place) (sets all w.place w.bytes) all
        → in_rounds u rounds l (w ∷ []) ≡ cond (in_one rounds w.place) all l
        → in_rounds u rounds (cond b all l) (w ∷ [])
        ≡ cond (cond b true (in_one rounds w.place)) all l
    go true again first = again ∙ same (in_one rounds w.place)
      where
        same : (b : Bool) → cond b (sets all w.place w.bytes) all ≡ all
        same true = sets_twice l w.place w.bytes
        same false = refl
    go false again first = first

-- ---- all of the bytes landed, or none

torn_all : (l : List ℕ) (at : ℕ) (bs : List ℕ) → torn (λ p. true) l at bs ≡ sets l at bs
unfolding torn
torn_all l at [] = refl
torn_all l at (b ∷ bs) = torn_all (set l at b) (suc at) bs

torn_none : (l : List ℕ) (at : ℕ) (bs : List ℕ) → torn (λ p. false) l at bs ≡ l
unfolding torn
torn_none l at [] = refl
torn_none l at (b ∷ bs) = torn_none l (suc at) bs

landing_none : (u : ℕ) (l : List ℕ) (w : Write) → landing u (λ p. false) l w ≡ l
unfolding landing
landing_none u l w = go (leb u w.place)
  where
    go : (b : Bool) → cond b (torn (λ p. false) l w.place w.bytes) l ≡ l
    go true = torn_none l w.place w.bytes
    go false = refl

since_none : (u : ℕ) (l : List ℕ) (ws : List Write) → landed u (λ i p. false) l ws ≡ l
unfolding landed
since_none u l [] = refl
since_none u l (w ∷ ws) =
    ap (λ (m : List ℕ). landed u (λ i p. false) m ws) (landing_none u l w) ∙ since_none u l ws

-- ---- the cut that hits one write

-- the writes before write k landed whole, of write k those bytes that `lands` names, and nothing
-- of a later write
abbrev pub up_to : ℕ → (ℕ → Bool) → ℕ → ℕ → Bool
up_to zero lands zero p = lands p
up_to zero lands (suc i) p = false
up_to (suc k) lands zero p = true
up_to (suc k) lands (suc i) p = up_to k lands i p

landing_spare : (u : ℕ) (lands : ℕ → Bool) (l : List ℕ) (w : Write) → u ≤ w.place
    → landing u lands l w ≡ torn lands l w.place w.bytes
unfolding landing
landing_spare u lands l w h = rw (le-leb u w.place h)

hit_spare : (u : ℕ) (lands : ℕ → Bool) (l : List ℕ) (w : Write) → used_len (head_of l) ≡ u
    → u ≤ w.place → hit lands l w ≡ torn lands l w.place w.bytes
unfolding hit
hit_spare u lands l w e h = rw (e, le-leb u w.place h)

pub cut_since_lem : (k : ℕ) (lands : ℕ → Bool) (u : ℕ) (l : List ℕ) (us ws : List Write)
    → used_len (head_of l) ≡ u → fields_len ≤ u → From u us → k < length us
    → cut_after k lands l (us ++ ws) ≡ landed u (up_to k lands) l us
unfolding cut_after landed
cut_since_lem k lands u l [] ws e a f h = absurd (omega arith)
cut_since_lem zero lands u l (w ∷ us) ws e a f h =
    hit_spare u lands l w e f.0
    ∙ sym (since_none u (landing u lands l w) us ∙ landing_spare u lands l w f.0)
cut_since_lem (suc k) lands u l (w ∷ us) ws e a f h =
    let next : List ℕ = sets l w.place w.bytes in
    let same : head_of next ≡ head_of l = head_outside l w.bytes w.place (omega arith) in
    cut_since_lem k lands u next us ws (ap used_len same ∙ e) a f.1 (omega arith)
    ∙ ap (λ (m : List ℕ). landed u (up_to k lands) m us)
    (sym (landing_spare u (λ p. true) l w f.0 ∙ torn_all l w.place w.bytes))
