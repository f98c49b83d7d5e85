-- What holds while the search runs, from its start to its end. A node whose number is 0 is not on
-- the stack, since the numbers there name nodes from 1 on, or G+1. So it can be put there with its
-- mark, and the stack below it stays. At the end the stack is empty: the nodes that have been met
-- hold the root and are closed under links, so no walk from the root leaves them.
use Prim.Native.Nat.{ℕ, ◌+◌, ◌*◌, ◌≤◌, ◌<◌}
use mathlib.Core.Path.{◌≡◌, refl, sym, ◌∙◌, ap}
use mathlib.Core.Logic.{◌≢◌, ◌⊎◌, inl, inr}
use mathlib.Core.List.Memᴰ
use mathlib.Core.List.{List, [], ◌∷◌, ◌++◌, Memᴰ}
use native.Mathlib.Decide.{ℕ_discrete, dec_lt}
use native.Mathlib.Omega.{arith}
use lib.ListN.{length, get_or, set, drop, replicate, length-replicate, get_or-replicate}
use lib.ListN.{get_or-append}
use lib.Seq.{get_or-set_same, get_or-set_other}
use Rattle.trie.specs.Table.{Table, complete}
use Rattle.trie.specs.Rules.{Within, Framed}
use Rattle.trie.proofs.Walk.{Walk, end, on, walk}
use Rattle.head.specs.declared.Head.{Head}
use Rattle.node.specs.Image.{table_of}
use Rattle.node.proofs.Tables.{framed}
use Rattle.reaching.specs.Reaching.{RestKept, marks, deeper_of, Marked, mark_in, below_in, Met}
use Rattle.reaching.specs.Reaching.{Searched, Stack, vacant, LinksMet, Searching}
use Rattle.reaching.proofs.Marks.{marked_root, marked_on, next_of, mark_of, next_none}
use Rattle.reaching.proofs.Vacant.{vacant_all, vacant_none, vacant_some, vacant_set}

-- ---- a node that is met

module _ (work : List ℕ) {c v : ℕ} (room : c < length work) (full : v ≢ 0) where
  met_now : Met (set work c v) c
  met_now z = full (sym (get_or-set_same work c v 0 room) ∙ z)

  met_still : (x : ℕ) → Met work x → Met (set work c v) x
  met_still x m = go (ℕ_discrete x c)
    where
      go : Dec (x ≡ c) → Met (set work c v) x
      go (yes e) = rw e met_now
      go (no e) = λ z. m (sym (get_or-set_other work c x v 0 e) ∙ z)

  met_before : (x : ℕ) → x ≢ c → Met (set work c v) x → Met work x
  met_before x e m z = m (get_or-set_other work c x v 0 e ∙ z)

-- ---- the stack

-- its top is not 0, so neither is the number of a node on the stack
stack_top : (work : List ℕ) (top last : ℕ) (p : List ℕ) → Stack work (last + 1) top p → top ≢ 0
stack_top work top last [] s z = omega arith
stack_top work top last (x ∷ p) (e, low, high, s) z = omega arith

stack_most : (work : List ℕ) (top last : ℕ) (p : List ℕ) → Stack work (last + 1) top p
    → top ≤ last + 1
stack_most work top last [] s = omega arith
stack_most work top last (x ∷ p) (e, low, high, s) = omega arith

-- a node whose number is 0 is not on it, so the stack stays when that number is set
stack_set : (work : List ℕ) (top last : ℕ) (p : List ℕ) (c v : ℕ) → get_or work c 0 ≡ 0
    → Stack work (last + 1) top p → Stack (set work c v) (last + 1) top p
stack_set work top last [] c v z s = s
stack_set work top last (x ∷ p) c v z (e, low, high, s) =
    let other : x ≢ c =
    λ w. stack_top work (below_in work x) last p s (next_none work x (rw w z)) in (
      e,
      low,
      high,
      rw (get_or-set_other work c x v 0 other) (stack_set work (below_in work x) last p c v z s),
    )

-- ---- the search

-- the root is met, and no other node
pub searching_start : (t : Table) (g n : ℕ) (work : List ℕ) → g + 1 ≤ length work
    → work ≡ replicate (g + 1) 0 ++ drop (g + 1) work
    → Searching t g n 0 0 1 (g + 1) (set work 0 ((g + 1) * marks + 1))
searching_start t g n work room e =
    record {
      pending = [];
      stack = refl;
      root = met_now work (omega arith) (λ z. omega arith);
      here = met_now work (omega arith) (λ z. omega arith);
      marked = λ x b m. go x b m (ℕ_discrete x 0);
      closed = λ x b m. inr (λ j c f. absurd (stop x b m f (ℕ_discrete x 0)));
      counted = omega (arith, vacant_all work (g + 1) clear, one_less);
    }
  where
    first : ℕ
    first = (g + 1) * marks + 1

    clear : (x : ℕ) → x < g + 1 → get_or work x 0 ≡ 0
    clear x b =
        ap (λ (w : List ℕ). get_or w x 0) e
        ∙ get_or-append (replicate (g + 1) 0) (drop (g + 1) work) 0 x
        (omega (arith, length-replicate {A = ℕ} (g + 1) 0))
        ∙ get_or-replicate (g + 1) x 0 0 b

    one_less : vacant work (g + 1) ≡ vacant (set work 0 first) (g + 1) + 1
    one_less =
        vacant_set work (g + 1) 0 first (omega arith) (clear 0 (omega arith)) (λ z. omega arith)
        (omega arith)

    only : (x : ℕ) → x ≤ g → Met (set work 0 first) x → x ≢ 0 → ⊥
    only x b m f = m (get_or-set_other work 0 x first 0 f ∙ clear x (omega arith))

    go : (x : ℕ) → x ≤ g → Met (set work 0 first) x → Dec (x ≡ 0)
        → Marked t x (mark_in (set work 0 first) x)
    go x b m (yes z) =
        rw (z, get_or-set_same work 0 first 0 (omega arith), mark_of (g + 1) 1 (omega arith))
        (marked_root t)
    go x b m (no f) = absurd (only x b m f)

    stop : {j : ℕ} (x : ℕ) → x ≤ g → Met (set work 0 first) x → (x ≡ 0 → j < 0) → Dec (x ≡ 0) → ⊥
    stop x b m f (yes z) = let y = f z in omega arith
    stop x b m f (no z) = only x b m z

module _ {t : Table} {g n q i followed top : ℕ} {work : List ℕ}
    (s : Searching t g n q i followed top work) where
  -- the link for letter i leads to a node that has been met
  pub searching_met : Met work (t.child q i) → Searching t g n q (i + 1) followed top work
  searching_met m =
      record {
        pending = s.pending;
        stack = s.stack;
        root = s.root;
        here = s.here;
        marked = s.marked;
        closed = λ x b d. wider x (s.closed x b d);
        counted = s.counted;
      }
    where
      at : (x j : ℕ) → j < n → LinksMet t n q i work x → (x ≡ q → j < i + 1) → Dec (x ≡ q)
          → Dec (j ≡ i) → Met work (t.child x j)
      at x j b f h (no e) d = f j b (λ w. absurd (e w))
      at x j b f h (yes e) (no d) = f j b (λ w. let y = h e in omega arith)
      at x j b f h (yes e) (yes d) = rw (e, d) m

      wider : (x : ℕ) → Memᴰ x s.pending ⊎ LinksMet t n q i work x
          → Memᴰ x s.pending ⊎ LinksMet t n q (i + 1) work x
      wider x (inl a) = inl a
      wider x (inr f) = inr (λ j b h. at x j b f h (ℕ_discrete x q) (ℕ_discrete j i))

  -- it leads to a node that has not been met, which is put on the stack with its mark
  push : {c mark : ℕ} → g + 1 ≤ length work → q ≤ g → c ≤ g → c ≡ t.child q i
      → get_or work c 0 ≡ 0 → mark ≡ deeper_of (mark_in work q)
      → Searching t g n q i followed c (set work c (top * marks + mark))
  push {c} {mark} room low high link z e =
      record {
        pending = c ∷ s.pending;
        stack = (
          refl,
          omega (arith, not_root),
          omega arith,
          rw (now, next_of top mark small)
              (stack_set work top g s.pending c number z s.stack),
        );
        root = still 0 s.root;
        here = still q s.here;
        marked = λ x b m. go x b m (ℕ_discrete x c);
        closed = λ x b m. again x b m (ℕ_discrete x c);
        counted = omega (arith, s.counted, one_less);
      }
    where
      number : ℕ
      number = top * marks + mark

      small : mark < marks
      small = omega arith

      not_root : c ≢ 0
      not_root f = s.root (rw f at z)

      inside : c < length work
      inside = omega arith

      now : get_or (set work c number) c 0 ≡ number
      now = get_or-set_same work c number 0 inside

      full : number ≢ 0
      full f = omega arith

      one_less : vacant work (g + 1) ≡ vacant (set work c number) (g + 1) + 1
      one_less = vacant_set work (g + 1) c number inside z full (omega arith)

      still : (x : ℕ) → Met work x → Met (set work c number) x
      still = met_still work inside full

      child : Marked t c mark
      child =
          rw e
          (marked_on (s.marked q low s.here)
          (record { letter = i; link = sym link; full = not_root }))

      go : (x : ℕ) → x ≤ g → Met (set work c number) x → Dec (x ≡ c)
          → Marked t x (mark_in (set work c number) x)
      go x b m (yes f) = rw (f, now, mark_of top mark small) child
      go x b m (no f) =
          rw (get_or-set_other work c x number 0 f)
          (s.marked x b (met_before work inside full x f m))

      more : (x : ℕ) → Memᴰ x s.pending ⊎ LinksMet t n q i work x
          → Memᴰ x (c ∷ s.pending) ⊎ LinksMet t n q i (set work c number) x
      more x (inl a) = inl (Memᴰ.tail a)
      more x (inr f) = inr (λ j b h. still (t.child x j) (f j b h))

      again : (x : ℕ) → x ≤ g → Met (set work c number) x → Dec (x ≡ c)
          → Memᴰ x (c ∷ s.pending) ⊎ LinksMet t n q i (set work c number) x
      again x b m (yes f) = inl (Memᴰ.head f)
      again x b m (no f) = more x (s.closed x b (met_before work inside full x f m))

-- the search after such a link
pub searching_new : {t : Table} {g n q i followed top : ℕ} {work : List ℕ} {c mark : ℕ}
    → Searching t g n q i followed top work → g + 1 ≤ length work → q ≤ g → c ≤ g
    → c ≡ t.child q i → get_or work c 0 ≡ 0 → mark ≡ deeper_of (mark_in work q)
    → Searching t g n q (i + 1) followed c (set work c (top * marks + mark))
searching_new {work = work} s room low high link z e =
    searching_met (push s room low high link z e)
    (rw (← link) (met_now work (omega arith) (λ f. omega arith)))

module _ {t : Table} {g n q followed top : ℕ} {work : List ℕ}
    (s : Searching t g n q n followed top work) where
  -- the node at the top of the stack is the next whose links are followed
  pub searching_pop : top < g + 1 → Searching t g n top 0 (followed + 1) (below_in work top) work
  searching_pop below = go s.pending s.stack s.closed s.counted
    where
      less : (y x : ℕ) (p : List ℕ) → top ≡ y → Memᴰ x (y ∷ p) ⊎ LinksMet t n q n work x
          → Memᴰ x p ⊎ LinksMet t n top 0 work x
      less y x p e (inl (Memᴰ.head d)) =
          inr (λ j b f. let w = f (d ∙ sym e) in absurd (omega arith))
      less y x p e (inl (Memᴰ.tail m)) = inl m
      less y x p e (inr f) = inr (λ j b h. f j b (λ w. b))

      go : (p : List ℕ) → Stack work (g + 1) top p
          → ((x : ℕ) → x ≤ g → Met work x → Memᴰ x p ⊎ LinksMet t n q n work x)
          → followed + length p + vacant work (g + 1) ≡ g + 1
          → Searching t g n top 0 (followed + 1) (below_in work top) work
      go [] e closed counted = absurd (omega arith)
      go (y ∷ p) (e, low, high, rest) closed counted =
          record {
            pending = p;
            stack = rw e rest;
            root = s.root;
            here = rw e (λ z. stack_top work (below_in work y) g p rest (next_none work y z));
            marked = s.marked;
            closed = λ x b m. less y x p e (closed x b m);
            counted = omega (arith, counted);
          }

  -- the node below it on the stack, or G+1
  pub searching_below : top < g + 1 → below_in work top ≤ g + 1
  searching_below below =
      let r = searching_pop below in stack_most work (below_in work top) g r.pending r.stack

  -- no more nodes have been followed than there are
  pub searching_room : top < g + 1 → followed < g + 1
  searching_room below = omega (arith, (searching_pop below).counted)

  -- at the end the stack is empty, so the links of every node that has been met were followed
  all_followed : g + 1 ≤ top → (x : ℕ) → x ≤ g → Met work x → LinksMet t n q n work x
  all_followed high x b m = go s.pending s.stack (s.closed x b m)
    where
      go : (p : List ℕ) → Stack work (g + 1) top p → Memᴰ x p ⊎ LinksMet t n q n work x
          → LinksMet t n q n work x
      go [] e (inl a) = absurd (Memᴰ.not-nil a)
      go [] e (inr f) = f
      go (y ∷ p) (e, low, below, rest) d = absurd (omega arith)

  -- so a walk from such a node leads to such nodes alone
  met_on : Framed t g n → Within t g → g + 1 ≤ top → {a x : ℕ} {k : List ℕ} → a ≤ g → Met work a
      → Walk t a k (complete x) → Met work x
  met_on frame within high b m end = m
  met_on frame within high b m (on {q = a} {x = j} full w) =
      met_on frame within high (within a j) (go (dec_lt j n)) w
    where
      go : Dec (j < n) → Met work (t.child a j)
      go (yes c) = all_followed high a b m j c (λ _. c)
      go (no c) = absurd (full (frame.no_letter a j (omega arith)))

  -- each node was followed, or has not been met
  each : g + 1 ≤ top → followed + vacant work (g + 1) ≡ g + 1
  each high = go s.pending s.stack s.counted
    where
      go : (p : List ℕ) → Stack work (g + 1) top p
          → followed + length p + vacant work (g + 1) ≡ g + 1
          → followed + vacant work (g + 1) ≡ g + 1
      go [] e counted = omega (arith, counted)
      go (y ∷ p) (e, low, below, rest) counted = absurd (omega arith)

  -- where fewer nodes were followed than there are, one has not been met
  one_left : g + 1 ≤ top → followed ≢ g + 1
      → (x : ℕ) × (1 ≤ x) × (x ≤ g) × (get_or work x 0 ≡ 0)
  one_left high f =
      let (x, b, z) = vacant_some work (g + 1) (λ e. f (omega (arith, each high))) in
      let not_root : x ≢ 0 = λ e. s.root (rw e at z) in
      (x, omega (arith, not_root), omega arith, z)

-- ---- the answer

pub searched : {h : Head} {l work work' : List ℕ} {q followed top : ℕ}
    → Searching (table_of h l) h.g h.n q h.n followed top work'
    → Within (table_of h l) h.g → h.g + 1 ≤ top → RestKept h.g work work'
    → Searched h l work followed work'
searched {h} {l} {work} {work'} s within high kept =
    record {
      marked = s.marked;
      unmarked = λ x b z (k, e).
          met_on s (framed h l) within high (omega arith) s.root (walk (table_of h l) 0 k e) z;
      all = λ e x b. vacant_none work' (h.g + 1) x (omega (arith, each s high)) (omega arith);
      some = one_left s high;
      kept = kept;
    }
