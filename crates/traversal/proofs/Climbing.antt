-- The climb along a path. The keys still to come are those below the path's end, then those
-- still to come from the node before it. If there are none below, the climb goes on from that
-- node.
use Prim.Native.Nat.{ℕ, zero, suc, ◌+◌, ◌-◌, ◌<◌, ◌≤◌}
use native.Mathlib.Numerals.{add-one}
use native.Mathlib.Nat.{sub-zero}
use native.Mathlib.Omega.{arith}
use mathlib.Core.Bool.{Bool, true, false}
use mathlib.Core.List.{List, [], ◌∷◌, ◌++◌, map}
use mathlib.Core.Option.{none, some, some-ne-none, some-injective}
use mathlib.Core.Path.{◌≡◌, refl, sym, ◌∙◌, ap}
use Rattle.std.specs.Prelude.{Option as Maybe}
use Rattle.std.specs.Option.{is_some}
use lib.ListN.{length, get_or, take}
use lib.Seq.{take-suc, length-take-le}
use Rattle.trie.specs.Beyond.{beyond, first_of}
use Rattle.trie.proofs.Beyond.{beyond_nil, beyond_up, beyond_found}
use Rattle.head.specs.declared.Head.{Head}
use Rattle.node.specs.Image.{table_of}
use Rattle.depths.specs.declared.Spot.{Spot}
use Rattle.depths.specs.Depths.{KeysBelow}
use Rattle.traversal.specs.Search.{ahead, coming, Along, PathKept, SearchTells}
use Rattle.depths.proofs.Links.{from}
use Rattle.traversal.proofs.Paths.{kept_all, kept_front, kept_letter, along_root}
use Rattle.traversal.proofs.Paths.{along_kept, along_less, along_last}
use Rattle.traversal.proofs.Searching.{first_none, is_found, is_missing, was_missing, was_found}
use Rattle.traversal.proofs.Searching.{told_same}
use Rattle.traversal.proofs.Searching.{ahead_no_keys}

-- ---- keys with letters before them

none_in_front : (k : List ℕ) (ms : List (List ℕ)) → first_of (map (k ++◌) ms) ≡ none → ms ≡ []
unfolding first_of
none_in_front k [] e = refl
none_in_front k (m ∷ ms) e = absurd (some-ne-none (k ++ m) e)

-- the first of them is j
record Leads (k : List ℕ) (ms : List (List ℕ)) (j : List ℕ) : Type 0 where
  pub head : List ℕ
  pub rest : List (List ℕ)
  pub all : ms ≡ head ∷ rest
  pub whole : k ++ head ≡ j

some_in_front : (k : List ℕ) (ms : List (List ℕ)) {j : List ℕ} → first_of (map (k ++◌) ms) ≡ some j
    → Leads k ms j
unfolding first_of
some_in_front k [] {j} e = absurd (some-ne-none j (sym e))
some_in_front k (m ∷ ms) {j} e =
    record { head = m; rest = ms; all = refl; whole = some-injective (k ++ m) j e }

-- ---- below the path's end, and before it

module _ (h : Head) (l path nodes : List ℕ) where
  coming_found : {depth : ℕ} (x : ℕ) {k : List ℕ} → depth ≤ length path
      → Along h l depth path nodes
      → first_of (ahead h l path depth (get_or nodes depth 0) x) ≡ some k
      → first_of (coming h l path depth x) ≡ some k
  unfolding ahead coming
  coming_found {depth} x room along e =
      let size : length (take depth path) ≡ depth = length-take-le depth path room in
      let s =
      some_in_front (take depth path) (from h (table_of h l) (get_or nodes depth 0) depth x) e in
      beyond_found (table_of h l) h.n h.min h.max 0 (take depth path) x {m = s.head}
      {ms = s.rest} (along.ends depth (omega arith)) (rw size s.all)
      ∙ ap some s.whole

  -- the root has no node before it
  coming_none : (q x : ℕ) → q ≡ 0 → first_of (ahead h l path 0 q x) ≡ none
      → first_of (coming h l path 0 x) ≡ none
  unfolding ahead coming
  coming_none q x z e =
      let s : from h (table_of h l) q 0 x
      ≡ [] = none_in_front [] (from h (table_of h l) q 0 x) e in
      first_none _ (beyond_nil (table_of h l) h.n h.min h.max 0 x
      ∙ (rw (sub-zero h.min, sub-zero h.max, z) at s))

  coming_up : {depth : ℕ} (x : ℕ) → depth < length path → Along h l (suc depth) path nodes
      → first_of (ahead h l path (suc depth) (get_or nodes (suc depth) 0) x) ≡ none
      → coming h l path (suc depth) x ≡ coming h l path depth (suc (get_or path depth 0))
  unfolding ahead coming
  coming_up {depth} x room along e =
      let size : length (take depth path) ≡ depth = length-take-le depth path (omega arith) in
      let s = none_in_front (take (suc depth) path)
      (from h (table_of h l) (get_or nodes (suc depth) 0) (suc depth) x) e in
      ap (λ (k : List ℕ). beyond (table_of h l) h.n h.min h.max 0 k x)
      (take-suc path depth 0 room)
      ∙ beyond_up (table_of h l) h.n h.min h.max 0 (take depth path) x (get_or path depth 0)
      (along.ends depth (omega arith))
      (along_last h l along room) (rw size s)

-- only the letters up to the depth count
coming_front : (h : Head) (l path path₁ : List ℕ) (depth x : ℕ) → take depth path
    ≡ take depth path₁ → coming h l path depth x ≡ coming h l path₁ depth x
unfolding coming
coming_front h l path path₁ depth x e =
    ap (λ (k : List ℕ). beyond (table_of h l) h.n h.min h.max 0 k x) e

-- ---- from node to node up the path

-- The keys still to come from the nodes before this depth, each time after the letter that was
-- taken there.
pub to_climb : Head → List ℕ → List ℕ → ℕ → List (List ℕ)
to_climb h l path zero = []
to_climb h l path (suc d) = coming h l path d (suc (get_or path d 0))

-- What lies below the nodes from this depth on is done: the first key still to come is one that
-- comes from a node before it.
pub record Climbing (h : Head) (l path₀ : List ℕ) (end first : ℕ) (path nodes : List ℕ)
    (depth : ℕ) : Type 0 where
  pub deep : depth ≤ h.max
  pub along : Along h l depth path nodes
  pub same : first_of (coming h l path₀ end first) ≡ first_of (to_climb h l path depth)

-- No key lies below the path's end, and the path up to there is kept.
pub record Nothing (h : Head) (l path nodes : List ℕ) (depth x : ℕ) (path₁ nodes₁ : List ℕ)
    : Type 0 where
  pub missing : first_of (ahead h l path depth (get_or nodes depth 0) x) ≡ none
  pub kept : PathKept depth path nodes path₁ nodes₁

module _ {h : Head} {l path nodes : List ℕ} {depth x : ℕ} where
  -- the search found nothing, or none was made because no key lies below the node
  pub nothing_missing : {r : Maybe Spot} {path₁ nodes₁ : List ℕ}
      → SearchTells h l (first_of (ahead h l path depth (get_or nodes depth 0) x)) r path₁ nodes₁
      → is_some r ≡ false
      → PathKept depth path nodes path₁ nodes₁
      → Nothing h l path nodes depth x path₁ nodes₁
  nothing_missing {r} told f kept =
      record { missing = was_missing h l told (is_missing r f); kept = kept }

  pub climb_no_keys : {r : Bool} → KeysBelow h (table_of h l) (get_or nodes depth 0) depth r
      → r ≡ true
      → Nothing h l path nodes depth x path nodes
  climb_no_keys b f =
      record {
        missing = ahead_no_keys h l path depth (get_or nodes depth 0) x b f;
        kept = kept_all depth path nodes;
      }

-- no key lies below a node: the first one still to come comes from a node before it
climb_past : {h : Head} {l path nodes : List ℕ} (depth : ℕ) {x : ℕ} {path₁ nodes₁ : List ℕ}
    → depth ≤ length path → Along h l depth path nodes
    → Nothing h l path nodes depth x path₁ nodes₁
    → first_of (coming h l path depth x) ≡ first_of (to_climb h l path₁ depth)
unfolding first_of to_climb
climb_past {h} {l} {path} {nodes} zero {x} letters along n =
    coming_none h l path nodes (get_or nodes 0 0) x (along_root h l along) n.missing
climb_past {h} {l} {path} {nodes} (suc d) {x} {path₁} letters along n =
    ap first_of
    (coming_up h l path nodes x letters along n.missing
    ∙ ap (λ (y : ℕ). coming h l path d (suc y)) (sym (kept_letter d n.kept (omega arith)))
    ∙ coming_front h l path path₁ d (suc (get_or path₁ d 0))
    (sym (kept_front d n.kept (omega arith))))

pub climbing_start : {h : Head} {l path nodes path₁ nodes₁ : List ℕ} {end first : ℕ}
    → end ≤ h.max → end ≤ length path → Along h l end path nodes
    → Nothing h l path nodes end first path₁ nodes₁
    → Climbing h l path end first path₁ nodes₁ end
climbing_start {h} {l} {end = end} deep letters along n =
    record {
      deep = deep;
      along = along_kept h l along n.kept;
      same = climb_past end letters along n;
    }

-- the key found below a node is the first one still to come
pub climb_found : {h : Head} {l path nodes path₁ nodes₁ : List ℕ} {depth : ℕ} (x : ℕ)
    {r : Maybe Spot} → depth ≤ length path → Along h l depth path nodes
    → SearchTells h l (first_of (ahead h l path depth (get_or nodes depth 0) x)) r path₁ nodes₁
    → is_some r ≡ true
    → SearchTells h l (first_of (coming h l path depth x)) r path₁ nodes₁
climb_found {h} {l} {path} {nodes} x {r} letters along told f =
    let (_, found) = is_found r f in
    let (k, e, _) = was_found h l told found in
    told_same h l (coming_found h l path nodes x letters along e ∙ sym e) told

-- a node is left
pub climbing_more : {h : Head} {l path₀ : List ℕ} {end first : ℕ} {path nodes : List ℕ} {depth : ℕ}
    → Climbing h l path₀ end first path nodes depth → 0 < depth
    → Climbing h l path₀ end first path nodes (suc (depth - 1))
climbing_more {depth = depth} c above =
    let e : suc (depth - 1) ≡ depth = omega arith in
    rw e c

-- the next node up the path, after the letter that was taken there
module _ {h : Head} {l path₀ : List ℕ} {end first : ℕ} {path nodes : List ℕ} {depth : ℕ}
    (c : Climbing h l path₀ end first path nodes (suc depth)) where
  pub climbing_along : Along h l depth path nodes
  climbing_along = along_less h l c.along

  rest : first_of (to_climb h l path (suc depth))
      ≡ first_of (coming h l path depth (get_or path depth 0 + 1))
  unfolding to_climb
  rest = rw (add-one (get_or path depth 0)) refl

  module _ (letters : depth ≤ length path) {path₁ nodes₁ : List ℕ} where
    pub climbing_found : {r : Maybe Spot}
        → SearchTells h l
        (first_of (ahead h l path depth (get_or nodes depth 0) (get_or path depth 0 + 1))) r path₁
        nodes₁
        → is_some r ≡ true
        → SearchTells h l (first_of (coming h l path₀ end first)) r path₁ nodes₁
    climbing_found told f =
        told_same h l (c.same ∙ rest)
        (climb_found (get_or path depth 0 + 1) letters climbing_along told f)

    pub climbing_up : Nothing h l path nodes depth (get_or path depth 0 + 1) path₁ nodes₁
        → Climbing h l path₀ end first path₁ nodes₁ depth
    climbing_up n =
        record {
          deep = omega (arith, c.deep);
          along = along_kept h l climbing_along n.kept;
          same = c.same ∙ rest ∙ climb_past depth letters climbing_along n;
        }

-- no node is left
pub climbing_end : {h : Head} {l path₀ : List ℕ} {end first : ℕ} {path nodes : List ℕ}
    (depth : ℕ) → Climbing h l path₀ end first path nodes depth → depth ≡ 0
    → first_of (coming h l path₀ end first) ≡ none
unfolding first_of to_climb
climbing_end zero c z = c.same
climbing_end (suc d) c z = absurd (omega arith)
