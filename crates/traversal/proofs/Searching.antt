-- The search below a node, letter by letter. What is still to be searched begins with the keys
-- through the link at hand. If there is one, the first of them is the key sought; if there is
-- none, the search goes on with the next letter.
use Prim.Native.Nat.{ℕ, suc, ◌+◌, ◌-◌, ◌<◌, ◌≤◌}
use native.Mathlib.Numerals.{add-one}
use native.Mathlib.Omega.{arith}
use mathlib.Core.Bool.{Bool, true, false, true≢false}
use mathlib.Core.List.{List, [], ◌∷◌, ◌++◌, map, map-append, map-map, append_assoc}
use mathlib.Core.Logic.{◌≢◌}
use mathlib.Core.Option.{Option, none, some, some-ne-none, some-injective}
use mathlib.Core.Path.{◌≡◌, refl, sym, ◌∙◌, ap, subst}
use Rattle.std.specs.Prelude.{Option as Maybe, Some, None}
use Rattle.std.specs.Option.{is_some}
use lib.ListN.{length, get_or, take, set, length-set}
use lib.Seq.{take-suc-set, length-take-le, get_or-set_same}
use Rattle.trie.specs.Table.{Table, answer}
use Rattle.trie.specs.Beyond.{first_of}
use Rattle.trie.proofs.Beyond.{from_none, from_empty}
use Rattle.trie.proofs.Walk.{answer_complete}
use Rattle.head.specs.declared.Head.{Head}
use Rattle.node.specs.Image.{table_of}
use Rattle.depths.specs.Depths.{own_value, KeysBelow}
use Rattle.depths.specs.declared.Spot.{Spot}
use Rattle.traversal.specs.Search.{ahead, PathRoom, Along, PathKept, Reached, search_of}
use Rattle.traversal.specs.Search.{SearchTells}
use Rattle.depths.proofs.Links.{own_data, own_long, own_empty, own_full, from, from_link}
use Rattle.traversal.proofs.Paths.{room_kept, kept_all, kept_set, kept_below, kept_end}
use Rattle.traversal.proofs.Paths.{along_kept, along_more}

-- ---- the first of a list of keys

first_front : (a b : List (List ℕ)) {k : List ℕ} → first_of a ≡ some k → first_of (a ++ b) ≡ some k
unfolding first_of
first_front [] b {k} e = absurd (some-ne-none k (sym e))
first_front (m ∷ a) b e = e

first_back : (a b : List (List ℕ)) → first_of a ≡ none → first_of (a ++ b) ≡ first_of b
unfolding first_of
first_back [] b e = refl
first_back (m ∷ a) b e = absurd (some-ne-none m e)

pub first_none : (a : List (List ℕ)) → a ≡ [] → first_of a ≡ none
unfolding first_of
first_none a e = ap first_of e

-- ---- what an answer means

pub is_found : (r : Maybe Spot) → is_some r ≡ true → (p : Spot) × (r ≡ Some p)
is_found None e = absurd (true≢false (sym e))
is_found (Some p) e = (p, refl)

pub is_missing : (r : Maybe Spot) → is_some r ≡ false → r ≡ None
is_missing None e = refl
is_missing (Some p) e = absurd (true≢false e)

-- what an answer says of the key that was sought
pub was_missing : (h : Head) (l : List ℕ) {s : Option (List ℕ)} {r : Maybe Spot}
    {path nodes : List ℕ} → SearchTells h l s r path nodes
    → r ≡ None → s ≡ none
unfolding search_of
was_missing h l {s} {r} told e = go s (sym e ∙ told.answers)
  where
    go : (s : Option (List ℕ)) → None ≡ search_of (table_of h l) s → s ≡ none
    go none f = refl
    go (some k) f = let z : ◌≡◌ {A = ℕ} 0 1 = cc in absurd (omega arith)

pub was_found : (h : Head) (l : List ℕ) {s : Option (List ℕ)} {r : Maybe Spot}
    {path nodes : List ℕ} {p : Spot} → SearchTells h l s r path nodes
    → r ≡ Some p → (k : List ℕ) × (s ≡ some k) × (p.length ≡ length k)
unfolding search_of
was_found h l {s} {r} {p = p} told e = go s (sym e ∙ told.answers)
  where
    go : (s : Option (List ℕ)) → Some p ≡ search_of (table_of h l) s → (k : List ℕ)
        × (s ≡ some k) × (p.length ≡ length k)
    go none f = let z : ◌≡◌ {A = ℕ} 0 1 = cc in absurd (omega arith)
    go (some k) f = (k, refl, cc)

module _ (h : Head) (l : List ℕ) where
  pub told_same : {s s' : Option (List ℕ)} {r : Maybe Spot} {path nodes : List ℕ} → s ≡ s'
      → SearchTells h l s' r path nodes → SearchTells h l s r path nodes
  told_same {r = r} {path} {nodes} e t =
      subst (λ (s : Option (List ℕ)). SearchTells h l s r path nodes) (sym e) t

  pub told_none : {s : Option (List ℕ)} {path nodes : List ℕ} → s ≡ none
      → SearchTells h l s None path nodes
  unfolding search_of
  told_none e =
      record { answers = rw e; reached = λ k f. absurd (some-ne-none k (sym f ∙ e)) }

  -- the key of the path's first letters is found, if its node has data and it is long enough
  pub told_here : {s : Option (List ℕ)} {path nodes : List ℕ} {depth v : ℕ} → depth ≤ h.max
      → length (take depth path) ≡ depth → Along h l depth path nodes
      → v ≡ own_value h (table_of h l) (get_or nodes depth 0) depth → v ≢ 0
      → s ≡ some (take depth path)
      → SearchTells h l s (Some (record { length = depth; value = v })) path nodes
  unfolding search_of
  told_here {s} {path} {nodes} {depth} {v} deep whole along e full first =
      told_same first
      (record {
        answers = λ j. Some (record { length = size j; value = value j });
        reached = λ k f. subst (λ (k : List ℕ). Reached h l k path nodes)
            (some-injective (take depth path) k f) reached;
      })
    where
      size : depth ≡ length (take depth path)
      size = sym whole

      reached : Reached h l (take depth path) path nodes
      reached =
          record {
            short = omega (arith, size);
            letters = ap (λ (n : ℕ). take n path) (sym size);
            along = subst (λ (n : ℕ). Along h l n path nodes) size along;
          }

      value : v ≡ answer (table_of h l) (take depth path)
      value =
          e
          ∙ own_data h (table_of h l) (get_or nodes depth 0) depth
          (own_long h (table_of h l) (get_or nodes depth 0) depth (λ z. full (e ∙ z)))
          ∙ sym (answer_complete (table_of h l) (take depth path) (along.ends depth (omega arith)))

  -- ---- the keys ahead

  pub ahead_no_keys : (path : List ℕ) (depth q i : ℕ) {r : Bool}
      → KeysBelow h (table_of h l) q depth r → r ≡ true
      → first_of (ahead h l path depth q i) ≡ none
  unfolding ahead
  ahead_no_keys path depth q i b e = first_none _ (ap (map (take depth path ++◌)) (b.nothing e i))

  pub ahead_past : (path : List ℕ) (depth q i : ℕ) → h.n ≤ i → first_of (ahead h l path depth q i)
      ≡ none
  unfolding ahead
  ahead_past path depth q i b =
      first_none _ (ap (map (take depth path ++◌))
      (from_none (table_of h l) h.n (h.min - depth) (h.max - depth) q i b))

  ahead_kept : {path nodes path₁ nodes₁ : List ℕ} (depth q i : ℕ)
      → PathKept depth path nodes path₁ nodes₁
      → ahead h l path₁ depth q i ≡ ahead h l path depth q i
  unfolding ahead
  ahead_kept depth q i kept =
      ap (λ (k : List ℕ). map (k ++◌) (from h (table_of h l) q depth i)) kept.letters

  pub ahead_empty : (path : List ℕ) (depth q i : ℕ) {c : ℕ} → i < h.n → c
      ≡ (table_of h l).child q i
      → c ≡ 0
      → ahead h l path depth q i ≡ ahead h l path depth q (i + 1)
  unfolding ahead
  ahead_empty path depth q i b e empty =
      rw add-one
      (ap (map (take depth path ++◌))
      (from_empty (table_of h l) h.n (h.min - depth) (h.max - depth) q i b
      (sym e ∙ empty)))

  -- through a link: first the child's own key, if there is one
  ahead_own : (path : List ℕ) (depth q i : ℕ) {c v : ℕ} → depth < h.max → i < h.n
      → c ≡ (table_of h l).child q i → c ≢ 0
      → v ≡ own_value h (table_of h l) c (depth + 1) → v ≢ 0
      → first_of (ahead h l path depth q i) ≡ some (take depth path ++ (i ∷ []))
  unfolding ahead first_of
  ahead_own path depth q i {c} deep b e full own some_value =
      rw (
        from_link h (table_of h l) q depth i deep b (sym e) full,
        own_full h (table_of h l) c (suc depth) (λ z. some_value (own ∙ (rw (add-one depth) z))),
      )

  -- otherwise the keys below the child, before the keys of later letters
  ahead_link : (path path' : List ℕ) (depth q i : ℕ) {c v : ℕ} → depth < h.max → i < h.n
      → c ≡ (table_of h l).child q i → c ≢ 0
      → v ≡ own_value h (table_of h l) c (depth + 1) → v ≡ 0
      → take (depth + 1) path' ≡ take depth path ++ (i ∷ [])
      → ahead h l path depth q i ≡ ahead h l path' (depth + 1) c 0 ++ ahead h l path depth q
      (i + 1)
  unfolding ahead
  ahead_link path path' depth q i {c} deep b e full own no_value longer =
      rw (add-one i)
      (ap (map (take depth path ++◌)) link
      ∙ map-append (take depth path ++◌) (map (i ∷◌) rest) (from h t q depth (suc i))
      ∙ ap (◌++ map (take depth path ++◌) (from h t q depth (suc i)))
      (map-map (take depth path ++◌) (i ∷◌) rest ∙ joined))
    where
      t : Table
      t = table_of h l

      rest : List (List ℕ)
      rest = from h t c (depth + 1) 0

      link : from h t q depth i ≡ map (i ∷◌) rest ++ from h t q depth (suc i)
      link =
          from_link h t q depth i deep b (sym e) full
          ∙ rw (← add-one depth, own_empty h t c (depth + 1) (sym own ∙ no_value))

      joined : map (λ (k : List ℕ). take depth path ++ (i ∷ k)) rest
          ≡ map (take (depth + 1) path' ++◌) rest
      joined = rw longer (simp append_assoc)

-- ---- from letter to letter

-- Below node q at a depth, the letters from `first` to i - 1 are done: the key sought is the
-- first key from letter i on. The path is still that of q.
pub record Passing (h : Head) (l path₀ nodes₀ : List ℕ) (depth q first : ℕ) (path nodes : List ℕ)
    (i : ℕ) : Type 0 where
  pub deep : depth < h.max
  pub along : Along h l depth path nodes
  pub node : q ≡ get_or nodes depth 0
  pub kept : PathKept depth path₀ nodes₀ path nodes
  pub passed : first_of (ahead h l path₀ depth q first) ≡ first_of (ahead h l path depth q i)

-- the link for letter i leads to node c, and there is room for both
pub record Onto (h : Head) (l path₀ nodes₀ : List ℕ) (depth q first : ℕ) (path nodes : List ℕ)
    (i c : ℕ) : Type 0 where
  pub passing : Passing h l path₀ nodes₀ depth q first path nodes i
  pub letters : depth < length path
  pub ends : depth + 1 < length nodes
  pub low : i < h.n
  pub link : c ≡ (table_of h l).child q i
  pub full : c ≢ 0

pub passing_start : {h : Head} {l path nodes : List ℕ} {depth q : ℕ} (first : ℕ) → depth < h.max
    → Along h l depth path nodes
    → q ≡ get_or nodes depth 0
    → Passing h l path nodes depth q first path nodes first
passing_start {path = path} {nodes} {depth} first deep along node =
    record {
      deep = deep;
      along = along;
      node = node;
      kept = kept_all depth path nodes;
      passed = refl;
    }

module _ {h : Head} {l path₀ nodes₀ : List ℕ} {depth q first : ℕ} {path nodes : List ℕ} {i : ℕ}
    (p : Passing h l path₀ nodes₀ depth q first path nodes i) where
  pub passing_empty : {c : ℕ} → i < h.n → c ≡ (table_of h l).child q i → c ≡ 0
      → Passing h l path₀ nodes₀ depth q first path nodes (i + 1)
  passing_empty b e empty =
      record {
        deep = p.deep;
        along = p.along;
        node = p.node;
        kept = p.kept;
        passed = p.passed ∙ ap first_of (ahead_empty h l path depth q i b e empty);
      }

  pub passing_end : h.n ≤ i → first_of (ahead h l path₀ depth q first) ≡ none
  passing_end b = p.passed ∙ ahead_past h l path depth q i b

module _ {h : Head} {l path₀ nodes₀ : List ℕ} {depth q first : ℕ} {path nodes : List ℕ} {i c : ℕ}
    (o : Onto h l path₀ nodes₀ depth q first path nodes i c) where
  longer : take (depth + 1) (set path depth i) ≡ take depth path ++ (i ∷ [])
  longer = rw (add-one depth) (take-suc-set path depth i o.letters)

  size : length (take (depth + 1) (set path depth i)) ≡ depth + 1
  size =
      length-take-le (depth + 1) (set path depth i)
      (omega (arith, length-set path depth i, o.letters))

  -- the path and its nodes, one letter further
  pub onto_room : PathRoom h path₀ nodes₀ → length path ≡ length path₀
      → length nodes ≡ length nodes₀
      → PathRoom h (set path depth i) (set nodes (depth + 1) c)
  onto_room room letters ends =
      room_kept room (length-set path depth i ∙ letters) (length-set nodes (depth + 1) c ∙ ends)

  pub onto_node : c ≡ get_or (set nodes (depth + 1) c) (depth + 1) 0
  onto_node =
      sym (get_or-set_same nodes (depth + 1) c 0 o.ends)

  pub onto_along : Along h l (depth + 1) (set path depth i) (set nodes (depth + 1) c)
  onto_along =
      let p = o.passing in
      along_more h l p.along o.letters o.ends o.low (rw (← p.node) o.link) o.full

  pub onto_kept : PathKept depth path₀ nodes₀ (set path depth i) (set nodes (depth + 1) c)
  onto_kept = kept_set i c o.passing.kept

  -- if the child has a key of its own, it is the key sought
  pub onto_own : {v : ℕ} → v ≡ own_value h (table_of h l) c (depth + 1) → v ≢ 0
      → SearchTells h l (first_of (ahead h l path₀ depth q first))
      (Some (record { length = depth + 1; value = v })) (set path depth i)
      (set nodes (depth + 1) c)
  onto_own {v} e full =
      let p = o.passing in
      told_here h l (omega (arith, p.deep)) size onto_along (rw (← onto_node) e) full
      (p.passed ∙ ahead_own h l path depth q i p.deep o.low o.link o.full e full
      ∙ ap some (sym longer))

  module _ {v : ℕ} (e : v ≡ own_value h (table_of h l) c (depth + 1)) (empty : v ≡ 0) where
    link_split : ahead h l path depth q i ≡ ahead h l (set path depth i) (depth + 1) c 0
        ++ ahead h l path depth q (i + 1)
    link_split = ahead_link h l path (set path depth i) depth q i o.passing.deep o.low
        o.link o.full e empty longer

    -- otherwise it is the first key below the child, if there is one
    pub onto_found : {r : Maybe Spot} {path₁ nodes₁ : List ℕ}
        → SearchTells h l (first_of (ahead h l (set path depth i) (depth + 1) c 0)) r path₁ nodes₁
        → is_some r ≡ true
        → SearchTells h l (first_of (ahead h l path₀ depth q first)) r path₁ nodes₁
    onto_found {r} told f =
        let (_, found) = is_found r f in
        let (k, g, _) = was_found h l told found in
        told_same h l (o.passing.passed ∙ ap first_of link_split ∙ first_front _ _ g ∙ sym g) told

    -- otherwise the search goes on with the next letter
    onto_none : {path₁ nodes₁ : List ℕ} → first_of (ahead h l (set path depth i) (depth + 1) c 0)
        ≡ none
        → PathKept (depth + 1) (set path depth i) (set nodes (depth + 1) c) path₁ nodes₁
        → Passing h l path₀ nodes₀ depth q first path₁ nodes₁ (i + 1)
    onto_none nothing kept =
        let p = o.passing in
        let here = kept_below (kept_set i c (kept_all depth path nodes)) kept in
        record {
          deep = p.deep;
          along = along_kept h l p.along here;
          node = p.node ∙ sym (kept_end here);
          kept = kept_below onto_kept kept;
          passed =
              p.passed
              ∙ ap first_of link_split
              ∙ first_back _ _ nothing
              ∙ ap first_of (sym (ahead_kept h l depth q (i + 1) here));
        }

    pub onto_missing : {r : Maybe Spot} {path₁ nodes₁ : List ℕ}
        → SearchTells h l (first_of (ahead h l (set path depth i) (depth + 1) c 0)) r path₁ nodes₁
        → is_some r ≡ false
        → PathKept (depth + 1) (set path depth i) (set nodes (depth + 1) c) path₁ nodes₁
        → Passing h l path₀ nodes₀ depth q first path₁ nodes₁ (i + 1)
    onto_missing {r} told f kept = onto_none (was_missing h l told (is_missing r f)) kept

    pub onto_no_keys : {r : Bool} → KeysBelow h (table_of h l) c (depth + 1) r → r ≡ true
        → Passing h l path₀ nodes₀ depth q first (set path depth i) (set nodes (depth + 1) c)
        (i + 1)
    onto_no_keys b f =
        onto_none (ahead_no_keys h l (set path depth i) (depth + 1) c 0 b f)
        (kept_all (depth + 1) (set path depth i) (set nodes (depth + 1) c))
