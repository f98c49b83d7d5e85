-- A walk from key to key through an accepted image, for the crates above. A search that found a
-- key leaves the key's path, and the next search starts from it.
use mathlib.Core.Path.{◌≡◌, refl, sym, ◌∙◌, ap}
use Prim.Native.Nat.{ℕ, ◌≤◌}
use native.Mathlib.Omega.{arith}
use mathlib.Core.Bool.{true}
use mathlib.Core.List.{List, [], ◌∷◌, ◌++◌}
use mathlib.Core.Option.{Option, none, some, some-ne-none, some-injective}
use Rattle.std.specs.Prelude.{Option as Maybe, Some, None}
use lib.ListN.{length, take}
use Rattle.trie.specs.Table.{descend, answer}
use Rattle.trie.specs.Keys.{own_key, listing, meets, filter}
use Rattle.trie.specs.Beyond.{first_of}
use Rattle.trie.proofs.Listing.{keys_under_ascending}
use Rattle.trie.proofs.Filter.{first_filter, filter_next}
use Rattle.trie.proofs.Beyond.{under_split, filter_after, beyond_nil}
use Rattle.head.specs.declared.Head.{Head}
use Rattle.node.specs.Image.{table_of}
use Rattle.depths.specs.declared.Spot.{Spot}
use Rattle.traversal.specs.Search.{Along, next_stored, search_of, SearchTells}
use Rattle.traversal.proofs.Searching.{was_missing, was_found}

-- the path is that of a key of n letters, which was found; this is what the search for the key
-- after it requires
pub record Met (h : Head) (l path nodes : List ℕ) (n : ℕ) : Type 0 where
  pub deep : n ≤ h.max
  pub along : Along h l n path nodes

pub met : {h : Head} {l : List ℕ} {s : Option (List ℕ)} {r : Maybe Spot} {path nodes : List ℕ}
    {p : Spot} → SearchTells h l s r path nodes
    → r ≡ Some p → Met h l path nodes p.length
met {h} {l} told e =
    let (k, is, same) = was_found h l told e in
    let reached = told.reached k is in
    record { deep = rw same reached.short; along = rw same reached.along }

-- ---- the keys that a walk meets

module _ (h : Head) (l : List ℕ) where
  -- the stored keys
  abbrev pub all_keys : List (List ℕ)
  all_keys = listing (table_of h l) h.n h.min h.max

  -- the stored keys after a key
  abbrev pub keys_after : List ℕ → List (List ℕ)
  keys_after m = filter (meets true m) all_keys

  -- all of them: the root's own key, if it is stored, and the keys after the empty key
  pub from_root : all_keys ≡ own_key (table_of h l) h.min 0 ++ keys_after []
  unfolding descend
  from_root =
      under_split (table_of h l) h.n h.min h.max 0
      ∙ ap (own_key (table_of h l) h.min 0 ++◌)
      (sym (filter_after (table_of h l) h.n h.min h.max 0 [] refl tt (omega arith)
      ∙ beyond_nil (table_of h l) h.n h.min h.max 0 0))

  -- if k is the first key after m, the keys after m are k and the keys after k
  first_after : (m : List ℕ) {k : List ℕ} → next_stored h l true m ≡ some k → keys_after m
      ≡ k ∷ keys_after k
  unfolding first_of
  first_after m {k} e = go (keys_after m) refl (sym (first_filter (meets true m) all_keys) ∙ e)
    where
      go : (ks : List (List ℕ)) → keys_after m ≡ ks → first_of ks ≡ some k → ks ≡ k ∷ keys_after k
      go [] f g = absurd (some-ne-none k (sym g))
      go (j ∷ ks) f g =
          let rest : keys_after j ≡ ks =
          filter_next all_keys true m (keys_under_ascending (table_of h l) h.n h.min h.max 0)
          f
          in
          ap (j ∷◌) (sym rest)
          ∙ ap (λ (x : List ℕ). x ∷ keys_after x) (some-injective j k g)

  -- the answer of the search for the key after m
  module _ (m : List ℕ) {r : Maybe Spot} {path nodes : List ℕ}
      (told : SearchTells h l (next_stored h l true m) r path nodes) where
    pub none_after : r ≡ None → keys_after m ≡ []
    unfolding first_of
    none_after e =
        go (keys_after m) (sym (first_filter (meets true m) all_keys) ∙ was_missing h l told e)
      where
        go : (ks : List (List ℕ)) → first_of ks ≡ none → ks ≡ []
        go [] f = refl
        go (k ∷ ks) f = absurd (some-ne-none k f)

    module _ {p : Spot} (e : r ≡ Some p) where
      front : (k : List ℕ) → next_stored h l true m ≡ some k → p.length ≡ length k
          → take p.length path ≡ k
      front k is long = ap (λ (j : ℕ). take j path) long ∙ (told.reached k is).letters

      pub next_after : keys_after m ≡ take p.length path ∷ keys_after (take p.length path)
      next_after =
          let (k, is, long) = was_found h l told e in
          first_after m is
          ∙ ap (λ (x : List ℕ). x ∷ keys_after x) (sym (front k is long))

      pub next_value : p.value ≡ answer (table_of h l) (take p.length path)
      unfolding search_of
      next_value =
          let (k, is, long) = was_found h l told e in
          let found : Some p ≡ search_of (table_of h l) (some k) =
          sym e ∙ told.answers ∙ ap (search_of (table_of h l)) is in
          let value : p.value ≡ answer (table_of h l) k = cc in
          value ∙ ap (answer (table_of h l)) (sym (front k is long))
