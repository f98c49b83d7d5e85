-- The stored keys of a table in order. 01, "Walking, storing, listing": "A stored key is one
-- with length in min..max whose data is not 0" and "Order: a key comes before its extensions;
-- otherwise the first different letter number decides".
use Rattle.std.specs.Prelude.{ℕ, zero, suc, pred, ◌+◌, Bool, true, false, not, cond, ◌≡◌, eqb, ltb}
use Rattle.std.proofs.Math.Option.{Option, none, some}
use mathlib.Core.List.{List, [], ◌∷◌, ◌++◌, map, Memᴰ}
use Rattle.trie.specs.Table.{Table, follow}

-- the empty key if the data is not 0, otherwise no key
unfoldable pub present : ℕ → List (List ℕ)
present zero = []
present (suc v) = [] ∷ []

-- a node's own key, written from the node on, once no more letters are needed
unfoldable pub own_key : Table → ℕ → ℕ → List (List ℕ)
unfolding present
own_key t zero q = present (t.value q)
own_key t (suc short) q = []

-- the keys that begin with letter i, then those with i + 1, and so on for m letters; `keys i`
-- has what follows letter i
unfoldable pub by_letter : (ℕ → List (List ℕ)) → ℕ → ℕ → List (List ℕ)
by_letter keys i zero = []
by_letter keys i (suc m) = map (λ (k : List ℕ). i ∷ k) (keys i) ++ by_letter keys (suc i) m

-- The stored keys at or under a node, in order, written from that node on. A key needs at least
-- `short` letters and has at most `left`, and a node has n links.
unfoldable pub keys_under : Table → ℕ → ℕ → ℕ → ℕ → List (List ℕ)
unfolding own_key by_letter follow
keys_under t n short zero q = own_key t short q
keys_under t n short (suc left) q =
    own_key t short q
    ++ by_letter (λ i. follow (t.child q i) [] (λ c. keys_under t n (pred short) left c)) 0 n

-- the listing: the stored keys of a table with n letters, for keys of `least` to `most` letters
abbrev pub listing : Table → ℕ → ℕ → ℕ → List (List ℕ)
listing t n least most = keys_under t n least most 0

-- how many of the nodes below m have data that is not 0
unfoldable pub holding : Table → ℕ → ℕ
holding t zero = 0
holding t (suc m) = holding t m + cond (eqb (t.value m) 0) 0 1

-- 01's order: whether k comes before m
unfoldable pub before : List ℕ → List ℕ → Bool
before [] [] = false
before [] (y ∷ m) = true
before (x ∷ k) [] = false
before (x ∷ k) (y ∷ m) = cond (eqb x y) (before k m) (ltb x y)

-- the choice of next key: true is after the key given, false is at or after it
unfoldable pub meets : Bool → List ℕ → List ℕ → Bool
unfolding before
meets true given k = before given k
meets false given k = not (before k given)

-- the first of the keys that meets the request
unfoldable pub first_meeting : (List ℕ → Bool) → List (List ℕ) → Option (List ℕ)
first_meeting p [] = none
first_meeting p (k ∷ ks) = cond (p k) (some k) (first_meeting p ks)

-- the keys that meet the request
unfoldable pub filter : (List ℕ → Bool) → List (List ℕ) → List (List ℕ)
filter p [] = []
filter p (k ∷ ks) = cond (p k) (k ∷ filter p ks) (filter p ks)

-- no keys if there is no key, otherwise what the key gives
unfoldable pub with_key : Option (List ℕ) → (List ℕ → List (List ℕ)) → List (List ℕ)
with_key none keys = []
with_key (some k) keys = keys k

-- in strict order: each key comes before every key that follows it in the list
abbrev pub Ascending : List (List ℕ) → Type 0
Ascending [] = Unit {0}
Ascending (k ∷ ks) = ((m : List ℕ) → Memᴰ m ks → before k m ≡ true) × Ascending ks
