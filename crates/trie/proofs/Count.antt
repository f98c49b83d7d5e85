-- How many keys are listed. A list in order is determined by its keys. So if two tables answer
-- alike for every key but one, their listings differ at most in that key. A node with no link
-- and no data lists no key.
use Prim.Native.Nat.{ℕ, zero, suc, ◌+◌, ◌-◌, ◌≤◌}
use native.Mathlib.Omega.{arith}
use native.Mathlib.Decide.{ℕ_discrete}
use native.Mathlib.Numerals.{add-one}
use mathlib.Core.List.Memᴰ
use mathlib.Core.List.{List, [], ◌∷◌, ◌++◌, Memᴰ}
use mathlib.Core.List.{List-discrete}
use mathlib.Core.Logic.{◌↔◌, ◌≢◌, ⊎_elim}
use mathlib.Core.Path.{◌≡◌, refl, sym, ◌∙◌, ap, subst}
use lib.IntN.{pos, negsuc, ◌+ℤ◌, +ℤ_idr}
use lib.ListN.{length, length-append}
use borrow.Author.Tests.{le-ltb}
use Rattle.trie.specs.Table.{Table, descend, answer, missing, LettersBelow}
use Rattle.trie.specs.Keys.{keys_under, listing, Ascending}
use Rattle.trie.specs.Rules.{Framed, Linked}
use Rattle.trie.specs.Storing.{stored, added, change_of}
use Rattle.trie.proofs.Listing.{listing_holds, keys_under_ascending, held_once, same_keys}
use Rattle.trie.proofs.Beyond.{own_none, under_split, from_childless}
use Rattle.trie.proofs.Storing.{stored_answer, stored_answer_other, stored_linked}

-- ---- one key more

with_key_lem : {j : List ℕ} (l m : List (List ℕ)) (k : List ℕ) → Memᴰ j (l ++ m)
    → Memᴰ j (l ++ k ∷ m)
with_key_lem l m k a = ⊎_elim (Memᴰ.append_left (k ∷ m)) (λ b. Memᴰ.append_right l (Memᴰ.tail b))
    (Memᴰ.append_cases l a)

without_key : {j : List ℕ} (l m : List (List ℕ)) (k : List ℕ) → j ≢ k → Memᴰ j (l ++ k ∷ m)
    → Memᴰ j (l ++ m)
without_key l m k other a =
    ⊎_elim
    (Memᴰ.append_left m)
    (λ b. ⊎_elim (λ e. absurd (other e)) (Memᴰ.append_right l) (Memᴰ.cases_cons b))
    (Memᴰ.append_cases l a)

without_ascending : (l m : List (List ℕ)) (k : List ℕ) → Ascending (l ++ k ∷ m)
    → Ascending (l ++ m)
without_ascending [] m k h = h.1
without_ascending (x ∷ l) m k h =
    (λ j a. h.0 j (with_key_lem l m k a), without_ascending l m k h.1)

-- a list that holds a key, cut at that key
split : {k : List ℕ} {m : List (List ℕ)} → Memᴰ k m → (xs : List (List ℕ))
    × (ys : List (List ℕ)) × (m ≡ xs ++ k ∷ ys)
split (Memᴰ.head {xs = ys} e) = ([], ys, ap (◌∷ ys) (sym e))
split (Memᴰ.tail {x = x} a) = let (xs, ys, e) = split a in (x ∷ xs, ys, ap (x ∷◌) e)

inserted : (l xs ys : List (List ℕ)) (k : List ℕ) → Ascending l → Ascending (xs ++ k ∷ ys)
    → ¬ Memᴰ k l
    → ((j : List ℕ) → j ≢ k → Memᴰ j l ↔ Memᴰ j (xs ++ k ∷ ys))
    → length (xs ++ k ∷ ys) ≡ suc (length l)
inserted l xs ys k hl hm out others =
    let same : l ≡ xs ++ ys = same_keys l (xs ++ ys) hl (without_ascending xs ys k hm) to from in
    omega (arith, ap length same, length-append xs (k ∷ ys), length-append xs ys)
  where
    to : (j : List ℕ) → Memᴰ j l → Memᴰ j (xs ++ ys)
    to j a = let other : j ≢ k = λ e. out (Memᴰ.cast (sym e) a) in
        without_key xs ys k other ((others j other).0 a)

    from : (j : List ℕ) → Memᴰ j (xs ++ ys) → Memᴰ j l
    from j a = (others j (λ e. held_once xs ys k hm (Memᴰ.cast (sym e) a))).1
        (with_key_lem xs ys k a)

-- a list in order that has the keys of another, and k besides
pub one_more : (l m : List (List ℕ)) (k : List ℕ) → Ascending l → Ascending m
    → ¬ Memᴰ k l
    → Memᴰ k m
    → ((j : List ℕ) → j ≢ k → Memᴰ j l ↔ Memᴰ j m)
    → length m ≡ suc (length l)
one_more l m k hl hm out held others =
    let (xs, ys, e) = split held in
    subst
    (λ (m : List (List ℕ)). Ascending m → ((j : List ℕ) → j ≢ k → Memᴰ j l ↔ Memᴰ j m)
    → length m ≡ suc (length l))
    (sym e)
    (λ hm others. inserted l xs ys k hl hm out others)
    hm
    others

-- lists in order that differ at most in k, if both hold k or neither does
pub same_but : (l m : List (List ℕ)) (k : List ℕ) → Ascending l → Ascending m
    → (Memᴰ k l ↔ Memᴰ k m)
    → ((j : List ℕ) → j ≢ k → Memᴰ j l ↔ Memᴰ j m)
    → l ≡ m
same_but l m k hl hm own others = same_keys l m hl hm (λ j. (both j).0) (λ j. (both j).1)
  where
    go : (j : List ℕ) → Dec (j ≡ k) → Memᴰ j l ↔ Memᴰ j m
    go j (yes e) = (
      λ a. Memᴰ.cast e (own.0 (Memᴰ.cast (sym e) a)),
      λ a. Memᴰ.cast e
          (own.1 (Memᴰ.cast (sym e) a)),
    )
    go j (no other) = others j other

    both : (j : List ℕ) → Memᴰ j l ↔ Memᴰ j m
    both j = go j (List-discrete ℕ_discrete j k)

-- ---- two tables that answer alike for every key but k, whose length is within the limits

pub record Alike (t s : Table) (g h n least most : ℕ) (k : List ℕ) : Type 0 where
  pub from : Framed t g n
  pub to : Framed s h n
  pub low : least ≤ length k
  pub high : length k ≤ most
  pub others : (m : List ℕ) → m ≢ k → answer s m ≡ answer t m

turned : {t s : Table} {g h n least most : ℕ} {k : List ℕ} → Alike t s g h n least most k
    → Alike s t h g n least most k
turned a = record {
  from = a.to;
  to = a.from;
  low = a.low;
  high = a.high;
  others = λ m e. sym (a.others m e);
}

-- every other key that is listed stays listed
kept : {t s : Table} {g h n least most : ℕ} {k : List ℕ} → Alike t s g h n least most k
    → (m : List ℕ) → m ≢ k
    → Memᴰ m (listing t n least most)
    → Memᴰ m (listing s n least most)
kept {least = least} {most = most} a m other b =
    let (low, high, full) = (listing_holds a.from least most m).0 b in
    (listing_holds a.to least most m).1 (low, high, λ z. full (sym (a.others m other) ∙ z))

pub listed_others : {t s : Table} {g h n least most : ℕ} {k : List ℕ}
    → Alike t s g h n least most k → (m : List ℕ) → m ≢ k
    → Memᴰ m (listing t n least most) ↔ Memᴰ m (listing s n least most)
listed_others a m other = (kept a m other, kept (turned a) m other)

-- k is present in both tables, or in neither
same_listing : {t s : Table} {g h n least most : ℕ} {k : List ℕ} → Alike t s g h n least most k
    → ((answer t k ≡ 0) ↔ (answer s k ≡ 0))
    → listing s n least most ≡ listing t n least most
same_listing {t} {s} {n = n} {least} {most} {k} a e =
    same_but
    (listing s n least most)
    (listing t n least most)
    k
    (keys_under_ascending s n least most 0)
    (keys_under_ascending t n least most 0) (
      λ b. (listing_holds a.from least most k).1
          (a.low, a.high, λ z. ((listing_holds a.to least most k).0 b).2 (e.0 z)),
      λ b. (listing_holds a.to least most k).1
          (a.low, a.high, λ z. ((listing_holds a.from least most k).0 b).2 (e.1 z)),
    )
    (listed_others (turned a))

-- k is present in s alone
longer_listing : {t s : Table} {g h n least most : ℕ} {k : List ℕ} → Alike t s g h n least most k
    → answer t k ≡ 0
    → answer s k ≢ 0
    → length (listing s n least most) ≡ suc (length (listing t n least most))
longer_listing {t} {s} {n = n} {least} {most} {k} a e f =
    one_more
    (listing t n least most)
    (listing s n least most)
    k
    (keys_under_ascending t n least most 0)
    (keys_under_ascending s n least most 0)
    (λ b. ((listing_holds a.from least most k).0 b).2 e)
    ((listing_holds a.to least most k).1 (a.low, a.high, f))
    (listed_others a)

-- one more and one fewer, as whole numbers
up : {a b : ℕ} → a ≡ suc b → pos a ≡ pos b +ℤ pos 1
up {b = b} e = ap pos (e ∙ sym (add-one b))

down : {a b : ℕ} → b ≡ suc a → pos a ≡ pos b +ℤ negsuc 0
down {a} {b} e = let f : a ≡ b - 1 = omega arith in rw (le-ltb b 1 (omega arith)) (ap pos f)

pub listing_change : {t s : Table} {g h n least most : ℕ} {k : List ℕ}
    → Alike t s g h n least most k
    → pos (length (listing s n least most)) ≡ pos (length (listing t n least most)) +ℤ change_of
    (answer t k) (answer s k)
unfolding change_of
listing_change {t} {s} {n = n} {least} {most} {k} a = go (answer t k) (answer s k) refl refl
  where
    level : ((answer t k ≡ 0) ↔ (answer s k ≡ 0))
        → pos (length (listing s n least most)) ≡ pos (length (listing t n least most)) +ℤ pos 0
    level e = ap (λ (l : List (List ℕ)). pos (length l)) (same_listing a e)
        ∙ sym (+ℤ_idr (pos (length (listing t n least most))))

    go : (b c : ℕ) → answer t k ≡ b → answer s k ≡ c
        → pos (length (listing s n least most))
        ≡ pos (length (listing t n least most)) +ℤ change_of
        b c
    go zero zero e f = level (λ z. f, λ z. e)
    go zero (suc c) e f = up (longer_listing a e (omega arith))
    go (suc b) zero e f = down (longer_listing (turned a) f (omega arith))
    go (suc b) (suc c) e f = level (omega arith)

-- a store leaves the answers of all other keys
pub stored_alike : {t : Table} {g n : ℕ} → Linked t g n → (k : List ℕ) → LettersBelow n k
    → (v least most : ℕ) → least ≤ length k → length k ≤ most
    → Alike t (stored t g k v) g (g + added (missing (descend t 0 k)) v) n least most k
stored_alike l k letters v least most low high =
    record {
      from = l.framed;
      to = (stored_linked l k letters v).framed;
      low = low;
      high = high;
      others = stored_answer_other l k letters v;
    }

-- "the change in the number of stored keys: -1, 0 or 1"
pub stored_count : {t : Table} {g n : ℕ} → Linked t g n → (k : List ℕ) → LettersBelow n k
    → (v least most : ℕ) → least ≤ length k → length k ≤ most
    → pos (length (listing (stored t g k v) n least most)) ≡ pos (length (listing t n least most))
    +ℤ change_of (answer t k) v
stored_count l k letters v least most low high =
    rw (stored_answer l k letters v) at
    (listing_change (stored_alike l k letters v least most low high))

-- ---- a node with no link and no data

-- it lists no key
pub blank_keys : (t : Table) (n short left c : ℕ) → ((i : ℕ) → t.child c i ≡ 0) → t.value c ≡ 0
    → keys_under t n short left c ≡ []
blank_keys t n short left c no_links no_data =
    rw (
      under_split t n short left c,
      own_none t short c no_data,
      from_childless t n short left c 0
          no_links,
    )
