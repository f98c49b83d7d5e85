-- The keys of the plain list: `plain_keys` has exactly the keys whose last value is not 0, once
-- and
-- in order. Two lists in order with the same keys are equal, so the stored keys of an image that
-- answers as the plain list are `plain_keys`.
use Prim.Native.Nat.{ℕ}
use mathlib.Core.Path.{◌≡◌, refl, sym, ap, ap₂, subst, ◌∙◌}
use mathlib.Core.Logic.{◌↔◌, ◌≢◌, ◌⊎◌, inl, inr, ⊎_elim}
use mathlib.Core.Bool.{Bool, true, false, not, true≢false}
use mathlib.Core.List.Memᴰ
use mathlib.Core.List.{List, [], ◌∷◌, Memᴰ}
use lib.Dec.{eqb}
use borrow.Author.Tests.{eqb-true, eq-eqb, ne_eqb}
use Rattle.field.proofs.Range.{both}
use Rattle.trie.specs.Keys.{before, Ascending}
use Rattle.trie.proofs.Before.{before_irrefl, before_trans, before_asym, before_total}
use Rattle.trie.proofs.Filter.{filter_holds, filter_ascending}
use Rattle.runs.specs.Runs.{same_key, Entry, last_of, put_key, all_keys, plain_keys}

-- ---- two lists in order

-- what comes before itself is nothing
not_itself : {k m : List ℕ} → k ≡ m → before k m ≡ true → ⊥
not_itself {k} {m} e b = true≢false (sym b ∙ ap (λ (x : List ℕ). before x m) e ∙ before_irrefl m)

-- lists in order with the same keys are equal
pub same_keys : (xs ys : List (List ℕ)) → Ascending xs → Ascending ys
    → ((k : List ℕ) → Memᴰ k xs → Memᴰ k ys)
    → ((k : List ℕ) → Memᴰ k ys → Memᴰ k xs)
    → xs ≡ ys
same_keys [] [] up un f g = refl
same_keys [] (y ∷ ys) up un f g = absurd (Memᴰ.not-nil (g y (Memᴰ.head refl)))
same_keys (x ∷ xs) [] up un f g = absurd (Memᴰ.not-nil (f x (Memᴰ.head refl)))
same_keys (x ∷ xs) (y ∷ ys) up un f g =
    ap₂ ◌∷◌ heads (same_keys xs ys up.1 un.1 (λ k a. later k a) (λ k a. sooner k a))
  where
    heads : x ≡ y
    heads =
        ⊎_elim (λ e. e)
        (λ a. ⊎_elim (λ e. sym e)
        (λ b. absurd (true≢false (sym (un.0 x a) ∙ before_asym x y (up.0 y b))))
        (Memᴰ.cases_cons (g y (Memᴰ.head refl))))
        (Memᴰ.cases_cons (f x (Memᴰ.head refl)))

    later : (k : List ℕ) → Memᴰ k xs → Memᴰ k ys
    later k a =
        ⊎_elim (λ e. absurd (not_itself (heads ∙ sym e) (up.0 k a))) (λ b. b)
        (Memᴰ.cases_cons (f k (Memᴰ.tail a)))

    sooner : (k : List ℕ) → Memᴰ k ys → Memᴰ k xs
    sooner k a =
        ⊎_elim (λ e. absurd (not_itself (sym heads ∙ sym e) (un.0 k a))) (λ b. b)
        (Memᴰ.cases_cons (g k (Memᴰ.tail a)))

-- ---- a key put among others

-- the three ways in which a key stands to another
by_order : {X : Type 0} (k m : List ℕ) → (before k m ≡ true → X)
    → (before k m ≡ false → before m k ≡ true → X) → (before k m ≡ false → before m k ≡ false → X)
    → X
by_order {X} k m first later same = go (before k m) (before m k) refl refl
  where
    go : (b c : Bool) → before k m ≡ b → before m k ≡ c → X
    go true c e f = first e
    go false true e f = later e f
    go false false e f = same e f

module _ (k m : List ℕ) (ms : List (List ℕ)) where
  put_first : before k m ≡ true → put_key k (m ∷ ms) ≡ k ∷ m ∷ ms
  unfolding put_key
  put_first e = rw e

  put_later : before k m ≡ false → before m k ≡ true → put_key k (m ∷ ms) ≡ m ∷ put_key k ms
  unfolding put_key
  put_later e f = rw (e, f)

  put_same : before k m ≡ false → before m k ≡ false → put_key k (m ∷ ms) ≡ m ∷ ms
  unfolding put_key
  put_same e f = rw (e, f)

-- the keys are then that key and the others
abbrev PutHolds : List ℕ → List (List ℕ) → List ℕ → List (List ℕ) → Type 0
PutHolds k ms j put = Memᴰ j put ↔ ((j ≡ k) ⊎ Memᴰ j ms)

put_holds : (k : List ℕ) (ms : List (List ℕ)) (j : List ℕ) → PutHolds k ms j (put_key k ms)
unfolding put_key
put_holds k [] j = (
  λ a. ⊎_elim (λ e. inl e) (λ b. absurd (Memᴰ.not-nil b)) (Memᴰ.cases_cons a),
  λ s. ⊎_elim (λ e. Memᴰ.head e) (λ b. absurd (Memᴰ.not-nil b)) s,
)
put_holds k (m ∷ ms) j =
    by_order k m
    (λ e. subst (PutHolds k (m ∷ ms) j) (sym (put_first k m ms e)) (
      λ a. Memᴰ.cases_cons a,
      λ s. ⊎_elim (λ q. Memᴰ.head q) (λ b. Memᴰ.tail b) s,
    ))
    (λ e f. subst (PutHolds k (m ∷ ms) j) (sym (put_later k m ms e f)) (
      λ a. ⊎_elim (λ q. inr (Memᴰ.head q))
          (λ b. ⊎_elim (λ q. inl q) (λ c. inr (Memᴰ.tail c)) ((put_holds k ms j).0 b))
          (Memᴰ.cases_cons a),
      λ s. ⊎_elim (λ q. Memᴰ.tail ((put_holds k ms j).1 (inl q)))
          (λ a. ⊎_elim (λ q. Memᴰ.head q)
          (λ b. Memᴰ.tail ((put_holds k ms j).1 (inr b)))
          (Memᴰ.cases_cons a)) s,
    ))
    (λ e f. subst (PutHolds k (m ∷ ms) j) (sym (put_same k m ms e f)) (
      λ a. inr a,
      λ s. ⊎_elim (λ q. Memᴰ.head (q ∙ before_total k m e f)) (λ a. a) s,
    ))

put_ascending : (k : List ℕ) (ms : List (List ℕ)) → Ascending ms → Ascending (put_key k ms)
unfolding put_key
put_ascending k [] up = (λ j a. absurd (Memᴰ.not-nil a), tt)
put_ascending k (m ∷ ms) up =
    by_order k m
    (λ e. subst Ascending (sym (put_first k m ms e)) (
      λ j a. ⊎_elim (λ q. ap (before k) q ∙ e)
          (λ b. before_trans k m j e (up.0 j b)) (Memᴰ.cases_cons a),
      up,
    ))
    (λ e f. subst Ascending (sym (put_later k m ms e f)) (
      λ j a. ⊎_elim (λ q. ap (before m) q ∙ f) (λ b. up.0 j b) ((put_holds k ms j).0 a),
      put_ascending k ms up.1,
    ))
    (λ e f. subst Ascending (sym (put_same k m ms e f)) up)

-- ---- the keys of the plain list

pub same_itself : (k : List ℕ) → same_key k k ≡ true
unfolding same_key
same_itself [] = refl
same_itself (x ∷ k) = rw (eq-eqb x x refl, same_itself k)

pub same_key_lem : (k m : List ℕ) → same_key k m ≡ true → k ≡ m
unfolding same_key
same_key_lem [] [] e = refl
same_key_lem [] (y ∷ m) e = cc
same_key_lem (x ∷ k) [] e = cc
same_key_lem (x ∷ k) (y ∷ m) e =
    let u = both (eqb x y) (same_key k m) e in
    let here : x ≡ y = eqb-true x y u.0 in
    let there : k ≡ m = same_key_lem k m u.1 in
    cc

all_ascending : (plain : List Entry) → Ascending (all_keys plain)
unfolding all_keys
all_ascending [] = tt
all_ascending (e ∷ plain) = put_ascending e.key (all_keys plain) (all_ascending plain)

-- a key with a last value is one of them
all_holds : (plain : List Entry) (k : List ℕ) → last_of plain k ≢ 0 → Memᴰ k (all_keys plain)
unfolding all_keys last_of
all_holds [] k z = absurd (z refl)
all_holds (e ∷ plain) k z =
    (put_holds e.key (all_keys plain) k).1
    (by_same e.key k (λ q. inl (sym (same_key_lem e.key k q)))
    (λ q. inr (all_holds plain k (λ w. z (rw q w)))))
  where
    by_same : {X : Type 0} (m j : List ℕ) → (same_key m j ≡ true → X)
        → (same_key m j ≡ false → X) → X
    by_same {X} m j same other = go (same_key m j) refl
      where
        go : (b : Bool) → same_key m j ≡ b → X
        go true q = same q
        go false q = other q

pub plain_ascending : (plain : List Entry) → Ascending (plain_keys plain)
unfolding plain_keys
plain_ascending plain = filter_ascending _ (all_keys plain) (all_ascending plain)

-- `plain_keys` has exactly the keys whose last value is not 0
pub plain_holds : (plain : List Entry) (k : List ℕ)
    → Memᴰ k (plain_keys plain) ↔ (last_of plain k ≢ 0)
unfolding plain_keys
plain_holds plain k =
    let f = filter_holds (λ j. not (eqb (last_of plain j) 0)) (all_keys plain) k in (
      λ a z. true≢false (sym (f.0 a).1 ∙ ap not (eq-eqb (last_of plain k) 0 z)),
      λ z. f.1 (all_holds plain k z, ap not (ne_eqb (last_of plain k) 0 z)),
    )
