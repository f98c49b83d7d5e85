-- The keys of a list that meet a request. Each law goes down the list and asks whether each key
-- meets. The first key that meets is the first of those that meet, and the keys after it are the
-- others that meet.
use Prim.Native.Nat.{ℕ, ◌≤◌}
use native.Mathlib.Omega.{arith}
use mathlib.Core.Bool.{Bool, true, false, true≢false}
use mathlib.Core.List.{List, [], ◌∷◌, ◌++◌, map, Memᴰ}
use mathlib.Core.List.{nil≢cons, head-eq_of_cons-eq}
use mathlib.Core.List.{tail-eq_of_cons-eq}
use mathlib.Core.Logic.{◌↔◌, ⊎_elim}
use mathlib.Core.Option.{some, some-injective, some-ne-none}
use mathlib.Core.Path.{◌≡◌, refl, sym, ◌∙◌, ap, subst}
use lib.ListN.{length}
use Rattle.trie.specs.Keys.{first_meeting, meets, filter, Ascending}
use Rattle.trie.specs.Beyond.{first_of}
use Rattle.trie.proofs.Before.{before_irrefl, before_asym, meets_any, meets_on}

pub filter_in : (p : List ℕ → Bool) (k : List ℕ) (l : List (List ℕ)) → p k ≡ true
    → filter p (k ∷ l) ≡ k ∷ filter p l
unfolding filter
filter_in p k l e = rw e

pub filter_out : (p : List ℕ → Bool) (k : List ℕ) (l : List (List ℕ)) → p k ≡ false
    → filter p (k ∷ l) ≡ filter p l
unfolding filter
filter_out p k l e = rw e

-- what holds in both cases, whether a key meets or not
pub by_test {ℓ} : (X : Type ℓ) (p : List ℕ → Bool) (k : List ℕ) → (p k ≡ true → X)
    → (p k ≡ false → X) → X
by_test X p k met unmet = go (p k) refl
  where
    go : (b : Bool) → p k ≡ b → X
    go true e = met e
    go false e = unmet e

pub filter_append : (p : List ℕ → Bool) (l m : List (List ℕ)) → filter p (l ++ m) ≡ filter p l
    ++ filter p m
unfolding filter
filter_append p [] m = refl
filter_append p (k ∷ l) m =
    let on = filter_append p l m in
    by_test _ p k (λ e. rw (e, on)) (λ e. rw (e, on))

-- keys that begin with one letter, if the request depends only on what follows it
pub filter_map : (p r : List ℕ → Bool) (x : ℕ) (l : List (List ℕ))
    → ((k : List ℕ) → p (x ∷ k) ≡ r k)
    → filter p (map (x ∷◌) l) ≡ map (x ∷◌) (filter r l)
unfolding filter
filter_map p r x [] same = refl
filter_map p r x (k ∷ l) same =
    let on = filter_map p r x l same in
    by_test _ r k (λ e. rw (same k, e, on)) (λ e. rw (same k, e, on))

pub filter_none : (p : List ℕ → Bool) (l : List (List ℕ))
    → ((k : List ℕ) → Memᴰ k l → p k ≡ false) → filter p l ≡ []
unfolding filter
filter_none p [] h = refl
filter_none p (k ∷ l) h =
    filter_out p k l (h k (mathlib.Core.List.Memᴰ.head refl))
    ∙ filter_none p l (λ m a. h m (mathlib.Core.List.Memᴰ.tail a))

pub filter_every : (p : List ℕ → Bool) (l : List (List ℕ))
    → ((k : List ℕ) → Memᴰ k l → p k ≡ true) → filter p l ≡ l
unfolding filter
filter_every p [] h = refl
filter_every p (k ∷ l) h =
    filter_in p k l (h k (mathlib.Core.List.Memᴰ.head refl))
    ∙ ap (k ∷◌) (filter_every p l (λ m a. h m (mathlib.Core.List.Memᴰ.tail a)))

pub first_filter : (p : List ℕ → Bool) (l : List (List ℕ)) → first_meeting p l
    ≡ first_of (filter p l)
unfolding first_meeting filter first_of
first_filter p [] = refl
first_filter p (k ∷ l) =
    let on = first_filter p l in
    by_test _ p k (λ e. rw e) (λ e. rw (e, on))

pub filter_holds : (p : List ℕ → Bool) (l : List (List ℕ)) (m : List ℕ) → Memᴰ m (filter p l)
    ↔ (Memᴰ m l × (p m ≡ true))
unfolding filter
filter_holds p [] m = (λ a. absurd (mathlib.Core.List.Memᴰ.not-nil a), λ h. h.0)
filter_holds p (k ∷ l) m =
    by_test _ p k
    (λ e. (
      λ a.
          ⊎_elim
          (λ f. (mathlib.Core.List.Memᴰ.head f, ap p f ∙ e))
          (λ b. let h = (filter_holds p l m).0 b in (mathlib.Core.List.Memᴰ.tail h.0, h.1))
          (mathlib.Core.List.Memᴰ.cases_cons (rw (filter_in p k l e) at a)),
      λ h.
          rw e
          (⊎_elim mathlib.Core.List.Memᴰ.head
          (λ b. mathlib.Core.List.Memᴰ.tail ((filter_holds p l m).1 (b, h.1)))
          (mathlib.Core.List.Memᴰ.cases_cons h.0)),
    ))
    (λ e. (
      λ a. let h =
          (filter_holds p l m).0 (rw (filter_out p k l e) at a) in
          (mathlib.Core.List.Memᴰ.tail h.0, h.1),
      λ h.
          rw e
          (⊎_elim
          (λ f. absurd (true≢false (sym h.1 ∙ ap p f ∙ e)))
          (λ b. (filter_holds p l m).1 (b, h.1))
          (mathlib.Core.List.Memᴰ.cases_cons h.0)),
    ))

pub filter_ascending : (p : List ℕ → Bool) (l : List (List ℕ)) → Ascending l
    → Ascending (filter p l)
unfolding filter
filter_ascending p [] up = tt
filter_ascending p (k ∷ l) up =
    by_test _ p k
    (λ e. rw e (λ m a. up.0 m ((filter_holds p l m).0 a).0, filter_ascending p l up.1))
    (λ e. rw e (filter_ascending p l up.1))

pub filter_length : (p : List ℕ → Bool) (l : List (List ℕ)) → length (filter p l) ≤ length l
unfolding filter
filter_length p [] = omega arith
filter_length p (k ∷ l) =
    let on = filter_length p l in
    by_test _ p k (λ e. rw e (omega arith)) (λ e. rw e (omega arith))

-- a key that is found is in the list, and meets
pub first_listed : (p : List ℕ → Bool) (l : List (List ℕ)) {k : List ℕ} → first_meeting p l
    ≡ some k
    → Memᴰ k l × (p k ≡ true)
unfolding first_meeting
first_listed p [] {k} h = absurd (some-ne-none k (sym h))
first_listed p (x ∷ l) {k} h =
    by_test _ p x
    (λ e. let same : x ≡ k = some-injective x k (rw e at h) in
    (mathlib.Core.List.Memᴰ.head (sym same), ap p (sym same) ∙ e))
    (λ e. let f = first_listed p l (rw e at h) in (mathlib.Core.List.Memᴰ.tail f.0, f.1))

-- every key is at or after the empty key
pub filter_all : (l : List (List ℕ)) → filter (meets false []) l ≡ l
filter_all l = filter_every (meets false []) l (λ k a. meets_any k)

-- if m is the first key that meets a request, the keys after m are the others that meet it
pub filter_next : (keys : List (List ℕ)) (after : Bool) (k : List ℕ) {m : List ℕ}
    {ms : List (List ℕ)}
    → Ascending keys
    → filter (meets after k) keys ≡ m ∷ ms
    → filter (meets true m) keys ≡ ms
unfolding filter meets
filter_next [] after k up e = absurd (nil≢cons e)
filter_next (x ∷ l) after k {m} {ms} up e =
    by_test _ (meets after k) x met (unmet (filter_next l after k up.1))
  where
    met : meets after k x ≡ true → filter (meets true m) (x ∷ l) ≡ ms
    met h =
        let f : x ∷ filter (meets after k) l ≡ m ∷ ms =
        sym (filter_in (meets after k) x l h) ∙ e in
        subst
        (λ (j : List ℕ). filter (meets true j) (x ∷ l) ≡ ms)
        (head-eq_of_cons-eq f)
        (filter_out (meets true x) x l (before_irrefl x)
        ∙ filter_every (meets true x) l up.0
        ∙ sym (filter_every (meets after k) l (λ j a. meets_on after k x j h (up.0 j a)))
        ∙ tail-eq_of_cons-eq f)

    unmet : (filter (meets after k) l ≡ m ∷ ms → filter (meets true m) l ≡ ms)
        → meets after k x ≡ false
        → filter (meets true m) (x ∷ l) ≡ ms
    unmet rest h =
        let f : filter (meets after k) l ≡ m ∷ ms =
        sym (filter_out (meets after k) x l h) ∙ e in
        let held : Memᴰ m l =
        ((filter_holds (meets after k) l m).0 (rw f (mathlib.Core.List.Memᴰ.head refl))).0 in
        filter_out (meets true m) x l (before_asym x m (up.0 m held)) ∙ rest f
