-- A list written into another from a place on, `sets l at vs`: a number written, a range cleared
-- and bytes copied are all of this form. It is a run of single stores, each at its own place, so
-- most laws go by induction on the run. `length-sets` of `lib.Seq` says that the length stays.
use mathlib.Core.Path.{◌≡◌, refl, sym, ap, ◌∙◌}
use mathlib.Core.Logic.{◌⊎◌, inl, inr, ⊎_elim}
use Prim.Native.Nat.{ℕ, zero, suc, ◌+◌, ◌≤◌, ◌<◌}
use native.Mathlib.Nat.{add-zero, add-suc, suc-add, not-suc-le-zero}
use native.Mathlib.Omega.{arith}
use mathlib.Core.List.{List, [], ◌∷◌, ◌++◌}
use lib.ListN.{length, get_or, set, take, drop, length-set, length-take, length-drop}
use lib.ListN.{take-append-drop}
use lib.Seq.{sets, sets-eq, set-set, set_comm, get_or-set_same, get_or-set_other, take-add}

module _ {ℓ} {A : Type ℓ} where
  -- ---- what is read after a run

  pub get_d_outside : (l vs : List A) (at k : ℕ) (d : A) → (k < at) ⊎ (at + length vs ≤ k)
      → get_or (sets l at vs) k d ≡ get_or l k d
  get_d_outside l [] at k d h = refl
  get_d_outside l (v ∷ vs) at k d h =
      get_d_outside (set l at v) vs (suc at) k d
      (⊎_elim (λ b. inl (omega arith)) (λ a. inr (omega arith)) h)
      ∙ get_or-set_other l at k v d (⊎_elim (λ b. omega arith) (λ a. omega arith) h)

  pub get_d_inside : (l vs : List A) (at k : ℕ) (d : A) → k < length vs → at + length vs ≤ length l
      → get_or (sets l at vs) (at + k) d ≡ get_or vs k d
  get_d_inside l [] at k d h f = absurd (not-suc-le-zero h)
  get_d_inside l (v ∷ vs) at zero d h f =
      rw (add-zero at)
      (get_d_outside (set l at v) vs (suc at) at d (inl (omega arith)) ∙ get_or-set_same l at v d
      (omega arith))
  get_d_inside l (v ∷ vs) at (suc k) d h f =
      rw (add-suc at k, ← suc-add at k)
      (get_d_inside (set l at v) vs (suc at) k d (omega arith) (simp length-set (omega arith)))

  -- ---- a run in two parts

  pub sets_append : (l : List A) (at : ℕ) (a b : List A) → sets l at (a ++ b) ≡ sets (sets l at a)
      (at + length a) b
  sets_append l at [] b = rw (add-zero at)
  sets_append l at (x ∷ a) b =
      sets_append (set l at x) (suc at) a b ∙ rw (add-suc at (length a), suc-add at (length a))

  -- ---- a store, then a whole run, moved past a run at other places

  pub set_sets : (l vs : List A) (at i : ℕ) (a : A) → (i < at) ⊎ (at + length vs ≤ i)
      → sets (set l i a) at vs ≡ set (sets l at vs) i a
  set_sets l [] at i a h = refl
  set_sets l (v ∷ vs) at i a h =
      ap (λ (r : List A). sets r (suc at) vs)
      (set_comm l i at a v (⊎_elim (λ b. omega arith) (λ c. omega arith) h))
      ∙ set_sets (set l at v) vs (suc at) i a
      (⊎_elim (λ b. inl (omega arith)) (λ c. inr (omega arith)) h)

  pub sets_comm : (l vs us : List A) (at bt : ℕ) → (bt + length us ≤ at) ⊎ (at + length vs ≤ bt)
      → sets (sets l at vs) bt us ≡ sets (sets l bt us) at vs
  sets_comm l vs [] at bt h = refl
  sets_comm l vs (u ∷ us) at bt h =
      ap (λ (r : List A). sets r (suc bt) us)
      (sym (set_sets l vs at bt u
      (⊎_elim (λ b. inl (omega arith)) (λ c. inr (omega arith)) h)))
      ∙ sets_comm (set l bt u) vs us at (suc bt)
      (⊎_elim (λ b. inl (omega arith)) (λ c. inr (omega arith)) h)

  -- ---- a second run at the same places replaces the first

  pub sets_over : (l us vs : List A) (at : ℕ) → length us ≡ length vs → sets (sets l at us) at vs
      ≡ sets l at vs
  sets_over l [] [] at e = refl
  sets_over l [] (v ∷ vs) at e = absurd (omega arith)
  sets_over l (u ∷ us) [] at e = absurd (omega arith)
  sets_over l (u ∷ us) (v ∷ vs) at e =
      ap (λ (r : List A). sets r (suc at) vs)
      (sym (set_sets (set l at u) us (suc at) at v (inl (omega arith))))
      ∙ sets_over (set (set l at u) at v) us vs (suc at) (omega arith)
      ∙ ap (λ (r : List A). sets r (suc at) vs) (set-set l at u v)

  -- ---- writing what is there changes nothing

  pub sets_same : (l : List A) (at w : ℕ) → at + w ≤ length l → sets l at (take w (drop at l)) ≡ l
  sets_same l at w h =
      let n : length (take w (drop at l)) ≡ w = simp (length-take, length-drop) (omega arith) in
      sets-eq (take w (drop at l)) l at (omega arith)
      ∙ ap (λ (k : ℕ). take at l ++ take w (drop at l) ++ drop (at + k) l) n
      ∙ ap (λ (r : List A). r ++ drop (at + w) l) (sym (take-add at w l))
      ∙ take-append-drop (at + w) l
