-- The same writes on two images of one length: where the images agree on a byte they agree on it
-- afterwards, and where a write goes over it they agree whatever they held.
use Prim.Native.Nat.{ℕ, suc, ◌+◌, ◌-◌, ◌*◌, ◌≤◌, ◌<◌}
use mathlib.Core.Path.{◌≡◌, sym, ap, subst, ◌∙◌}
use mathlib.Core.List.{List, [], ◌∷◌}
use native.Mathlib.Nat.{suc-mul}
use native.Mathlib.Numerals.{add-one}
use native.Mathlib.Decide.{ℕ_discrete, dec_lt}
use native.Mathlib.Omega.{arith}
use lib.ListN.{length, get_or, set, length-set, get_or-eq_default}
use lib.Seq.{sets, length-sets, get_or-set_same, get_or-set_other}
use Rattle.field.proofs.Sets.{get_d_inside}
use Rattle.trie.specs.Table.{LettersBelow}
use Rattle.head.specs.declared.Head.{Head}
use Rattle.head.specs.Fields.{node_width, node_place}
use Rattle.head.proofs.Places.{place_add}
use Rattle.node.specs.Writes.{Write, carried_out, last_node, path_node, new_nodes}
use Rattle.node.specs.Frame.{InBytes}
use Rattle.node.proofs.WholeNodes.{length_path, length_last}

module _ (p : ℕ) where
  -- the two images agree on byte p
  abbrev pub AgreeAt : List ℕ → List ℕ → Type 0
  AgreeAt a b = get_or a p 0 ≡ get_or b p 0

  one_same : (a b : List ℕ) (at v : ℕ) → length a ≡ length b → AgreeAt a b
      → AgreeAt (set a at v) (set b at v)
  one_same a b at v n e = go (ℕ_discrete p at) (dec_lt p (length a))
    where
      go : Dec (p ≡ at) → Dec (p < length a) → AgreeAt (set a at v) (set b at v)
      go (no f) _ = get_or-set_other a at p v 0 f ∙ e ∙ sym (get_or-set_other b at p v 0 f)
      go (yes f) (yes c) =
          rw f (get_or-set_same a at v 0 (omega arith)
          ∙ sym (get_or-set_same b at v 0 (omega arith)))
      go (yes f) (no c) =
          get_or-eq_default (set a at v) 0 {n = p} (simp length-set (omega arith))
          ∙ sym (get_or-eq_default (set b at v) 0 {n = p} (simp length-set (omega arith)))

  pub sets_agree : (a b : List ℕ) (at : ℕ) (vs : List ℕ) → length a ≡ length b → AgreeAt a b
      → AgreeAt (sets a at vs) (sets b at vs)
  sets_agree a b at [] n e = e
  sets_agree a b at (v ∷ vs) n e =
      sets_agree (set a at v) (set b at v) (suc at) vs (simp length-set n) (one_same a b at v n e)

  pub carried_agree : (a b : List ℕ) (ws : List Write) → length a ≡ length b → AgreeAt a b
      → AgreeAt (carried_out a ws) (carried_out b ws)
  unfolding carried_out
  carried_agree a b [] n e = e
  carried_agree a b (w ∷ ws) n e =
      carried_agree (sets a w.place w.bytes) (sets b w.place w.bytes) ws
      (length-sets a w.place w.bytes ∙ n ∙ sym (length-sets b w.place w.bytes))
      (sets_agree a b w.place w.bytes n e)

  -- bytes that a write goes over
  pub sets_cover : (a b : List ℕ) (at : ℕ) (vs : List ℕ) → length a ≡ length b
      → InBytes at (length vs) p → at + length vs ≤ length a
      → AgreeAt (sets a at vs) (sets b at vs)
  sets_cover a b at vs n i inside =
      let k : ℕ = p - at in
      let here : at + k ≡ p = omega arith in
      subst (λ (j : ℕ). get_or (sets a at vs) j 0 ≡ get_or (sets b at vs) j 0) here
      (get_d_inside a vs at k 0 (omega arith) inside
      ∙ sym (get_d_inside b vs at k 0 (omega arith) (omega arith)))

  -- the bytes of new nodes
  pub nodes_cover : (h : Head) (q : ℕ) (ys : List ℕ) (v : ℕ) (a b : List ℕ)
      → length a ≡ length b → LettersBelow h.n ys
      → InBytes (node_place h q) (suc (length ys) * node_width h) p
      → node_place h q + suc (length ys) * node_width h ≤ length a
      → AgreeAt (carried_out a (new_nodes h q ys v)) (carried_out b (new_nodes h q ys v))
  unfolding carried_out new_nodes
  nodes_cover h q [] v a b n s i inside =
      let w : length (last_node h v) ≡ node_width h = length_last h v in
      let one : 1 * node_width h ≡ node_width h = omega (arith, suc-mul 0 (node_width h)) in
      sets_cover a b (node_place h q) (last_node h v) n (omega arith, omega arith) (omega arith)
  nodes_cover h q (y ∷ ys) v a b n s i inside =
      go (dec_lt p (node_place h (suc q)))
      (nodes_cover h (suc q) ys v (sets a (node_place h q) (path_node h y (suc q)))
      (sets b (node_place h q) (path_node h y (suc q)))
      (length-sets a (node_place h q) (path_node h y (suc q)) ∙ n
      ∙ sym (length-sets b (node_place h q) (path_node h y (suc q)))) s.1)
    where
      bytes : List ℕ
      bytes = path_node h y (suc q)

      w : length bytes ≡ node_width h
      w = length_path h y (suc q) s.0

      more : suc (suc (length ys)) * node_width h ≡ suc (length ys) * node_width h + node_width h
      more = suc-mul (suc (length ys)) (node_width h)

      next : node_place h (suc q) ≡ node_place h q + 1 * node_width h
      next = ap (node_place h) (sym (add-one q)) ∙ place_add h q 1

      kept : length (sets a (node_place h q) bytes) ≡ length a
      kept = length-sets a (node_place h q) bytes

      same : length (sets a (node_place h q) bytes) ≡ length (sets b (node_place h q) bytes)
      same = kept ∙ n ∙ sym (length-sets b (node_place h q) bytes)

      rest : Type 0
      rest = AgreeAt (carried_out (sets a (node_place h q) bytes) (new_nodes h (suc q) ys v))
          (carried_out (sets b (node_place h q) bytes) (new_nodes h (suc q) ys v))

      go : Dec (p < node_place h (suc q))
          → (InBytes (node_place h (suc q)) (suc (length ys) * node_width h) p
          → node_place h (suc q) + suc (length ys) * node_width h
          ≤ length (sets a (node_place h q) bytes) → rest)
          → rest
      go (yes c) later =
          carried_agree (sets a (node_place h q) bytes) (sets b (node_place h q) bytes)
          (new_nodes h (suc q) ys v) same
          (sets_cover a b (node_place h q) bytes n (omega arith, omega (arith, w, next))
          (omega (arith, w, more)))
      go (no c) later =
          later (omega arith, omega (arith, more, next)) (omega (arith, more, next, kept))
