-- The writes of a new path, as the code does them. At each turn the writes that are left, done
-- on the image so far, give the image that all writes together give.
use Prim.Native.Nat.{ℕ, suc, ◌+◌, ◌^◌, ◌≤◌, ◌<◌}
use mathlib.Core.Path.{◌≡◌, refl, sym, ◌∙◌, ap}
use mathlib.Core.List.{List, [], ◌∷◌}
use native.Mathlib.Omega.{arith}
use lib.ListN.{length, get_or, drop}
use lib.Seq.{drop-length, drop-cons}
use Rattle.head.specs.declared.Head.{Head}
use Rattle.head.specs.Fields.{put_total, node_width, node_place, used_len}
use Rattle.head.proofs.Places.{place_le}
use Rattle.node.specs.Writes.{carried_out, path_write, last_write, new_nodes, total_write}
use Rattle.node.specs.Writes.{link_write}
use Rattle.node.proofs.Heads.{with_total}
use Rattle.node.proofs.StoreOnTable.{length_carried, carried_append}
use Rattle.storing.specs.StoreStage.{Space, Builds}

-- addresses and room, once 12 and 13 have passed
pub space : {h : Head} {l : List ℕ} {total : ℕ} → total < 256 ^ h.a → used_len (with_total h total)
    ≤ length l → Space h l total
unfolding used_len node_place node_width
space few room = record { addresses = few; room = room }

-- ---- the new nodes

-- the nodes for the first i letters are written; before the first of them the image was l₀
pub record Laying (h : Head) (ys : List ℕ) (value : ℕ) (l₀ l : List ℕ) (i node : ℕ) : Type 0 where
  pub count : node ≡ h.g + suc i
  pub long : length l ≡ length l₀
  pub rest : carried_out l (new_nodes h node (drop i ys) value) ≡ carried_out l₀
      (new_nodes h (suc h.g) ys value)

pub laying_none : (h : Head) (ys : List ℕ) (value : ℕ) (l : List ℕ)
    → Laying h ys value l l 0 (h.g + 1)
laying_none h ys value l =
    let n : h.g + 1 ≡ suc h.g = omega arith in
    record { count = omega arith; long = refl; rest = rw n refl }

module _ {h : Head} {ys : List ℕ} {value : ℕ} {l₀ l : List ℕ} {i node : ℕ}
    (w : Laying h ys value l₀ l i node) where
  -- there is room for the next node
  pub laying_room : i ≤ length ys → Space h l₀ (h.g + suc (length ys))
      → node_place h (node + 1) ≤ length l
  laying_room b s =
      omega (
        arith,
        w.long,
        s.room,
        place_le h (node + 1) (h.g + suc (length ys) + 1)
            (omega (arith, w.count)),
      )

  pub laying_on : {l' : List ℕ} → i < length ys
      → l' ≡ carried_out l (path_write h node (get_or ys i 0) (node + 1) ∷ [])
      → Laying h ys value l₀ l' (i + 1) (node + 1)
  unfolding carried_out new_nodes
  laying_on b e =
      let d : i + 1 ≡ suc i = omega arith in
      let n : node + 1 ≡ suc node = omega arith in
      record {
        count = omega (arith, w.count);
        long = ap length e
            ∙ length_carried l (path_write h node (get_or ys i 0) (node + 1) ∷ [])
            ∙ w.long;
        rest =
            rw (e, d, n)
            (ap (λ (zs : List ℕ). carried_out l (new_nodes h node zs value))
            (sym (drop-cons ys i 0 b))
            ∙ w.rest);
      }

  pub laying_end : {l' : List ℕ} → i ≡ length ys
      → l' ≡ carried_out l (last_write h node value ∷ [])
      → l' ≡ carried_out l₀ (new_nodes h (suc h.g) ys value)
  unfolding carried_out new_nodes
  laying_end d e =
      e ∙ ap (λ (zs : List ℕ). carried_out l (new_nodes h node zs value))
      (sym (ap (λ (m : ℕ). drop m ys) d ∙ drop-length ys)) ∙ w.rest

-- ---- and the two writes after them

pub built : (h : Head) (q x total value : ℕ) (ys l : List ℕ) {left l₁ l₂ l₃ : List ℕ}
    → left ≡ x ∷ ys
    → l₁ ≡ carried_out l (new_nodes h (suc h.g) ys value) → l₂ ≡ put_total l₁ total
    → l₃ ≡ carried_out l₂ (link_write h q x (h.g + 1) ∷ []) → Builds h l q left total value l₃
unfolding carried_out total_write
built h q x total value ys l e nodes g link y zs f =
    let n : h.g + 1 ≡ suc h.g = omega arith in
    let both : ◌≡◌ {A = List ℕ} (x ∷ ys) (y ∷ zs) = sym e ∙ f in
    let a : x ≡ y = cc in
    let b : ys ≡ zs = cc in
    link
    ∙ rw (g, nodes, n, a, b)
    (sym (carried_append l (new_nodes h (suc h.g) zs value)
    (total_write total ∷ link_write h q y (suc h.g) ∷ [])))
