-- A store keeps the rules on links and on data. Every walk that ended at a node still ends there,
-- so older nodes are reached as before. A new node is reached through the node whose empty link it
-- fills.
use Prim.Native.Nat.{ℕ, suc, ◌+◌, ◌≤◌}
use mathlib.Core.List.{List, [], ◌∷◌, ◌++◌, List-discrete}
use mathlib.Core.Path.{◌≡◌, ◌∙◌, ap}
use native.Mathlib.Decide.{ℕ_discrete, dec_le}
use native.Mathlib.Omega.{arith}
use lib.ListN.{length}
use Rattle.trie.specs.Table.{Table, LettersBelow, complete, descend, missing}
use Rattle.trie.specs.Tree.{Reachable}
use Rattle.trie.specs.Rules.{Framed, AllReached, LinkRules, Linked, Visible}
use Rattle.trie.specs.Storing.{put, grow, grow_path, stored, added}
use Rattle.trie.proofs.Put.{put_descend}
use Rattle.trie.proofs.Grow.{grow_descend, grow_descend_new, Room, room, room_next}
use Rattle.trie.proofs.Storing.{Store, over, unchanged, longer, store, stored_linked}
use Rattle.trie.proofs.Storing.{stored_answer_other}

grow_reached : (t : Table) (g q x : ℕ) → AllReached t g → q ≤ g → t.child q x ≡ 0
    → AllReached (grow t q x (suc g)) (suc g)
grow_reached t g q x r low e c high = go (dec_le c g)
  where
    go : Dec (c ≤ g) → Reachable (grow t q x (suc g)) c
    go (yes b) = let (k, f) = r c b in (k, grow_descend t q x (suc g) 0 k e f)
    go (no b) =
        let (k, f) = r q low in
        let same : suc g ≡ c = omega arith in (
          k ++ (x ∷ []),
          grow_descend_new t q x (suc g) 0 k e (omega arith) f ∙ ap complete same,
        )

grow_path_reached : {t : Table} {g n q x : ℕ} (xs : List ℕ) → Room t g n q x xs → AllReached t g
    → AllReached (grow_path t q x xs (suc g)) (g + suc (length xs))
unfolding grow_path
grow_path_reached {t} {g} {n} {q} {x} [] r all =
    let e : g + 1 ≡ suc g = omega arith in rw e (grow_reached t g q x all r.node r.empty)
grow_path_reached {t} {g} {n} {q} {x} (y ∷ ys) r all =
    let e : g + suc (suc (length ys)) ≡ suc g + suc (length ys) = omega arith in
    rw e (grow_path_reached {t = grow t q x (suc g)} {g = suc g} {q = suc g} {x = y} ys
    (room_next r) (grow_reached t g q x all r.node r.empty))

put_reached : (t : Table) (g q v : ℕ) → AllReached t g → AllReached (put t q v) g
put_reached t g q v r c high = let (k, e) = r c high in (k, put_descend t q v 0 k ∙ e)

reached : {t : Table} {g n v : ℕ} {k : List ℕ} {s : Table} {g' : ℕ} → Linked t g n
    → LettersBelow n k
    → AllReached t g → Store t g k v s g'
    → AllReached s g'
reached {t} {g = g} l letters r (over {q} {v} e) = put_reached t g q v r
reached l letters r (unchanged e) = r
reached {t} {g = g} {k = k} l letters r (longer {q} {x} {xs} {v} e) =
    put_reached (grow_path t q x xs (suc g)) (g + suc (length xs)) (g + suc (length xs)) (suc v)
    (grow_path_reached xs (room k l letters e) r)

pub rules_linked : {t : Table} {g n : ℕ} → Framed t g n → LinkRules t g → Linked t g n
rules_linked f r = record { framed = f; within = r.within; named = r.named; once = r.once }

pub stored_rules : {t : Table} {g n : ℕ} → Framed t g n → LinkRules t g → (k : List ℕ)
    → LettersBelow n k → (v : ℕ)
    → LinkRules (stored t g k v) (g + added (missing (descend t 0 k)) v)
stored_rules {t} {g} f r k letters v =
    let l = rules_linked f r in
    let s = stored_linked l k letters v in
    record {
      within = s.within;
      named = s.named;
      once = s.once;
      reached = reached l letters r.reached (store t g k v);
    }

-- A store keeps data at depths from `least` to `most`: of all keys only the one that is stored
-- answers otherwise than before, and its length is in these bounds.
pub stored_visible : {t : Table} {g n : ℕ} → Linked t g n → (least most : ℕ) → Visible t least most
    → (k : List ℕ) → LettersBelow n k → least ≤ length k → length k ≤ most → (v : ℕ)
    → Visible (stored t g k v) least most
stored_visible {t} {g} l least most visible k letters low high v m full =
    go (List-discrete ℕ_discrete m k)
  where
    go : Dec (m ≡ k) → (least ≤ length m) × (length m ≤ most)
    go (yes e) = rw e (low, high)
    go (no d) = visible m (λ z. full (stored_answer_other l k letters v m d ∙ z))
