-- A store. It puts a value at the key's own node, changes nothing, or links a new path and puts
-- the value at its end. So the laws on answers, on the rules on links and on single links and
-- data follow from those on these steps.
use Prim.Native.Nat.{ℕ, zero, suc, ◌+◌, ◌≤◌}
use mathlib.Core.List.{List}
use mathlib.Core.Path.{◌≡◌, refl, ◌∙◌}
use mathlib.Core.Logic.{◌≢◌}
use native.Mathlib.Nat.{add-zero}
use native.Mathlib.Omega.{arith}
use lib.ListN.{length}
use Rattle.trie.specs.Table.{Table, Descent, complete, stopped, descend, answer, missing}
use Rattle.trie.specs.Table.{LettersBelow}
use Rattle.trie.specs.Rules.{Linked}
use Rattle.trie.specs.Storing.{put, grow_path, stored, stored_by, added}
use Rattle.trie.proofs.Walk.{answer_stopped, complete_within, where_stopped}
use Rattle.trie.proofs.Put.{put_answer, put_answer_other, put_value_other, put_linked}
use Rattle.trie.proofs.Grow.{room, grow_path_answer, grow_path_linked, grow_path_descend}
use Rattle.trie.proofs.Grow.{grow_path_value, grow_path_child_other}

-- with no node missing none is added, whatever the value
pub none_added : (v : ℕ) → added 0 v ≡ 0
unfolding added
none_added zero = refl
none_added (suc v) = refl

-- the three cases of a store of v for key k: the table that each makes, and its greatest address
pub data Store (t : Table) (g : ℕ) (k : List ℕ) : ℕ → Table → ℕ → Type 0 where
  over : {q v : ℕ} → descend t 0 k ≡ complete q → Store t g k v (put t q v) g
  unchanged : {q x : ℕ} {xs : List ℕ} → descend t 0 k ≡ stopped q x xs → Store t g k 0 t g
  longer : {q x : ℕ} {xs : List ℕ} {v : ℕ} → descend t 0 k ≡ stopped q x xs
      → Store t g k (suc v) (put (grow_path t q x xs (suc g)) (g + suc (length xs)) (suc v))
      (g + suc (length xs))

pub store : (t : Table) (g : ℕ) (k : List ℕ) (v : ℕ) → Store t g k v (stored t g k v)
    (g + added (missing (descend t 0 k)) v)
unfolding stored added missing
store t g k v = go (descend t 0 k) v refl
  where
    go : (d : Descent) (v : ℕ) → descend t 0 k ≡ d → Store t g k v (stored_by d t g v)
        (g + added (missing d) v)
    go (complete q) zero e = rw (add-zero g) (over e)
    go (complete q) (suc v) e = rw (add-zero g) (over e)
    go (stopped q x xs) zero e = rw (add-zero g) (unchanged e)
    go (stopped q x xs) (suc v) e = longer e

module _ {t : Table} {g n : ℕ} (l : Linked t g n) (k : List ℕ) (letters : LettersBelow n k) where
  -- with its new path, the key's walk ends at the path's last node
  reaches : {q x : ℕ} {xs : List ℕ} → descend t 0 k ≡ stopped q x xs
      → descend (grow_path t q x xs (suc g)) 0 k ≡ complete (g + suc (length xs))
  reaches {q} {x} {xs} e =
      let s = where_stopped t 0 k e in
      rw s.key (grow_path_descend xs s.path (room k l letters e) s.reaches)

  answers : {v : ℕ} {s : Table} {g' : ℕ} → Store t g k v s g' → answer s k ≡ v
  answers (over {v = v} e) = put_answer t k v e
  answers (unchanged e) = answer_stopped t k e
  answers (longer {q} {x} {xs} {v} e) =
      put_answer (grow_path t q x xs (suc g)) k (suc v) (reaches e)

  answers_other : {v : ℕ} {s : Table} {g' : ℕ} (m : List ℕ) → m ≢ k → Store t g k v s g'
      → answer s m ≡ answer t m
  answers_other m h (over {v = v} e) = put_answer_other t k v m l.once e h
  answers_other m h (unchanged e) = refl
  answers_other m h (longer {q} {x} {xs} {v} e) =
      let r = room k l letters e in
      put_answer_other (grow_path t q x xs (suc g)) k (suc v) m (grow_path_linked xs r).once
      (reaches e) h ∙ grow_path_answer xs r m

  links : {v : ℕ} {s : Table} {g' : ℕ} → Store t g k v s g' → Linked s g' n
  links (over {q} {v} e) = put_linked q v l (complete_within t g k l.within e)
  links (unchanged e) = l
  links (longer {q} {x} {xs} {v} e) = put_linked (g + suc (length xs)) (suc v)
      (grow_path_linked xs (room k l letters e)) (omega arith)

  -- the key answers the value
  pub stored_answer : (v : ℕ) → answer (stored t g k v) k ≡ v
  stored_answer v = answers (store t g k v)

  -- every other key answers as before
  pub stored_answer_other : (v : ℕ) (m : List ℕ) → m ≢ k → answer (stored t g k v) m ≡ answer t m
  stored_answer_other v m h = answers_other m h (store t g k v)

  -- the rules on links hold again; that every node is reached is shown in `Rules.antt`
  pub stored_linked : (v : ℕ) → Linked (stored t g k v) (g + added (missing (descend t 0 k)) v) n
  stored_linked v = links (store t g k v)

-- Of the links of older nodes, only the one that stopped the walk changes. Of their data, only
-- that of the key's own node changes.
child_stays : {t : Table} {g v : ℕ} {k : List ℕ} {s : Table} {g' : ℕ} (p i : ℕ) → p ≤ g
    → ((xs : List ℕ) → descend t 0 k ≢ stopped p i xs)
    → Store t g k v s g' → s.child p i ≡ t.child p i
unfolding put
child_stays p i h f (over e) = refl
child_stays p i h f (unchanged e) = refl
child_stays {t} {g = g} p i h f (longer {q} {x} {xs} e) =
    grow_path_child_other t q x xs (suc g) p i (omega arith) (λ s. f xs (rw (s.0, s.1) e))

value_stays : {t : Table} {g v : ℕ} {k : List ℕ} {s : Table} {g' : ℕ} (p : ℕ) → p ≤ g
    → descend t 0 k ≢ complete p
    → Store t g k v s g'
    → s.value p ≡ t.value p
value_stays {t} p h f (over {q} {v} e) = put_value_other t q v p (λ s. f (rw s e))
value_stays p h f (unchanged e) = refl
value_stays {t} {g = g} p h f (longer {q} {x} {xs} {v} e) =
    put_value_other (grow_path t q x xs (suc g)) (g + suc (length xs)) (suc v) p (omega arith)
    ∙ grow_path_value t q x xs (suc g) p

pub stored_child : (t : Table) (g : ℕ) (k : List ℕ) (v p i : ℕ) → p ≤ g
    → ((xs : List ℕ) → descend t 0 k ≢ stopped p i xs)
    → (stored t g k v).child p i ≡ t.child p i
stored_child t g k v p i h f = child_stays p i h f (store t g k v)

pub stored_value : (t : Table) (g : ℕ) (k : List ℕ) (v p : ℕ) → p ≤ g → descend t 0 k ≢ complete p
    → (stored t g k v).value p ≡ t.value p
stored_value t g k v p h f = value_stays p h f (store t g k v)
