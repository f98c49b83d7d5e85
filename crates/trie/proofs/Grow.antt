-- New nodes. A link that stops a walk is on no complete walk, so complete walks stay. A node
-- with no link and no data answers 0, as the empty link did, so no answer changes. A path is one
-- such node after another.
use Prim.Native.Nat.{ℕ, suc, ◌+◌, ◌≤◌, ◌<◌}
use mathlib.Core.Bool.{Bool, true, false, ◌&&◌, cond}
use mathlib.Core.List.{List, [], ◌∷◌, ◌++◌}
use mathlib.Core.Path.{◌≡◌, refl, sym, ◌∙◌, subst}
use mathlib.Core.Logic.Dec
use mathlib.Core.Logic.{◌≢◌}
use native.Mathlib.Decide.{ℕ_discrete, dec_le}
use native.Mathlib.Omega.{arith}
use lib.Dec.{eqb}
use lib.ListN.{length}
use lib.Seq.{append_snoc}
use borrow.Author.Tests.{eq-eqb, eqb-true}
use Rattle.trie.specs.Table.{Table, Descent, complete, stopped, descend, value_at, answer}
use Rattle.trie.specs.Table.{LettersBelow}
use Rattle.trie.specs.Rules.{Linked}
use Rattle.trie.specs.Storing.{grow, grow_path}
use Rattle.trie.proofs.LettersBelow.{letters_after}
use Rattle.trie.proofs.Walk.{Walk, end, stop, on, walk, descended, where_stopped}
use Rattle.trie.proofs.Walk.{stopped_within}
use Rattle.trie.proofs.Walk.{descend_nil, descend_empty, descend_on, descend_append}

-- whether link i of node p is link x of node q
link : (p i q x : ℕ) → Dec ((p ≡ q) × (i ≡ x))
link p i q x = Dec.and (ℕ_discrete p q) (ℕ_discrete i x)

pub grow_child : (t : Table) (q x c : ℕ) → (grow t q x c).child q x ≡ c
unfolding grow
grow_child t q x c = rw (eq-eqb q q refl, eq-eqb x x refl)

pub grow_child_other : (t : Table) (q x c p i : ℕ) → ¬ ((p ≡ q) × (i ≡ x))
    → (grow t q x c).child p i ≡ t.child p i
unfolding grow
grow_child_other t q x c p i h = go (eqb p q) (eqb i x) refl refl
  where
    go : (a b : Bool) → eqb p q ≡ a → eqb i x ≡ b → cond (a && b) c (t.child p i) ≡ t.child p i
    go true true e f = absurd (h (eqb-true p q e, eqb-true i x f))
    go true false e f = refl
    go false b e f = refl

-- every link is the new one or an old one
pub data Grown (t : Table) (q x c p i : ℕ) : ℕ → Type 0 where
  new : p ≡ q → i ≡ x → Grown t q x c p i c
  old : Grown t q x c p i (t.child p i)

pub grown : (t : Table) (q x c p i : ℕ) → Grown t q x c p i ((grow t q x c).child p i)
grown t q x c p i = go (link p i q x)
  where
    go : Dec ((p ≡ q) × (i ≡ x)) → Grown t q x c p i ((grow t q x c).child p i)
    go (yes s) = rw (s.0, s.1, grow_child t q x c) (new refl refl)
    go (no h) = rw (grow_child_other t q x c p i h) old

-- what linking a node requires: the link is empty, and the node is new
pub record Fresh (t : Table) (q x c : ℕ) : Type 0 where
  pub empty : t.child q x ≡ 0
  pub no_root : c ≢ 0
  pub apart : q ≢ c
  pub no_links : (i : ℕ) → t.child c i ≡ 0
  pub no_data : t.value c ≡ 0

pub fresh : {t : Table} {g n : ℕ} (q x : ℕ) → Linked t g n → q ≤ g → t.child q x ≡ 0
    → Fresh t q x (suc g)
fresh {g = g} q x l h e =
    record {
      empty = e;
      no_root = omega arith;
      apart = omega arith;
      no_links = λ i. l.framed.no_node (suc g) i (omega arith);
      no_data = l.framed.no_data (suc g) (omega arith);
    }

-- a link that is not empty stays
pub grow_child_full : (t : Table) (q x c p i : ℕ) → t.child q x ≡ 0 → t.child p i ≢ 0
    → (grow t q x c).child p i ≡ t.child p i
grow_child_full t q x c p i e h = grow_child_other t q x c p i (λ s. h (rw (s.0, s.1) e))

complete_stays : {t : Table} (q x c : ℕ) {a r : ℕ} {k : List ℕ} → t.child q x ≡ 0
    → Walk t a k (complete r)
    → Walk (grow t q x c) a k (complete r)
complete_stays q x c e end = end
complete_stays {t} q x c e (on {q = p} {x = y} h w) =
    let same : (grow t q x c).child p y ≡ t.child p y = grow_child_full t q x c p y e h in
    on (rw (← same) at h) (rw (← same) at (complete_stays q x c e w))

-- a complete walk stays as it is
pub grow_descend : (t : Table) (q x c a : ℕ) (k : List ℕ) {r : ℕ} → t.child q x ≡ 0
    → descend t a k ≡ complete r
    → descend (grow t q x c) a k ≡ complete r
grow_descend t q x c a k e f = descended (complete_stays q x c e (walk t a k f))

-- the letter of the new link leads to the new node
pub grow_descend_new : (t : Table) (q x c a : ℕ) (k : List ℕ) → t.child q x ≡ 0 → c ≢ 0
    → descend t a k ≡ complete q
    → descend (grow t q x c) a (k ++ (x ∷ [])) ≡ complete c
grow_descend_new t q x c a k e h f =
    let s = grow t q x c in
    descend_append s a k (x ∷ []) (grow_descend t q x c a k e f)
    ∙ descend_on s q x [] (rw (grow_child t q x c) h)
    ∙ rw (grow_child t q x c) (descend_nil s c)

-- below a node with no link and no data every key answers 0
blank : (t : Table) (c : ℕ) → ((i : ℕ) → t.child c i ≡ 0) → t.value c ≡ 0 → (k : List ℕ)
    → value_at t (descend t c k) ≡ 0
unfolding value_at
blank t c none nought [] = rw (descend_nil t c) nought
blank t c none nought (x ∷ xs) = rw (descend_empty t c x xs (none x))

blank_new : {t : Table} (q x c : ℕ) → Fresh t q x c → (k : List ℕ)
    → value_at (grow t q x c) (descend (grow t q x c) c k) ≡ 0
unfolding grow
blank_new {t} q x c f k =
    blank (grow t q x c) c (λ i. grow_child_other t q x c c i (λ s. f.apart (sym s.0))
    ∙ f.no_links i) f.no_data k

-- a walk's answer stays: a walk that stopped at this link now ends at the new node, or stops there
answer_stays : {t : Table} (q x c : ℕ) {a : ℕ} {k : List ℕ} {d : Descent} → Fresh t q x c
    → Walk t a k d
    → value_at (grow t q x c) (descend (grow t q x c) a k) ≡ value_at t d
unfolding value_at grow
answer_stays {t} q x c f (end {q = p}) = rw (descend_nil (grow t q x c) p)
answer_stays {t} q x c f (stop {q = p} {x = y} {xs = ys} e) = go (link p y q x)
  where
    go : Dec ((p ≡ q) × (y ≡ x)) → value_at (grow t q x c) (descend (grow t q x c) p (y ∷ ys)) ≡ 0
    go (yes s) =
        let here : (grow t q x c).child p y ≡ c = rw (s.0, s.1) (grow_child t q x c) in
        rw (descend_on (grow t q x c) p y ys (rw here f.no_root), here) (blank_new q x c f ys)
    go (no h) = rw (descend_empty (grow t q x c) p y ys (grow_child_other t q x c p y h ∙ e))
answer_stays {t} q x c f (on {q = p} {x = y} {xs = ys} h w) =
    let same : (grow t q x c).child p y ≡ t.child p y = grow_child_full t q x c p y f.empty h in
    rw (descend_on (grow t q x c) p y ys (rw same h), same) (answer_stays q x c f w)

-- linking a new node changes no answer
pub grow_answer : {t : Table} {q x c : ℕ} → Fresh t q x c → (k : List ℕ) → answer (grow t q x c) k
    ≡ answer t k
unfolding answer
grow_answer {t} {q} {x} {c} f k = answer_stays q x c f (walk t 0 k refl)

pub grow_linked : {t : Table} {g n : ℕ} (q x : ℕ) → Linked t g n → q ≤ g → x < n → t.child q x ≡ 0
    → Linked (grow t q x (suc g)) (suc g) n
unfolding grow
grow_linked {t} {g} {n} q x l h b e =
    record {
      framed = record {
        no_node = λ p i f. grow_child_other t q x (suc g) p i (omega arith)
            ∙ l.framed.no_node p i (omega arith);
        no_letter =
            λ p i f. grow_child_other t q x (suc g) p i (omega arith) ∙ l.framed.no_letter p i f;
        no_data = λ p f. l.framed.no_data p (omega arith);
      };
      within = λ p i. within' (grown t q x (suc g) p i);
      named = λ y low high. named' y low (dec_le y g) high;
      once = λ p i r j. once' (grown t q x (suc g) p i) (grown t q x (suc g) r j);
    }
  where
    within' : {p i y : ℕ} → Grown t q x (suc g) p i y → y ≤ suc g
    within' (new _ _) = omega arith
    within' {p} {i} old = omega (arith, l.within p i)

    named' : (y : ℕ) → 1 ≤ y → Dec (y ≤ g) → y ≤ suc g → (p : ℕ) × (i : ℕ)
        × ((grow t q x (suc g)).child p i ≡ y)
    named' y low (yes f) high =
        let (p, i, at) = l.named y low f in
        (p, i, grow_child_full t q x (suc g) p i e (omega arith) ∙ at)
    named' y low (no f) high = (q, x, grow_child t q x (suc g) ∙ omega arith)

    once' : {p i r j y z : ℕ} → Grown t q x (suc g) p i y → Grown t q x (suc g) r j z → y ≢ 0
        → y ≡ z → (p ≡ r) × (i ≡ j)
    once' (new e f) (new e' f') s r = (e ∙ sym e', f ∙ sym f')
    once' {r = r} {j = j} (new e f) old s u = absurd (omega (arith, l.within r j))
    once' {p} {i} old (new e f) s u = absurd (omega (arith, l.within p i))
    once' {p} {i} {r} {j} old old s u = l.once p i r j s u

-- what a new path requires: an empty link to begin with, and letters of the table
pub record Room (t : Table) (g n q x : ℕ) (xs : List ℕ) : Type 0 where
  pub linked : Linked t g n
  pub node : q ≤ g
  pub empty : t.child q x ≡ 0
  pub letters : LettersBelow n (x ∷ xs)

-- where a key's walk stopped, there is room for the letters that are left
pub room : {t : Table} {g n : ℕ} (k : List ℕ) {q x : ℕ} {xs : List ℕ} → Linked t g n
    → LettersBelow n k → descend t 0 k ≡ stopped q x xs
    → Room t g n q x xs
room {t} {g} {n} k {q} {x} {xs} l s e =
    let w = where_stopped t 0 k e in
    record {
      linked = l;
      node = stopped_within t g k l.within e;
      empty = w.empty;
      letters =
          letters_after n w.path (x ∷ xs) (subst (λ (m : List ℕ). LettersBelow n m) w.key s);
    }

pub room_fresh : {t : Table} {g n q x : ℕ} {xs : List ℕ} → Room t g n q x xs → Fresh t q x (suc g)
room_fresh {q = q} {x = x} r = fresh q x r.linked r.node r.empty

room_linked : {t : Table} {g n q x : ℕ} {xs : List ℕ} → Room t g n q x xs
    → Linked (grow t q x (suc g)) (suc g) n
room_linked {q = q} {x = x} r = grow_linked q x r.linked r.node r.letters.0 r.empty

-- after one node, there is room for the rest
pub room_next : {t : Table} {g n q x y : ℕ} {ys : List ℕ} → Room t g n q x (y ∷ ys)
    → Room (grow t q x (suc g)) (suc g) n (suc g) y ys
room_next {t} {g} {n} {q} {x} {y} r =
    record {
      linked = room_linked r;
      node = omega arith;
      empty = grow_child_other t q x (suc g) (suc g) y (omega (arith, r.node))
          ∙ (room_fresh r).no_links y;
      letters = r.letters.1;
    }

pub grow_path_answer : {t : Table} {g n q x : ℕ} (xs : List ℕ) → Room t g n q x xs → (k : List ℕ)
    → answer (grow_path t q x xs (suc g)) k ≡ answer t k
unfolding grow_path
grow_path_answer [] r k = grow_answer (room_fresh r) k
grow_path_answer {t} {g} {n} {q} {x} (y ∷ ys) r k =
    grow_path_answer {t = grow t q x (suc g)} {g = suc g} {q = suc g} {x = y} ys (room_next r) k
    ∙ grow_answer (room_fresh r) k

pub grow_path_linked : {t : Table} {g n q x : ℕ} (xs : List ℕ) → Room t g n q x xs
    → Linked (grow_path t q x xs (suc g)) (g + suc (length xs)) n
unfolding grow_path
grow_path_linked {t} {g} {n} {q} {x} [] r =
    let e : g + 1 ≡ suc g = omega arith in rw e (room_linked r)
grow_path_linked {t} {g} {n} {q} {x} (y ∷ ys) r =
    let e : g + suc (suc (length ys)) ≡ suc g + suc (length ys) = omega arith in
    rw e (grow_path_linked {t = grow t q x (suc g)} {g = suc g} {q = suc g} {x = y} ys
    (room_next r))

-- the key's walk goes on from the empty link to the last new node
pub grow_path_descend : {t : Table} {g n q x : ℕ} (xs : List ℕ) (p : List ℕ) → Room t g n q x xs
    → descend t 0 p ≡ complete q
    → descend (grow_path t q x xs (suc g)) 0 (p ++ (x ∷ xs)) ≡ complete (g + suc (length xs))
unfolding grow_path
grow_path_descend {t} {g} {n} {q} {x} [] p r e =
    let s : g + 1 ≡ suc g = omega arith in
    rw s (grow_descend_new t q x (suc g) 0 p r.empty (omega arith) e)
grow_path_descend {t} {g} {n} {q} {x} (y ∷ ys) p r e =
    let s : g + suc (suc (length ys)) ≡ suc g + suc (length ys) = omega arith in
    rw (← append_snoc p x (y ∷ ys), s)
    (grow_path_descend {t = grow t q x (suc g)} {g = suc g} {q = suc g} {x = y} ys (p ++ (x ∷ []))
    (room_next r)
    (grow_descend_new t q x (suc g) 0 p r.empty (omega arith) e))

-- No data changes. Of the links of older nodes only the empty one changes: it receives the first
-- new node.
pub grow_path_value : (t : Table) (q x : ℕ) (xs : List ℕ) (c p : ℕ)
    → (grow_path t q x xs c).value p
    ≡ t.value p
unfolding grow_path grow
grow_path_value t q x [] c p = refl
grow_path_value t q x (y ∷ ys) c p = grow_path_value (grow t q x c) c y ys (suc c) p

pub grow_path_new_value : {t : Table} {g n q x : ℕ} {xs : List ℕ} → Room t g n q x xs → (p : ℕ)
    → g < p
    → (grow_path t q x xs (suc g)).value p ≡ 0
grow_path_new_value {t} {g} {n} {q} {x} {xs} r p h =
    grow_path_value t q x xs (suc g) p ∙ r.linked.framed.no_data p h

pub grow_path_child_other : (t : Table) (q x : ℕ) (xs : List ℕ) (c p i : ℕ) → p < c
    → ¬ ((p ≡ q) × (i ≡ x))
    → (grow_path t q x xs c).child p i ≡ t.child p i
unfolding grow_path
grow_path_child_other t q x [] c p i h f = grow_child_other t q x c p i f
grow_path_child_other t q x (y ∷ ys) c p i h f =
    grow_path_child_other (grow t q x c) c y ys (suc c) p i (omega arith) (omega arith)
    ∙ grow_child_other t q x c p i f

pub grow_path_child : (t : Table) (q x : ℕ) (xs : List ℕ) (c : ℕ) → q < c
    → (grow_path t q x xs c).child q x ≡ c
unfolding grow_path
grow_path_child t q x [] c h = grow_child t q x c
grow_path_child t q x (y ∷ ys) c h = grow_path_child_other (grow t q x c) c y ys (suc c) q x
    (omega arith) (omega arith) ∙ grow_child t q x c
