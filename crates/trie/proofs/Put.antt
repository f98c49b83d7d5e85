-- A value put as a node's data. No link changes, so every walk stays. At most one key ends at
-- that node, so at most one answer changes.
use Prim.Native.Nat.{ℕ, ◌≤◌}
use mathlib.Core.List.{List}
use mathlib.Core.Path.{◌≡◌, refl, sym, ◌∙◌}
use mathlib.Core.Logic.{◌≢◌}
use native.Mathlib.Omega.{arith}
use borrow.Author.Tests.{eq-eqb, ne_eqb}
use Rattle.trie.specs.Table.{Table, Descent, complete, stopped, descend, answer}
use Rattle.trie.specs.Rules.{Once, Linked}
use Rattle.trie.specs.Storing.{put}
use Rattle.trie.proofs.Walk.{Walk, end, stop, on, walk, descended, answer_complete}
use Rattle.trie.proofs.Walk.{answer_stopped, one_key}

pub put_value : (t : Table) (q v : ℕ) → (put t q v).value q ≡ v
unfolding put
put_value t q v = rw (eq-eqb q q refl)

pub put_value_other : (t : Table) (q v p : ℕ) → p ≢ q → (put t q v).value p ≡ t.value p
unfolding put
put_value_other t q v p h = rw (ne_eqb p q h)

kept : {t : Table} (q v : ℕ) {p : ℕ} {k : List ℕ} {d : Descent} → Walk t p k d
    → Walk (put t q v) p k d
unfolding put
kept q v end = end
kept q v (stop e) = stop e
kept q v (on h w) = on h (kept q v w)

pub put_descend : (t : Table) (q v p : ℕ) (k : List ℕ) → descend (put t q v) p k ≡ descend t p k
put_descend t q v p k = descended (kept q v (walk t p k refl))

pub put_answer : (t : Table) (k : List ℕ) (v : ℕ) {q : ℕ} → descend t 0 k ≡ complete q
    → answer (put t q v) k ≡ v
put_answer t k v {q} e =
    answer_complete (put t q v) k (put_descend t q v 0 k ∙ e) ∙ put_value t q v

pub put_answer_other : (t : Table) (k : List ℕ) (v : ℕ) (m : List ℕ) {q : ℕ} → Once t
    → descend t 0 k ≡ complete q → m ≢ k
    → answer (put t q v) m ≡ answer t m
put_answer_other t k v m {q} once e h = go (descend t 0 m) refl
  where
    go : (d : Descent) → descend t 0 m ≡ d → answer (put t q v) m ≡ answer t m
    go (complete p) f =
        answer_complete (put t q v) m (put_descend t q v 0 m ∙ f)
        ∙ put_value_other t q v p (λ s. h (one_key t m k once f (rw s e)))
        ∙ sym (answer_complete t m f)
    go (stopped p x xs) f =
        answer_stopped (put t q v) m (put_descend t q v 0 m ∙ f) ∙ sym (answer_stopped t m f)

pub put_linked : {t : Table} {g n : ℕ} (q v : ℕ) → Linked t g n → q ≤ g → Linked (put t q v) g n
unfolding put
put_linked {t} {g} {n} q v l h =
    record {
      framed = record {
        no_node = l.framed.no_node;
        no_letter = l.framed.no_letter;
        no_data = λ p f. put_value_other t q v p (omega arith) ∙ l.framed.no_data p f;
      };
      within = l.within;
      named = l.named;
      once = l.once;
    }
