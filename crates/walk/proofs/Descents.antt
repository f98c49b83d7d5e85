-- The descent, letter by letter. A letter meets an empty link, a bad link or one to follow, and
-- each law on a walk is by these three cases (`Met`). So a walk along a key (`Walking`) agrees
-- with the table's own descent and with its first fault.
use Prim.Native.Nat.{ℕ, ◌+◌, ◌≤◌, ◌<◌}
use mathlib.Core.Path.{◌≡◌, refl, sym, ◌∙◌, ap, subst}
use mathlib.Core.Logic.{◌≢◌}
use mathlib.Core.Bool.{Bool, true, false, cond, true≢false}
use mathlib.Core.Option.{none, some}
use mathlib.Core.List.{List, [], ◌∷◌}
use native.Mathlib.Decide.{ℕ_discrete}
use native.Mathlib.Omega.{arith}
use lib.ListN.{length, drop, length-drop}
use lib.Seq.{drop-length, drop-drop}
use Rattle.std.specs.Prelude.{Result, Ok, Err, Option as Maybe, Some, None}
use Rattle.trie.specs.Table.{Table, complete, stopped, descend, fault}
use Rattle.trie.specs.Rules.{Within}
use Rattle.trie.proofs.Faults.{fault_nil, fault_empty, fault_bad, fault_on}
use Rattle.trie.proofs.Walk.{follow_empty, follow_on, descend_nil, descend_empty, descend_on}
use Rattle.trie.proofs.Walk.{answer_complete, answer_stopped}
use Rattle.paper.specs.declared.Refusal.{Refusal}
use Rattle.paper.specs.declared.Refusal.TheVariants.{Link}
use Rattle.paper.specs.Rows.{bad_link}
use Rattle.paper.proofs.Linking.{not_bad}
use Rattle.walk.specs.declared.Position.{Position}
use Rattle.walk.specs.declared.Walked.{Walked}
use Rattle.walk.specs.Descent.{at_root, on_to, step_of, step_taken, walked_from}
use Rattle.walk.specs.Descent.{looked_by, looked_in}

-- ---- one letter

-- what a step answers: the next position, none at an empty link, or the refusal of a bad one
abbrev pub Step : Type 0
Step = Result (Maybe Position) Refusal

-- the step by a link that is not empty
abbrev step_by : ℕ → Position → ℕ → Step
step_by g p c = cond (bad_link g c) (Err (Link p.node)) (Ok (Some (on_to p c)))

-- c is the link that was met
module _ (g : ℕ) (t : Table) (p : Position) (x : ℕ) {c : ℕ} (e : c ≡ t.child p.node x) where
  pub step_empty : c ≡ 0 → step_of g t p x ≡ Ok None
  unfolding step_of
  step_empty z = follow_empty (t.child p.node x) (Ok None) (step_by g p) (sym e ∙ z)

  judged : c ≢ 0 → step_of g t p x ≡ step_by g p c
  unfolding step_of
  judged h = rw (← e) (follow_on c (Ok None) (step_by g p) h)

  pub step_bad : c ≢ 0 → bad_link g c ≡ true → step_of g t p x ≡ Err (Link p.node)
  step_bad h b = judged h ∙ rw b

  pub step_on_lem : c ≢ 0 → bad_link g c ≡ false → step_of g t p x ≡ Ok (Some (on_to p c))
  step_on_lem h b = judged h ∙ rw b

-- what is known of the link c, given where one letter led
data Met (g : ℕ) (p : Position) (c : ℕ) : Step → Type 0 where
  empty : c ≡ 0 → Met g p c (Ok None)
  bad : c ≢ 0 → bad_link g c ≡ true → Met g p c (Err (Link p.node))
  on : c ≢ 0 → bad_link g c ≡ false → Met g p c (Ok (Some (on_to p c)))

met : (g : ℕ) (t : Table) (p : Position) (x : ℕ) {s : Step} → step_of g t p x ≡ s
    → Met g p (t.child p.node x) s
met g t p x e =
    subst (λ (s : Step). Met g p c s) e (go (ℕ_discrete c 0) (bad_link g c) refl)
  where
    c : ℕ
    c = t.child p.node x

    go : Dec (c ≡ 0) → (b : Bool) → bad_link g c ≡ b → Met g p c (step_of g t p x)
    go (yes e) b f = rw (step_empty g t p x refl e) (empty e)
    go (no h) true f = rw (step_bad g t p x refl h f) (bad h f)
    go (no h) false f = rw (step_on_lem g t p x refl h f) (on h f)

-- s is where one letter led
module _ (g : ℕ) (t : Table) (p : Position) (x : ℕ) {s : Step} (is : s ≡ step_of g t p x) where
  -- to a refusal: it is 6 at this node
  pub step_refused : {why : Refusal} → s ≡ Err why → step_of g t p x ≡ Err (Link p.node)
  step_refused e = go (met g t p x (sym is ∙ e))
    where
      go : {why : Refusal} → Met g p (t.child p.node x) (Err why)
          → step_of g t p x ≡ Err (Link p.node)
      go (bad h b) = step_bad g t p x refl h b

  -- to a position: the link is followed
  pub step_led : {next : Position} → s ≡ Ok (Some next)
      → (t.child p.node x ≢ 0) × (next ≡ on_to p (t.child p.node x))
  step_led e = go (met g t p x (sym is ∙ e))
    where
      go : {next : Position} → Met g p (t.child p.node x) (Ok (Some next))
          → (t.child p.node x ≢ 0) × (next ≡ on_to p (t.child p.node x))
      go (on h b) = (h, refl)

  -- to no position, in a table without a link above G: the link is empty
  pub step_stayed : Within t g → ((next : Position) → s ≢ Ok (Some next))
      → t.child p.node x ≡ 0
  step_stayed within stays = go (met g t p x (sym is)) stays
    where
      go : {s : Step} → Met g p (t.child p.node x) s → ((next : Position) → s ≢ Ok (Some next))
          → t.child p.node x ≡ 0
      go (empty z) stays = z
      go (bad h b) stays = absurd (true≢false (sym b ∙ (not_bad g _).1 (within p.node x)))
      go (on h b) stays = absurd (stays _ refl)

pub walked_nil : (g : ℕ) (t : Table) (p : Position) → walked_from g t p [] ≡ Ok
    (Walked.Complete p.node)
unfolding walked_from
walked_nil g t p = refl

pub walked_more : (g : ℕ) (t : Table) (p : Position) (x : ℕ) (xs : List ℕ) {s : Step}
    → step_of g t p x ≡ s
    → walked_from g t p (x ∷ xs) ≡ step_taken p s (λ q. walked_from g t q xs)
unfolding walked_from
walked_more g t p x xs e = ap (λ (s : Step). step_taken p s (λ q. walked_from g t q xs)) e

-- ---- a walk along a key

-- the walk has reached this position: along the letters left it ends as the whole walk does, and
-- so do descent and fault
pub record Walking (g : ℕ) (t : Table) (k : List ℕ) (here : Position) : Type 0 where
  pub same : walked_from g t at_root k ≡ walked_from g t here (drop here.depth k)
  pub faults : fault (bad_link g) t 0 k ≡ fault (bad_link g) t here.node (drop here.depth k)
  pub descents : descend t 0 k ≡ descend t here.node (drop here.depth k)
  pub within : here.node ≤ g
  pub deep : here.depth ≤ length k

-- the walk arrived at the key's own node
pub record Arrived (g : ℕ) (t : Table) (k : List ℕ) (q : ℕ) : Type 0 where
  pub sound : fault (bad_link g) t 0 k ≡ none
  pub descent : descend t 0 k ≡ complete q
  pub within : q ≤ g

-- the walk stopped at an empty link; the letters left are this one and the rest
pub record Halted (g : ℕ) (t : Table) (k : List ℕ) (p : Position) : Type 0 where
  pub letter : ℕ
  pub rest : List ℕ
  pub sound : fault (bad_link g) t 0 k ≡ none
  pub descent : descend t 0 k ≡ stopped p.node letter rest
  pub left : drop p.depth k ≡ letter ∷ rest
  pub within : p.node ≤ g

-- the walk was refused: 6, at the node that holds the first bad link on the path
pub record Faulted (g : ℕ) (t : Table) (k : List ℕ) (why : Refusal) : Type 0 where
  pub node : ℕ
  pub given : why ≡ Link node
  pub faulty : fault (bad_link g) t 0 k ≡ some node

pub walking_start : (g : ℕ) (t : Table) (k : List ℕ) → Walking g t k at_root
walking_start g t k = record {
  same = refl;
  faults = refl;
  descents = refl;
  within = omega arith;
  deep = omega arith;
}

-- ---- at the key's end

module _ {g : ℕ} {t : Table} {k : List ℕ} {here : Position} (w : Walking g t k here)
    (h : length k ≤ here.depth) where
  none_left : drop here.depth k ≡ []
  none_left = let e : here.depth ≡ length k = omega (arith, w.deep) in
      ap (λ (d : ℕ). drop d k) e ∙ drop-length k

  pub walking_end : walked_from g t at_root k ≡ Ok (Walked.Complete here.node)
  walking_end = w.same ∙ ap (walked_from g t here) none_left ∙ walked_nil g t here

  arrived : Arrived g t k here.node
  arrived =
      record {
        sound = w.faults ∙ ap (fault (bad_link g) t here.node) none_left
            ∙ fault_nil (bad_link g) t here.node;
        descent = w.descents ∙ ap (descend t here.node) none_left ∙ descend_nil t here.node;
        within = w.within;
      }

-- ---- before it, where the letters left are x and xs

module _ {g : ℕ} {t : Table} {k : List ℕ} {here : Position} (w : Walking g t k here) {x : ℕ}
    {xs : List ℕ}
    (l : drop here.depth k ≡ x ∷ xs) where
  rest : drop (here.depth + 1) k ≡ xs
  rest = sym (drop-drop 1 here.depth k) ∙ ap (drop 1) l

  further : here.depth < length k
  further = omega (arith, length-drop here.depth k, ap length l)

  walk_left : {s : Step} → step_of g t here x ≡ s → walked_from g t at_root k ≡ step_taken here s
      (λ q. walked_from g t q xs)
  walk_left e = w.same ∙ ap (walked_from g t here) l ∙ walked_more g t here x xs e

  fault_left : fault (bad_link g) t 0 k ≡ fault (bad_link g) t here.node (x ∷ xs)
  fault_left = w.faults ∙ ap (fault (bad_link g) t here.node) l

  descent_left : descend t 0 k ≡ descend t here.node (x ∷ xs)
  descent_left = w.descents ∙ ap (descend t here.node) l

  -- an empty link
  pub walking_stopped : step_of g t here x ≡ Ok None → walked_from g t at_root k
      ≡ Ok (Walked.Stopped here)
  unfolding step_taken
  walking_stopped e = walk_left e

  halted : t.child here.node x ≡ 0 → Halted g t k here
  halted e =
      record {
        letter = x;
        rest = xs;
        sound = fault_left ∙ fault_empty (bad_link g) t here.node x xs e;
        descent = descent_left ∙ descend_empty t here.node x xs e;
        left = l;
        within = w.within;
      }

  -- a bad one
  pub walking_bad : {why : Refusal} → step_of g t here x ≡ Err why → walked_from g t at_root k
      ≡ Err why
  unfolding step_taken
  walking_bad e = walk_left e

  faulted : t.child here.node x ≢ 0
      → bad_link g (t.child here.node x) ≡ true
      → Faulted g t k (Link here.node)
  faulted h b =
      record {
        node = here.node;
        given = refl;
        faulty = fault_left ∙ fault_bad (bad_link g) t here.node x xs refl h b;
      }

  -- one to follow
  onward : {next : Position} → step_of g t here x ≡ Ok (Some next)
      → Met g here (t.child here.node x) (Ok (Some next)) → Walking g t k next
      × (next.depth ≡ here.depth + 1)
  unfolding step_taken
  onward e (on c b) = (
    record {
      same = walk_left e ∙ ap (walked_from g t (on_to here (t.child here.node x))) (sym rest);
      faults =
          fault_left
          ∙ fault_on (bad_link g) t here.node x xs refl c b
          ∙ ap (fault (bad_link g) t (t.child here.node x)) (sym rest);
      descents = descent_left ∙ descend_on t here.node x xs c
          ∙ ap (descend t (t.child here.node x)) (sym rest);
      within = (not_bad g (t.child here.node x)).0 b;
      deep = omega (arith, further);
    },
    refl,
  )

  pub walking_on : {next : Position} → step_of g t here x ≡ Ok (Some next) → Walking g t k next
      × (next.depth ≡ here.depth + 1)
  walking_on e = onward e (met g t here x e)

-- ---- what is known of the end of a walk

abbrev Told : ℕ → Table → List ℕ → Result Walked Refusal → Type 0
Told g t k (Ok (Walked.Complete q)) = Arrived g t k q
Told g t k (Ok (Walked.Stopped p)) = Halted g t k p
Told g t k (Err why) = Faulted g t k why

module _ (g : ℕ) (t : Table) (k : List ℕ) where
  -- where letters are left, by what the next one meets
  told_more : {here : Position} {x : ℕ} {xs : List ℕ} → Walking g t k here → drop here.depth k
      ≡ x ∷ xs
      → ((next : Position) → Walking g t k next → drop next.depth k ≡ xs
      → Told g t k (walked_from g t at_root k))
      → {s : Step} → step_of g t here x ≡ s → Met g here (t.child here.node x) s
      → Told g t k (walked_from g t at_root k)
  told_more w l go e (empty z) = rw (walking_stopped w l e) (halted w l z)
  told_more w l go e (bad h b) = rw (walking_bad w l e) (faulted w l h b)
  told_more w l go e (on h b) = go _ (walking_on w l e).0 (rest w l)

  told_from : (xs : List ℕ) (here : Position) → Walking g t k here → drop here.depth k ≡ xs
      → Told g t k (walked_from g t at_root k)
  told_from [] here w l =
      let h : length k ≤ here.depth = omega (arith, length-drop here.depth k, ap length l) in
      rw (walking_end w h) (arrived w h)
  told_from (x ∷ xs) here w l = told_more w l (told_from xs) refl (met g t here x refl)

  told : {r : Result Walked Refusal} → r ≡ walked_from g t at_root k → Told g t k r
  told is = subst (Told g t k) (sym is) (told_from k at_root (walking_start g t k) refl)

  -- the walk passed
  module _ {o : Walked} (is : Ok o ≡ walked_from g t at_root k) where
    pub walked_complete : {q : ℕ} → o ≡ Walked.Complete q → Arrived g t k q
    walked_complete e = told (sym (ap Ok e) ∙ is)

    pub walked_stopped : {p : Position} → o ≡ Walked.Stopped p → Halted g t k p
    walked_stopped e = told (sym (ap Ok e) ∙ is)

    -- what a lookup answers there
    pub looked_complete : {q : ℕ} → o ≡ Walked.Complete q → looked_in g t k ≡ Ok (t.value q)
    unfolding looked_in looked_by
    looked_complete e =
        let a = walked_complete e in rw (a.sound, answer_complete t k a.descent)

    pub looked_stopped : {p : Position} → o ≡ Walked.Stopped p → looked_in g t k ≡ Ok 0
    unfolding looked_in looked_by
    looked_stopped e = let a = walked_stopped e in rw (a.sound, answer_stopped t k a.descent)

  -- it was refused, and so is a lookup
  module _ {why : Refusal} (is : Err why ≡ walked_from g t at_root k) where
    pub walked_bad : Faulted g t k why
    walked_bad = told is

    pub looked_bad : looked_in g t k ≡ Err why
    unfolding looked_in looked_by
    looked_bad = rw walked_bad.faulty (ap Err (sym walked_bad.given))
