-- The outcome of next key at each return of the code. After the check its order goes on with 9,
-- 10, 14 and 15. The search answers the first stored key that meets the request. Its letters are
-- then the front of the path.
use Prim.Native.Nat.{ℕ, ◌+◌, ◌≤◌, ◌<◌}
use mathlib.Core.Path.{◌≡◌, refl, sym, ◌∙◌, ap}
use mathlib.Core.Bool.{Bool}
use mathlib.Core.Option.{Option, none, some}
use mathlib.Core.List.{List, [], ◌∷◌, ◌++◌}
use native.Mathlib.Omega.{arith}
use borrow.Author.Tests.{lt-ltb, le-ltb}
use Rattle.std.specs.Prelude.{Result, Ok, Err, Option as Maybe, Some, None}
use lib.ListN.{length, take, length-take}
use lib.Seq.{sets}
use Rattle.trie.specs.Table.{answer}
use Rattle.head.specs.declared.Head.{Head}
use Rattle.head.specs.Fields.{head_of}
use Rattle.alphabet.specs.Letters.{or_empty}
use Rattle.node.specs.Image.{table_of}
use Rattle.paper.specs.declared.Refusal.{Refusal}
use Rattle.paper.specs.declared.Found.{Found}
use Rattle.paper.specs.Hearing.{Row, Outcome, first, heard}
use Rattle.paper.specs.Answers.{said_of, row_of, refusal_numbers, found_of}
use Rattle.paper.specs.Rows.{row14, row15, is_none}
use Rattle.paper.specs.Orders.{check_order, next_rows, next_key_order}
use Rattle.paper.specs.Calls.{table_in, stored_keys, next_in, found_in, work_after, next_key_of}
use Rattle.paper.specs.Promises.{Nexts}
use Rattle.paper.specs.Accepted.{Accepted}
use Rattle.paper.proofs.Hearing.{first_part, second_part, yes_row, no_row, first_nil}
use Rattle.paper.proofs.Hearing.{heard_refused, heard_done, told_refused, told_passed}
use Rattle.key.specs.declared.Key.{Key}
use Rattle.key.specs.Hand.{in_hand, Holds, letters_of, Ready}
use Rattle.key.proofs.Hand.{hand_holds}
use Rattle.key.proofs.Judging.{next_ready}
use Rattle.depths.specs.declared.Spot.{Spot}
use Rattle.traversal.specs.Search.{next_stored, search_of, SearchTells}
use Rattle.traversal.proofs.Searching.{was_missing, was_found}
use Rattle.depths.proofs.Walkable.{Walkable, walkable}
use Rattle.traversal.proofs.Walking.{met}
use Rattle.seeking.specs.Seeking.{Seeks}

-- ---- over the rows

module _ (l work key : List ℕ) (after : Bool) (buffer : List ℕ) where
  abbrev rest : List Row
  rest = row14 (head_of l) (length buffer) ∷ row15 (next_in l key after) ∷ []

  abbrev order : List Row
  order = check_order l work ++ (next_rows (head_of l) key ++ rest)

  abbrev answered : Outcome
  answered = found_in l work buffer (or_empty (next_in l key after))

  asked : next_key_of l work key after buffer
      ≡ heard (first order) (work_after l work ∷ buffer ∷ [])
      answered
  unfolding next_key_of next_key_order
  asked = refl

  abbrev Leaves : Result Found Refusal → List ℕ → Type 0
  Leaves r buffer' = Nexts l work key after buffer (found_of r) (work_after l work) buffer'

  pub refuses : (why : Refusal) → first order ≡ some (said_of why)
      → Leaves (Err why) buffer
  unfolding found_of refusal_numbers
  refuses why e = sym (asked ∙ heard_refused _ _ _ e)

  -- after the check, after 9 and 10, and after 14
  module _ (checked : first (check_order l work) ≡ none) where
    unkeyed : {v : Result (Unit {0}) Refusal} {why : Refusal}
        → row_of v ≡ first (next_rows (head_of l) key) → v ≡ Err why
        → Leaves (Err why) buffer
    unkeyed {why = why} told e =
        refuses why (second_part (check_order l work) _ checked
        ∙ first_part (next_rows (head_of l) key) _ (told_refused told e))

    module _ (keyed : first (next_rows (head_of l) key) ≡ none) where
      left : first order ≡ first rest
      left =
          second_part (check_order l work) _ checked
          ∙ second_part (next_rows (head_of l) key) _ keyed

      short : length buffer < (head_of l).max → Leaves (Err Refusal.ShortBuffer) buffer
      unfolding row14
      short b =
          refuses Refusal.ShortBuffer
          (left ∙ yes_row 14 0 _ (lt-ltb (length buffer) (head_of l).max b))

      module _ (room : (head_of l).max ≤ length buffer) where
        left_15 : first order ≡ first (row15 (next_in l key after) ∷ [])
        unfolding row14
        left_15 = left ∙ no_row 14 0 _ (le-ltb (length buffer) (head_of l).max room)

        missing : next_in l key after ≡ none → Leaves (Err Refusal.NoKey) buffer
        unfolding row15 is_none
        missing e = refuses Refusal.NoKey (left_15 ∙ yes_row 15 0 [] (ap is_none e))

        module _ (k : List ℕ) (e : next_in l key after ≡ some k) where
          done : next_key_of l work key after buffer ≡ found_in l work buffer k
          unfolding row15 is_none or_empty
          done =
              asked
              ∙ heard_done _ _ _ (left_15 ∙ no_row 15 0 [] (ap is_none e) ∙ first_nil)
              ∙ ap (λ (f : Option (List ℕ)). found_in l work buffer (or_empty f)) e

          found : {n x : ℕ} {buffer' : List ℕ} → n ≡ length k → x ≡ answer (table_in l) k
              → buffer' ≡ sets buffer 0 k
              → Leaves (Ok (record { length = n; value = x })) buffer'
          unfolding found_of found_in
          found count value laid = rw (count, value, laid) (sym done)

-- ---- what the search answered

module _ {h : Head} {l : List ℕ} {o : Option (List ℕ)} {r : Maybe Spot} {path nodes : List ℕ}
    (t : SearchTells h l o r path nodes)
    {p : Spot} (f : r ≡ Some p) where
  -- the key found: its letters are the front of the path
  key_found : (k : List ℕ) × (o ≡ some k) × (p.length ≡ length k)
      × (p.value ≡ answer (table_of h l) k) × (take p.length path ≡ k)
  unfolding search_of
  key_found =
      let (k, is, count) = was_found h l t f in
      let told : Some p ≡ search_of (table_of h l) (some k) =
      sym f ∙ t.answers ∙ ap (search_of (table_of h l)) is in
      (k, is, count, cc, ap (λ (m : ℕ). take m path) count ∙ (t.reached k is).letters)

  -- it is no longer than max, so it fits a buffer that 14 has passed
  pub found_room : {most : ℕ} → h.max ≤ most → 0 + length (take p.length path) ≤ most
  found_room b = omega (arith, (met t f).deep, length-take p.length path)

-- ---- after the check, with the image's head and a key in hand

-- what is known once 9 and 10 have passed
pub record AfterCheck (l : List ℕ) (h : Head) (key : List ℕ) (hand : Key) : Type 0 where
  pub same : h ≡ head_of l
  pub walk : Walkable h l
  pub unheard : first (next_rows (head_of l) key) ≡ none
  pub ready : Ready h hand
  pub letters : letters_of hand ≡ key
  pub short : hand.len ≤ h.max

module _ {l : List ℕ} {h : Head} (a : Accepted l) (same : h ≡ head_of l) (key : List ℕ)
    {hand : Key} (v : Result (Unit {0}) Refusal) (made : hand ≡ in_hand key)
    (told : (k : List ℕ) → Holds hand k → row_of v ≡ first (next_rows h k)) where
  holds : Holds hand key
  holds = rw made (hand_holds key)

  judged : row_of v ≡ first (next_rows (head_of l) key)
  judged = rw same at (told key holds)

  pub seek_unkeyed : (after : Bool) (buffer : List ℕ) {why : Refusal} → v ≡ Err why
      → Seeks l key after buffer (Err why) buffer
  seek_unkeyed after buffer e work checked = unkeyed l work key after buffer checked judged e

  pub after_check : {x : Unit {0}} → v ≡ Ok x → AfterCheck l h key hand
  after_check e =
      let walk = walkable a same in
      let r = next_ready h walk.opened.head_permitted holds (told_passed (told key holds) e) in
      record {
        same = same;
        walk = walk;
        unheard = told_passed judged e;
        ready = r.0;
        letters = r.1;
        short = r.2;
      }

module _ {l : List ℕ} {h : Head} {key : List ℕ} {hand : Key} (p : AfterCheck l h key hand)
    (after : Bool) (buffer : List ℕ) where
  pub seek_short : length buffer < h.max
      → Seeks l key after buffer (Err Refusal.ShortBuffer) buffer
  seek_short b work checked =
      short l work key after buffer checked p.unheard (rw p.same at b)

  module _ (room : h.max ≤ length buffer) {r : Maybe Spot} {path nodes : List ℕ}
      (t : SearchTells h l (next_stored h l after (letters_of hand)) r path nodes) where
    told_next : SearchTells (head_of l) l (next_in l key after) r path nodes
    unfolding next_in stored_keys table_in
    told_next = rw (p.same, p.letters) at t

    pub seek_missing : r ≡ None → Seeks l key after buffer (Err Refusal.NoKey)
        buffer
    seek_missing f work checked =
        missing l work key after buffer checked p.unheard (rw p.same at room)
        (was_missing (head_of l) l told_next f)

    pub seek_found : {p : Spot} {buffer' : List ℕ} → r ≡ Some p
        → buffer' ≡ sets buffer 0 (take p.length path)
        → Seeks l key after buffer (Ok (record { length = p.length; value = p.value })) buffer'
    unfolding table_in
    seek_found f laid work checked =
        let (k, is, count, value, front) = key_found told_next f in
        found l work key after buffer checked p.unheard (rw p.same at room) k is count value
        (rw front at laid)
