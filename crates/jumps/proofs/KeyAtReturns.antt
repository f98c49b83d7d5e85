-- The outcome of key at position at each return of the code. Every key passes the root, so the
-- root's count is the number of stored keys, and a position that is not below it is past the
-- end. The key that the way by counts finds is copied into the buffer from a path of its own.
use Prim.Native.Nat.{ℕ, ◌+◌, ◌^◌, ◌≤◌, ◌<◌}
use mathlib.Core.Path.{◌≡◌, refl, sym, ◌∙◌, ap}
use mathlib.Core.Option.{Option, none, some}
use mathlib.Core.List.{List, [], ◌∷◌, ◌++◌}
use native.Mathlib.Omega.{arith}
use borrow.Author.Tests.{lt-ltb, le-ltb}
use Rattle.std.specs.Prelude.{Result, Ok, Err}
use lib.ListN.{length, get_or, take, length-take}
use lib.Seq.{sets}
use Rattle.trie.specs.Table.{answer}
use Rattle.trie.specs.Keys.{listing}
use Rattle.trie.proofs.Filter.{filter_every}
use Rattle.passing.specs.Passing.{passes, count_at, key_at}
use Rattle.passing.proofs.Passing.{passes_here}
use Rattle.passing.proofs.Ranks.{at_none, at_held}
use Rattle.head.specs.declared.Head.{Head}
use Rattle.head.specs.Fields.{head_of}
use Rattle.alphabet.specs.declared.codes.Codes.{Codes}
use Rattle.alphabet.specs.Letters.{or_empty}
use Rattle.node.specs.Image.{table_of}
use Rattle.paper.specs.declared.Refusal.{Refusal}
use Rattle.paper.specs.declared.Found.{Found}
use Rattle.paper.specs.Hearing.{Row, Outcome, first, heard}
use Rattle.paper.specs.Answers.{said_of, refusal_numbers, found_of}
use Rattle.paper.specs.Rows.{row14, row15, is_none}
use Rattle.paper.specs.Calls.{table_in, stored_keys}
use Rattle.paper.specs.Accepted.{Accepted}
use Rattle.paper.proofs.Hearing.{first_part, second_part, yes_row, no_row, first_nil}
use Rattle.paper.proofs.Hearing.{heard_refused, heard_done, told_refused, told_passed}
use Rattle.paper.proofs.NextKeyCall.{stored_exactly}
use Rattle.position.specs.Counts.{RightCounts}
use Rattle.position.specs.Orders.{check_counts_order, key_at_order}
use Rattle.position.specs.Calls.{work_left, placed_key, key_at_of}
use Rattle.position.specs.Promises.{GivesKey}
use Rattle.position.proofs.Plain.{counts_checked}
use Rattle.depths.specs.declared.Spot.{Spot}
use Rattle.comparing.specs.Comparing.{Compared}
use Rattle.asking_counts.proofs.AskingCounts.{compared_right}
use Rattle.ranking.specs.Ranking.{Spotted}
use Rattle.ranking.proofs.Below.{Known}
use Rattle.jumps.specs.Jumps.{TellsKey}

-- ---- over the rows

module _ (l work counts : List ℕ) (position : ℕ) (buffer : List ℕ) where
  abbrev rest : List Row
  rest = row14 (head_of l) (length buffer) ∷ row15 (key_at (stored_keys l) position) ∷ []

  abbrev order : List Row
  order = check_counts_order l work counts ++ rest

  abbrev answered : Outcome
  answered = placed_key l work counts buffer (or_empty (key_at (stored_keys l) position))

  asked : key_at_of l work counts position buffer ≡ heard (first order)
      (work_left l work counts ∷ buffer ∷ []) answered
  unfolding key_at_of key_at_order
  asked = refl

  abbrev Leaves : Result Found Refusal → List ℕ → Type 0
  Leaves r buffer' =
      GivesKey l work counts position buffer (found_of r) (work_left l work counts) buffer'

  refuses : (why : Refusal) → first order ≡ some (said_of why) → Leaves (Err why) buffer
  unfolding found_of refusal_numbers
  refuses why e = sym (asked ∙ heard_refused _ _ _ e)

  -- after 25, and after 14
  module _ (compared : first (check_counts_order l work counts) ≡ none) where
    left : first order ≡ first rest
    left = second_part (check_counts_order l work counts) _ compared

    short : length buffer < (head_of l).max → Leaves (Err Refusal.ShortBuffer) buffer
    unfolding row14
    short b =
        refuses Refusal.ShortBuffer
        (left ∙ yes_row 14 0 _ (lt-ltb (length buffer) (head_of l).max b))

    module _ (room : (head_of l).max ≤ length buffer) where
      left_15 : first order ≡ first (row15 (key_at (stored_keys l) position) ∷ [])
      unfolding row14
      left_15 = left ∙ no_row 14 0 _ (le-ltb (length buffer) (head_of l).max room)

      missing : key_at (stored_keys l) position ≡ none
          → Leaves (Err Refusal.NoKey) buffer
      unfolding row15 is_none
      missing e = refuses Refusal.NoKey (left_15 ∙ yes_row 15 0 [] (ap is_none e))

      module _ (k : List ℕ) (e : key_at (stored_keys l) position ≡ some k) where
        done : key_at_of l work counts position buffer ≡ placed_key l work counts buffer k
        unfolding row15 is_none or_empty
        done =
            asked
            ∙ heard_done _ _ _ (left_15 ∙ no_row 15 0 [] (ap is_none e) ∙ first_nil)
            ∙ ap (λ (f : Option (List ℕ)). placed_key l work counts buffer (or_empty f)) e

        found : {n x : ℕ} {buffer' : List ℕ} → n ≡ length k → x ≡ answer (table_in l) k
            → buffer' ≡ sets buffer 0 k
            → Leaves (Ok (record { length = n; value = x })) buffer'
        unfolding found_of placed_key
        found count value laid = rw (count, value, laid) (sym done)

-- ---- the root's count

module _ {h : Head} {l counts : List ℕ} (w : Known h l counts) where
  pub root_count : get_or counts 0 0 ≡ length (stored_keys l)
  unfolding count_at
  root_count =
      w.each 0 (omega arith)
      ∙ ap length
      (filter_every (passes (table_of h l) 0 0) (listing (table_of h l) h.n h.min h.max)
      (λ k _. passes_here (table_of h l) 0 k))
      ∙ ap length (sym w.stored)

  pub few_keys : length (stored_keys l) < 2 ^ 32
  few_keys = omega (arith, w.few, ap length w.stored)

-- ---- what the way by counts answered

module _ {l : List ℕ} {position : ℕ} {s : Spot} {path : List ℕ} (t : Spotted l position s path)
  where
    -- the key is no longer than max
    spotted_short : s.length ≤ (head_of l).max
    spotted_short =
        let (_, high, _) =
        (stored_exactly l t.key).0 (at_held (stored_keys l) position t.there) in
        omega (arith, t.long, high)

    front : take s.length path ≡ t.key
    front = ap (λ (m : ℕ). take m path) t.long ∙ t.letters

    -- so it fits a buffer that 14 has passed
    module _ {h : Head} (same : h ≡ head_of l) where
      pub spotted_deep : s.length ≤ h.max
      spotted_deep = omega (arith, spotted_short, ap (λ (k : Head). k.max) same)

      pub spotted_room : {most : ℕ} → h.max ≤ most → 0 + length (take s.length path) ≤ most
      spotted_room b = omega (arith, spotted_deep, length-take s.length path)

    -- ---- the returns after 25

    pub spots_found : (buffer : List ℕ) {h : Head} {buffer' : List ℕ} → h ≡ head_of l
        → h.max ≤ length buffer
        → buffer' ≡ sets buffer 0 (take s.length path)
        → TellsKey l position buffer (Ok (record { length = s.length; value = s.value })) buffer'
    spots_found buffer same room laid work counts compared =
        found l work counts position buffer compared (rw same at room) t.key t.there
        t.long
        t.value (rw front at laid)

module _ (l : List ℕ) (position : ℕ) (buffer : List ℕ) {h : Head} (same : h ≡ head_of l) where
  pub spots_short : length buffer < h.max → TellsKey l position buffer
      (Err Refusal.ShortBuffer) buffer
  spots_short b work counts compared = short l work counts position buffer compared (rw same at b)

  pub spots_past : h.max ≤ length buffer → length (stored_keys l) ≤ position
      → TellsKey l position buffer (Err Refusal.NoKey) buffer
  spots_past room past work counts compared =
      missing l work counts position buffer compared (rw same at room)
      (at_none (stored_keys l) position past)

-- ---- the returns of the whole call

module _ {l work counts work' : List ℕ} {codes : Codes} (position : ℕ) (buffer : List ℕ) where
  pub gives_key_refused : {why : Refusal} → Compared l work counts (Err why) work' codes
      → GivesKey l work counts position buffer (found_of (Err why)) work' buffer
  gives_key_refused {why} o =
      rw o.numbers
      (refuses l work counts position buffer why
      (first_part (check_counts_order l work counts) _ (told_refused o.verdict refl)))

  pub gives_key_spotted : {h : Head} (f : Result Found Refusal) {buffer' : List ℕ}
      → Compared l work counts (Ok h) work' codes → TellsKey l position buffer f buffer'
      → GivesKey l work counts position buffer (found_of f) work' buffer'
  gives_key_spotted f o s = rw o.numbers (s work counts (told_passed o.verdict refl))

-- what is known once 25 has passed
pub spot_asks : {l work counts work' : List ℕ} {codes : Codes} {h : Head}
    → Compared l work counts (Ok h) work' codes
    → Accepted l × ((h ≡ head_of l) × RightCounts l counts)
spot_asks {l} {work} {counts} o =
    let passed = told_passed o.verdict refl in (
      (counts_checked l work counts passed).accepted,
      (o.head, compared_right l work counts passed),
    )
