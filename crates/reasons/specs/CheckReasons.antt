-- 01, "What the bench may hear", of every base call on any image: the reasons to refuse it, as
-- statements in the table's words and without the rows, in the order of the call. The theorems
-- (`check_number_exactly` and the others of `proofs/CheckReasons.antt`): the call answers the
-- number of the first reason that applies, and 0 where none does.
use Rattle.std.specs.Prelude.{ℕ, ◌+◌, ◌≤◌, ◌<◌, ◌≡◌, ◌≢◌, ◌⊎◌, Bool, true, length}
use Rattle.std.proofs.Math.Option.{some}
use mathlib.Core.List.{List, [], ◌∷◌, ◌++◌, Memᴰ}
use Rattle.utf8.specs.Text.{chars}
use Rattle.trie.specs.Table.{complete, descend, answer}
use Rattle.trie.specs.Keys.{meets}
use Rattle.trie.specs.Tree.{Reachable}
use Rattle.head.specs.declared.Head.{Head}
use Rattle.head.specs.Fields.{most_links, most_link_bytes, most_data_bytes, most_alphabet}
use Rattle.head.specs.Fields.{most_letters}
use Rattle.head.specs.Fields.{fields_len, shortest_image, longest_image, head_of, used_len}
use Rattle.paper.specs.Given.{Given, alphabet_in, key_in}
use Rattle.paper.specs.Orders.{new_of}
use Rattle.paper.specs.Calls.{table_in, fresh_head}
use Rattle.reasons.specs.Reasons.{Reason, ◌when◌, LetterOutside, key_reasons, value_reasons}

-- ---- 1 to 4

-- 1: "image shorter than 28 or longer than 16,777,216 bytes"
abbrev pub WrongLength : ℕ → Type 0
WrongLength len = (len < shortest_image) ⊎ (longest_image < len)

-- 2: "a head field outside the table above", field by field; G is "any that passes answer 4"
pub data FieldOutside (h : Head) : Type 0 where
  -- "links in a node", "1 to 256"
  n_below : h.n < 1 → FieldOutside h
  n_above : most_links < h.n → FieldOutside h
  -- "bytes in a link", "1 to 4"
  a_below : h.a < 1 → FieldOutside h
  a_above : most_link_bytes < h.a → FieldOutside h
  -- "bytes of data", "1 to 4"
  d_below : h.d < 1 → FieldOutside h
  d_above : most_data_bytes < h.d → FieldOutside h
  -- "bytes of alphabet", "0 to 1,024"
  f_above : most_alphabet < h.f → FieldOutside h
  -- "shortest key", "0 to max"
  min_above : h.max < h.min → FieldOutside h
  -- "longest key", "0 to 64"
  max_above : most_letters < h.max → FieldOutside h

-- no character stands twice
abbrev pub Different : List ℕ → Type 0
Different [] = Unit {0}
Different (c ∷ cs) = (¬ Memᴰ c cs) × Different cs

-- these bytes are "N different well-formed characters"
abbrev pub Characters : ℕ → List ℕ → Type 0
Characters n bytes = (cs : List ℕ) × (chars bytes ≡ some cs) × (length cs ≡ n) × Different cs

-- 3: "F above 0, the F bytes all inside the image .., and not N different well-formed characters"
abbrev pub AlphabetWrong : List ℕ → Type 0
AlphabetWrong l =
    (0 < (head_of l).f)
    × (fields_len + (head_of l).f ≤ length l)
    × (¬ Characters (head_of l).n (alphabet_in (head_of l) l))

-- 1 to 4 for an image; 4: "U exceeds the image's length"
unfoldable pub opening_reasons : List ℕ → List Reason
opening_reasons l =
    1 when WrongLength (length l)
    ∷ 2 when FieldOutside (head_of l)
    ∷ 3 when AlphabetWrong l
    ∷ 4 when (length l < used_len (head_of l))
    ∷ []

-- the greatest G that 32 bits hold, for 01's case "G = FFFFFFFF, with nothing earlier wrong, gives
-- 4 at any permitted length"
abbrev pub greatest : ℕ
greatest = 4294967295

-- "make: 1, 2, 3, 4 (for G = 0; F is the length of the alphabet given; here 1 concerns the lent
-- slice)"; 3 "for make: the alphabet given"
unfoldable pub make_reasons : List ℕ → ℕ → ℕ → ℕ → List ℕ → ℕ → ℕ → List Reason
make_reasons image n a d alphabet least most =
    1 when WrongLength (length image)
    ∷ 2 when FieldOutside (fresh_head n a d alphabet least most)
    ∷ 3 when ((0 < length alphabet) × (¬ Characters n alphabet))
    ∷ 4 when (length image < used_len (fresh_head n a d alphabet least most))
    ∷ []

-- ---- 6 to 8, 16 and 19

-- "every link that isn't empty is at most G": the link c breaks this. 02, Ask 3: "6, in lookups
-- too, means only a link above G"
abbrev pub Breaks : ℕ → ℕ → Type 0
Breaks g c = g < c

-- 6: node q holds a link that "breaks the first link rule"
abbrev pub HoldsBreaking : List ℕ → ℕ → Type 0
HoldsBreaking l q =
    (q ≤ (head_of l).g)
    × (i : ℕ) × (i < (head_of l).n) × Breaks (head_of l).g ((table_in l).child q i)

-- x stands in link i of node q
pub record StandsIn (l : List ℕ) (x q i : ℕ) : Type 0 where
  pub node : q ≤ (head_of l).g
  pub letter : i < (head_of l).n
  pub holds : (table_in l).child q i ≡ x

-- "an address in 1..G"
abbrev pub Address : List ℕ → ℕ → Type 0
Address l x = (1 ≤ x) × (x ≤ (head_of l).g)

-- 7: "an address stands in two links or more": x stands in two that are not the same. The
-- addresses are 1 to G: where a link holds a greater number, 6 applies.
abbrev pub InTwo : List ℕ → ℕ → Type 0
InTwo l x =
    Address l x
    × (q : ℕ) × (i : ℕ) × (p : ℕ) × (j : ℕ)
    × StandsIn l x q i × StandsIn l x p j × (¬ ((q ≡ p) × (i ≡ j)))

-- 8: "an address in 1..G stands in no link"
abbrev pub InNone : List ℕ → ℕ → Type 0
InNone l x = Address l x × ((q i : ℕ) → ¬ StandsIn l x q i)

-- 16, of 02's Ask 3: "a node unreached", where "every node must be reached from the root"
abbrev pub Unreached : List ℕ → ℕ → Type 0
Unreached l x = (x ≤ (head_of l).g) × (¬ Reachable (table_in l) x)

-- 19, of 02's Ask 8: "data at any depth outside min..max". Node x has data that is not 0, and no
-- key of min to max letters leads to it.
abbrev pub Hidden : List ℕ → ℕ → Type 0
Hidden l x =
    (x ≤ (head_of l).g)
    × ((table_in l).value x ≢ 0)
    × ((k : List ℕ) → descend (table_in l) 0 k ≡ complete x
    → (length k < (head_of l).min) ⊎ ((head_of l).max < length k))

-- 6 to 8, 16 and 19 for an image; 16 stands "right after 8", 19 "right after 16"
unfoldable pub node_reasons : List ℕ → List Reason
node_reasons l =
    6 when ((q : ℕ) × HoldsBreaking l q)
    ∷ 7 when ((x : ℕ) × InTwo l x)
    ∷ 8 when ((x : ℕ) × InNone l x)
    ∷ 16 when ((x : ℕ) × Unreached l x)
    ∷ 19 when ((x : ℕ) × Hidden l x)
    ∷ []

-- "check and number of keys: 1 to 8", 16 and 19; 5: "fewer than G+1 working numbers lent"
unfoldable pub check_reasons : List ℕ → List ℕ → List Reason
unfolding opening_reasons node_reasons
check_reasons l work =
    opening_reasons l ++ (5 when (length work < (head_of l).g + 1) ∷ node_reasons l)

-- "lowest": it is one, and no lower one is
abbrev pub LowestOf : (ℕ → Type 0) → ℕ → Type 0
LowestOf one x = one x × ((y : ℕ) → y < x → ¬ one y)

-- the column of places, for the calls that check: for 6 "lowest node that holds one", for the next
-- two "lowest such address", for 16 "place the lowest", for 19 "place the lowest such node", and
-- "A place not named is 0"
pub record RightPlace (l : List ℕ) (number place : ℕ) : Type 0 where
  pub six : number ≡ 6 → LowestOf (HoldsBreaking l) place
  pub seven : number ≡ 7 → LowestOf (InTwo l) place
  pub eight : number ≡ 8 → LowestOf (InNone l) place
  pub sixteen : number ≡ 16 → LowestOf (Unreached l) place
  pub nineteen : number ≡ 19 → LowestOf (Hidden l) place
  pub others : number ≢ 6 → number ≢ 7 → number ≢ 8 → number ≢ 16 → number ≢ 19 → place ≡ 0

-- ---- look up

-- the walk of a key comes to node q after some of its letters, and its link for the next letter
-- breaks the first link rule
pub record BreaksAfter (l key before : List ℕ) (q : ℕ) : Type 0 where
  pub letter : ℕ
  pub rest : List ℕ
  pub spelt : key ≡ before ++ (letter ∷ rest)
  pub walked : descend (table_in l) 0 before ≡ complete q
  pub breaks : Breaks (head_of l).g ((table_in l).child q letter)

-- 6: "In a lookup, 6 speaks only of the links on the key's path"
abbrev pub BreaksOnPath : List ℕ → List ℕ → Type 0
BreaksOnPath l key = (before : List ℕ) × (q : ℕ) × BreaksAfter l key before q

-- "look up: 1 to 4, 9, 10, then 6"
unfoldable pub look_up_reasons : List ℕ → Given → List Reason
unfolding opening_reasons key_reasons key_in
look_up_reasons l given =
    opening_reasons l ++ (key_reasons l given ++ (6 when BreaksOnPath l (key_in l given) ∷ []))

-- "the first refusal met on the way down is the answer, and its place is the node that holds that
-- link": no link that breaks the rule comes before it on the path
pub record FirstOnPath (l key : List ℕ) (place : ℕ) : Type 0 where
  pub before : List ℕ
  pub here : BreaksAfter l key before place
  pub earliest : (earlier : List ℕ) (q : ℕ) → length earlier < length before
      → ¬ BreaksAfter l key earlier q

-- the column of places, for a lookup; "A place not named is 0"
pub record PathPlace (l key : List ℕ) (number place : ℕ) : Type 0 where
  pub six : number ≡ 6 → FirstOnPath l key place
  pub others : number ≢ 6 → place ≡ 0

-- ---- store and next key

-- "store: 1 to 8, 9, 10, 11, 12, 13", with 16 and 19 after 8
unfoldable pub store_any_reasons : List ℕ → List ℕ → Given → ℕ → List Reason
unfolding check_reasons key_reasons value_reasons new_of key_in
store_any_reasons l work given value =
    check_reasons l work
    ++ (key_reasons l given ++ value_reasons l value (new_of (head_of l) l (key_in l given) value))

-- "A stored key is one with length in min..max whose data is not 0."
pub record StoredKey (l key : List ℕ) : Type 0 where
  pub least : (head_of l).min ≤ length key
  pub most : length key ≤ (head_of l).max
  pub data_there : answer (table_in l) key ≢ 0

-- 9, 10, 14 and 15 for next key: "For next key, 9 means only a key longer than max"; 14: "key
-- buffer shorter than max"; 15: "no stored key meets the request"
unfoldable pub asked_reasons : List ℕ → List ℕ → Bool → List ℕ → List Reason
asked_reasons l key after buffer =
    9 when ((head_of l).max < length key)
    ∷ 10 when LetterOutside (head_of l) key
    ∷ 14 when (length buffer < (head_of l).max)
    ∷ 15 when ((k : List ℕ) → StoredKey l k → ¬ (meets after key k ≡ true))
    ∷ []

-- "next key: 1 to 8, 9, 10, 14, 15", with 16 and 19 after 8
unfoldable pub next_key_reasons : List ℕ → List ℕ → List ℕ → Bool → List ℕ → List Reason
unfolding check_reasons asked_reasons
next_key_reasons l work key after buffer = check_reasons l work ++ asked_reasons l key after buffer
