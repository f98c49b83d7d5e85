-- P7's store, CCC = 1 in 55 bytes after P3, cut before, between and after its five writes,
-- computed: what the cut leaves, and what mending leaves then. Of a write to spare bytes that is
-- hit, the bytes at odd places land; G and the link have such bytes too, but land whole or not
-- at all. Then the same store with three flushes, and with fewer, which are too few. Then a data
-- field of eight bytes. Then mending where no store was cut: P10's image, P8's, and one whose 8 is
-- not mended, since with the lower G the link to node 2 is above G.
use Prim.Native.Nat.{ℕ, ◌%◌}
use mathlib.Core.Path.{◌≡◌, refl}
use mathlib.Core.Bool.{Bool, true, false, not, cond}
use mathlib.Core.List.{List, [], ◌∷◌, map}
use lib.Dec.{eqb}
use lib.ListN.{replicate}
use lib.IntN.{pos}
use Rattle.trie.specs.Table.{descend}
use Rattle.trie.specs.Keys.{keys_under}
use Rattle.head.specs.Fields.{head_of, used_len}
use Rattle.node.specs.Writes.{store_writes, noted}
use Rattle.paper.specs.Hearing.{Outcome, outcome, done_numbers, refused_numbers}
use Rattle.paper.specs.Answers.{number_at}
use Rattle.paper.specs.Rows.{row1, row2, row3, row4, row6, row7, row8, row16, row19}
use Rattle.paper.specs.Calls.{table_in, stored_keys, writes_in, stored_image, mend_of}
use Rattle.paper.specs.Cases.{file, root_file}
use Rattle.cuts.specs.Cut.{cut_after}
use Rattle.cuts.specs.Flushed.{flushed, groups_in, landed, cut_since}
use Rattle.cuts.specs.Mended.{mended_image, read_back}

abbrev odd : ℕ → Bool
odd p = eqb (p % 2) 1

-- the image after P3, followed by these 12 spare bytes
abbrev after : List ℕ → List ℕ
after spare = file 2 (0 ∷ 1 ∷ 0 ∷ 0 ∷ 2 ∷ 0 ∷ 0 ∷ 5 ∷ 0 ∷ 0 ∷ 0 ∷ 9 ∷ spare) 0

abbrev before : List ℕ
before = file 2 (0 ∷ 1 ∷ 0 ∷ 0 ∷ 2 ∷ 0 ∷ 0 ∷ 5 ∷ 0 ∷ 0 ∷ 0 ∷ 9 ∷ []) 12

-- the image with three more nodes, this G, and this link for C in the root
abbrev grown : ℕ → ℕ → List ℕ
grown g link =
    file g (0 ∷ 1 ∷ link ∷ 0 ∷ 2 ∷ 0 ∷ 0 ∷ 5 ∷ 0 ∷ 0 ∷ 0 ∷ 9 ∷ 0 ∷ 0 ∷ 4 ∷ 0 ∷ 0 ∷ 0 ∷ 5 ∷ 0 ∷ 0
    ∷ 0 ∷ 0 ∷ 1 ∷ []) 0

abbrev left : ℕ → List ℕ
left k = cut_after k odd before (writes_in before (2 ∷ 2 ∷ 2 ∷ []) 1)

abbrev cuts : List ℕ
cuts = 0 ∷ 1 ∷ 2 ∷ 3 ∷ 4 ∷ 5 ∷ []

abbrev work : List ℕ
work = 7 ∷ 7 ∷ 7 ∷ 7 ∷ 7 ∷ 7 ∷ 7 ∷ []

abbrev expected : List (List ℕ)
expected =
    after (0 ∷ 0xAA ∷ 4 ∷ 0xAA ∷ 0xAA ∷ 0xAA ∷ 0xAA ∷ 0xAA ∷ 0xAA ∷ 0xAA ∷ 0xAA ∷ 0xAA ∷ [])
    ∷ after (0 ∷ 0 ∷ 4 ∷ 0 ∷ 0 ∷ 0xAA ∷ 5 ∷ 0xAA ∷ 0xAA ∷ 0xAA ∷ 0xAA ∷ 0xAA ∷ [])
    ∷ after (0 ∷ 0 ∷ 4 ∷ 0 ∷ 0 ∷ 0 ∷ 5 ∷ 0 ∷ 0 ∷ 0xAA ∷ 0 ∷ 0xAA ∷ [])
    ∷ grown 2 0
    ∷ grown 5 0
    ∷ grown 5 3
    ∷ []

abbrev done : List ℕ → List ℕ → Outcome
done image lent = outcome (done_numbers 0 (pos 0) 0) (image ∷ lent ∷ [])

pub computed : (map left cuts ≡ expected)
    × (map (λ (k : ℕ). mended_image (left k) work) cuts
    ≡ map (λ (k : ℕ). cond (eqb k 4) (grown 2 0) (left k)) cuts)
    × (mend_of (left 4) work ≡ done (grown 2 0) (0 ∷ 0 ∷ 0 ∷ 0 ∷ 0 ∷ 0 ∷ 7 ∷ []))
    × (noted (writes_in before (2 ∷ 2 ∷ 2 ∷ []) 1)
    ≡ 43 ∷ 4 ∷ 47 ∷ 4 ∷ 51 ∷ 4 ∷ 0 ∷ 4 ∷ 33 ∷ 1 ∷ [])
    × (read_back (left 5) (noted (writes_in before (2 ∷ 2 ∷ 2 ∷ []) 1)) ≡ writes_in before
    (2 ∷ 2 ∷ 2 ∷ []) 1)
unfolding row1 row2 row3 row4 row6 row7 row8 row16 row19 cut_after mended_image mend_of
    stored_image
    read_back noted store_writes table_in
computed = (refl, refl, refl, refl, refl)

-- ---- with three flushes

-- the same store, cut after k flushes, with what landed in each round
abbrev left_in : ℕ → List (ℕ → ℕ → Bool) → List ℕ
left_in k rounds = cut_since k rounds before (groups_in before (2 ∷ 2 ∷ 2 ∷ []) 1)

-- with one round, in the store
abbrev left_since : ℕ → (ℕ → ℕ → Bool) → List ℕ
left_since k lands = left_in k (lands ∷ [])

-- what landed since the last flush: nothing, all, the second write alone, and of each write the
-- bytes at odd places
abbrev nothing : ℕ → ℕ → Bool
nothing i p = false

abbrev all : ℕ → ℕ → Bool
all i p = true

abbrev second : ℕ → ℕ → Bool
second i p = eqb i 1

abbrev odds : ℕ → ℕ → Bool
odds i p = odd p

-- the image with the second of three new nodes
abbrev sparse : List ℕ
sparse =
    after (0xAA ∷ 0xAA ∷ 0xAA ∷ 0xAA ∷ 0 ∷ 0 ∷ 5 ∷ 0 ∷ 0xAA ∷ 0xAA ∷ 0xAA ∷ 0xAA ∷ [])

-- the image with the bytes of the new nodes that are at odd places
abbrev striped : List ℕ
striped = after (0 ∷ 0xAA ∷ 4 ∷ 0xAA ∷ 0 ∷ 0xAA ∷ 5 ∷ 0xAA ∷ 0 ∷ 0xAA ∷ 0 ∷ 0xAA ∷ [])

-- the image with the second of three new nodes, and then the bytes of all at odd places
abbrev both : List ℕ
both = after (0 ∷ 0xAA ∷ 4 ∷ 0xAA ∷ 0 ∷ 0 ∷ 5 ∷ 0 ∷ 0 ∷ 0xAA ∷ 0 ∷ 0xAA ∷ [])

-- the places and lengths in each group; what a cut leaves; and what mending leaves then
pub computed_flushes : (map noted (groups_in before (2 ∷ 2 ∷ 2 ∷ []) 1)
    ≡ (43 ∷ 4 ∷ 47 ∷ 4 ∷ 51 ∷ 4 ∷ []) ∷ (0 ∷ 4 ∷ []) ∷ (33 ∷ 1 ∷ []) ∷ [])
    × (map noted (groups_in before (1 ∷ []) 7) ≡ (38 ∷ 1 ∷ []) ∷ [])
    × (groups_in before (2 ∷ 2 ∷ 2 ∷ []) 0 ≡ [])
    × (map (left_since 0) (nothing ∷ second ∷ odds ∷ all ∷ [])
    ≡ before ∷ sparse ∷ striped ∷ grown 2 0 ∷ [])
    × (map (left_since 1) (nothing ∷ odds ∷ all ∷ []) ≡ grown 2 0 ∷ grown 2 0 ∷ grown 5 0 ∷ [])
    × (map (left_since 2) (nothing ∷ all ∷ []) ≡ grown 5 0 ∷ grown 5 3 ∷ [])
    × (left_since 3 nothing ≡ grown 5 3)
    × (map (λ (l : List ℕ). mended_image l work)
    (before ∷ sparse ∷ striped ∷ grown 2 0 ∷ grown 5 0 ∷ grown 5 3 ∷ [])
    ≡ before ∷ sparse ∷ striped ∷ grown 2 0 ∷ grown 2 0 ∷ grown 5 3 ∷ [])
    × (mend_of sparse work ≡ done sparse (0 ∷ 0 ∷ 0 ∷ 7 ∷ 7 ∷ 7 ∷ 7 ∷ []))
    × (map stored_keys (before ∷ sparse ∷ striped ∷ grown 2 0 ∷ [])
    ≡ replicate 4 ((1 ∷ []) ∷ (1 ∷ 0 ∷ []) ∷ []))
unfolding row1 row2 row3 row4 row6 row7 row8 row16 row19 flushed cut_since mended_image mend_of
    noted
    store_writes table_in descend stored_keys keys_under
computed_flushes = (refl, refl, refl, refl, refl, refl, refl, refl, refl, refl)

-- the second node landed in the store, and the bytes at odd places when a start wrote back; G
-- landed at the second start; the link landed in the store and again at a start
pub computed_rounds : (left_in 0 (second ∷ odds ∷ []) ≡ both)
    × (mended_image both work ≡ both)
    × (stored_keys both ≡ (1 ∷ []) ∷ (1 ∷ 0 ∷ []) ∷ [])
    × (left_in 1 (nothing ∷ odds ∷ all ∷ []) ≡ grown 5 0)
    × (left_in 2 (all ∷ all ∷ []) ≡ grown 5 3)
unfolding row1 row2 row3 row4 row6 row7 row8 row16 row19 flushed cut_since mended_image mend_of
    noted
    store_writes table_in descend stored_keys keys_under
computed_rounds = (refl, refl, refl, refl, refl)

-- the store with no flush until all writes were issued: of write i all or nothing landed
abbrev unflushed : (ℕ → Bool) → List ℕ
unflushed lands =
    landed (used_len (head_of before)) (λ i p. lands i) before
    (writes_in before (2 ∷ 2 ∷ 2 ∷ []) 1)

-- The first two flushes are needed. Without the one before G, G may land and no node: the check
-- answers 6 at the first new node. Without the one before the link, the link may land and G not:
-- the check answers 6 at the root. Mending refuses both.
pub computed_needed :
    ((mend_of (unflushed (λ i. eqb i 3)) work).numbers ≡ refused_numbers (number_at 6 3))
    × ((mend_of (unflushed (λ i. not (eqb i 3))) work).numbers ≡ refused_numbers (number_at 6 0))
unfolding row1 row2 row3 row4 row6 row7 row8 row16 row19 landed mend_of store_writes table_in
    descend
    head_of used_len
computed_needed = (refl, refl)

-- ---- a data field of eight bytes

-- a root whose data is 0, in eight bytes
abbrev empty : List ℕ
empty = root_file (replicate 8 0)

-- 02, Ask 6: "Ask 1's whole-field premise covers the longer field". The store of 2^64 - 1 there is
-- one write of eight bytes from place 29 on. It lands whole or not at all, also where only the
-- bytes at odd places, or only those at even places, are named.
pub computed_eight : (map noted (groups_in empty [] 18446744073709551615) ≡ (29 ∷ 8 ∷ []) ∷ [])
    × (map (λ (lands : ℕ → ℕ → Bool).
    cut_since 0 (lands ∷ []) empty (groups_in empty [] 18446744073709551615))
    (odds ∷ (λ i p. not (odd p)) ∷ []) ≡ root_file (replicate 8 0xFF) ∷ empty ∷ [])
unfolding flushed cut_since noted store_writes table_in descend
computed_eight = (refl, refl)

-- ---- where no store was cut

-- three working numbers
abbrev three : List ℕ
three = 7 ∷ 7 ∷ 7 ∷ []

abbrev unnamed : List ℕ
unnamed = file 2 (0 ∷ 2 ∷ 0 ∷ 0 ∷ 0 ∷ 0 ∷ 0 ∷ 0 ∷ 0 ∷ 0 ∷ 0 ∷ 0 ∷ []) 0

abbrev twice : List ℕ
twice = file 1 (0 ∷ 1 ∷ 1 ∷ 0 ∷ 0 ∷ 0 ∷ 0 ∷ 0 ∷ []) 0

abbrev blank : ℕ → List ℕ
blank g = file g (0 ∷ 0 ∷ 0 ∷ 0 ∷ 0 ∷ 0 ∷ 0 ∷ 0 ∷ []) 0

pub computed_images : (mend_of (blank 1) three ≡ done (blank 0) (0 ∷ 0 ∷ 7 ∷ []))
    × (mend_of twice three ≡ outcome (refused_numbers (number_at 7 1))
    (twice ∷ (0 ∷ 0 ∷ 7 ∷ []) ∷ []))
    × (mend_of unnamed three ≡ outcome (refused_numbers (number_at 8 1))
    (unnamed ∷ (0 ∷ 0 ∷ 0 ∷ []) ∷ []))
unfolding row1 row2 row3 row4 row6 row7 row8 row16 row19 mend_of
computed_images = (refl, refl, refl)
