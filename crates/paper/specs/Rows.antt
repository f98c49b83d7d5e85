-- 01, "What the bench may hear": the table, one definition for each row, in the table's words,
-- and 16 and 19 of 02.
-- Each takes what its row speaks of, and says when the row is given and with which place.
use Rattle.std.specs.Prelude.{ℕ, zero, suc, ◌+◌, ◌-◌, ◌*◌, ◌^◌, Bool, true, false, not, ◌&&◌, cond}
use Rattle.std.specs.Prelude.{List, [], ◌∷◌, length, leb, ltb, eqb}
use Rattle.std.proofs.Math.Option.{Option, none, some}
use Rattle.field.specs.Range.{between}
use Rattle.trie.specs.Table.{Table, fault}
use Rattle.trie.specs.Lowest.{lowest, any_below}
use Rattle.trie.specs.Tree.{depth_of, depth_within}
use Rattle.head.specs.declared.Head.{Head}
use Rattle.head.specs.Fields.{shortest_image, longest_image, permitted, node_width, used_len}
use Rattle.alphabet.specs.Letters.{good_alphabet}
use Rattle.paper.specs.Hearing.{Row, row_when}

-- 1: "image shorter than 28 or longer than 16,777,216 bytes"
unfoldable pub row1 : ℕ → Row
unfolding row_when
row1 len = row_when 1 0 (not (between len shortest_image longest_image))

-- 2: "a head field outside the table above"
unfoldable pub row2 : Head → Row
unfolding row_when permitted
row2 h = row_when 2 0 (not (permitted h))

-- 3: "F above 0, the F bytes all inside the image (for make: the alphabet given), and not N
-- different well-formed characters". An alphabet of F bytes is all inside the image.
unfoldable pub row3 : Head → List ℕ → Row
unfolding row_when good_alphabet
row3 h alphabet =
    row_when 3 0
    (ltb 0 h.f && eqb (length alphabet) h.f && not (good_alphabet h.n alphabet))

-- 4: "U exceeds the image's length"
unfoldable pub row4 : Head → ℕ → Row
unfolding row_when used_len
row4 h len = row_when 4 0 (ltb len (used_len h))

-- 5: "fewer than G+1 working numbers lent"
unfoldable pub row5 : Head → ℕ → Row
unfolding row_when
row5 h lent = row_when 5 0 (ltb lent (h.g + 1))

-- does link c break the first link rule? 02, Ask 3: "6, in lookups too, means only a link above G"
unfoldable pub bad_link : ℕ → ℕ → Bool
bad_link g c = ltb g c

-- does one of the first m links of node q break it?
unfoldable pub holds_bad : ℕ → Table → ℕ → ℕ → Bool
unfolding any_below bad_link
holds_bad g t q m = any_below (λ i. bad_link g (t.child q i)) m

-- a row whose place is the lowest of the numbers a..a+k-1 that passes the test; it is not given
-- where none passes
unfoldable pub row_when_lowest : ℕ → (ℕ → Bool) → ℕ → ℕ → Row
unfolding row_when lowest
row_when_lowest number test a k = row_when number (lowest test a k) (ltb (lowest test a k) (a + k))

-- 6: "a link breaks the first link rule"; place "lowest node that holds one"
unfoldable pub row6 : Head → Table → Row
unfolding row_when_lowest holds_bad
row6 h t = row_when_lowest 6 (λ q. holds_bad h.g t q h.n) 0 (h.g + 1)

-- how many of the first m links of node q hold x
unfoldable pub times_in : Table → ℕ → ℕ → ℕ → ℕ
times_in t x q zero = 0
times_in t x q (suc m) = times_in t x q m + cond (eqb (t.child q m) x) 1 0

-- in how many links of the first k nodes, with n links each, the address x stands
unfoldable pub times : Table → ℕ → ℕ → ℕ → ℕ
unfolding times_in
times t n x zero = 0
times t n x (suc k) = times t n x k + times_in t x k n

-- 7: "an address stands in two links or more"; place "lowest such address". The addresses 1 to G
-- are enough: a link above G is 6.
unfoldable pub row7 : Head → Table → Row
unfolding row_when_lowest times
row7 h t = row_when_lowest 7 (λ x. leb 2 (times t h.n x (h.g + 1))) 1 h.g

-- 8: "an address in 1..G stands in no link"; place "lowest such address"
unfoldable pub row8 : Head → Table → Row
unfolding row_when_lowest times
row8 h t = row_when_lowest 8 (λ x. eqb (times t h.n x (h.g + 1)) 0) 1 h.g

-- 16, of 02's Ask 3: "a node unreached, place the lowest". The root is reached; a node is not if
-- no number of links up to G leads to it.
unfoldable pub row16 : Head → Table → Row
unfolding row_when_lowest depth_of
row16 h t = row_when_lowest 16 (λ x. ltb h.g (depth_of t h.n h.g x)) 1 h.g

-- has node x data that is not 0, at no depth in min..max?
unfoldable pub is_hidden : Head → Table → ℕ → Bool
unfolding depth_within
is_hidden h t x =
    ltb 0 (t.value x) && not (depth_within t h.n h.g h.min h.max x)

-- 19, of 02's Ask 8: "data at any depth outside min..max"; "place the lowest such node"
unfoldable pub row19 : Head → Table → Row
unfolding row_when_lowest is_hidden
row19 h t = row_when_lowest 19 (is_hidden h t) 0 (h.g + 1)

-- 9: "key length outside min..max"
unfoldable pub row9 : Head → List ℕ → Row
unfolding row_when
row9 h key = row_when 9 0 (not (between (length key) h.min h.max))

-- 9 for next key: "For next key, 9 means only a key longer than max."
unfoldable pub row9next : Head → List ℕ → Row
unfolding row_when
row9next h key = row_when 9 0 (ltb h.max (length key))

-- are all letter numbers below n?
unfoldable pub all_below : ℕ → List ℕ → Bool
all_below n [] = true
all_below n (x ∷ xs) = ltb x n && all_below n xs

-- 10 for letters: "a letter number is N or more"
unfoldable pub row10 : Head → List ℕ → Row
unfolding row_when all_below
row10 h key = row_when 10 0 (not (all_below h.n key))

-- is there no key?
unfoldable pub is_none : Option (List ℕ) → Bool
is_none none = true
is_none (some k) = false

-- 10 for text: "or the text is not well-formed or has a character outside the alphabet", so that
-- it names no key
unfoldable pub row10text : Option (List ℕ) → Row
unfolding row_when is_none
row10text named = row_when 10 0 (is_none named)

-- 11: "value above 256^D - 1"
unfoldable pub row11 : Head → ℕ → Row
unfolding row_when
row11 h value = row_when 11 0 (ltb (256 ^ h.d - 1) value)

-- 12: "G + k above 256^A - 1, with k above 0"
unfoldable pub row12 : Head → ℕ → Row
unfolding row_when
row12 h k = row_when 12 0 (ltb 0 k && ltb (256 ^ h.a - 1) (h.g + k))

-- 13: "U + k*W exceeds the image's length, with k above 0"
unfoldable pub row13 : Head → ℕ → ℕ → Row
unfolding row_when used_len node_width
row13 h k len = row_when 13 0 (ltb 0 k && ltb len (used_len h + k * node_width h))

-- 14: "key buffer shorter than max"
unfoldable pub row14 : Head → ℕ → Row
unfolding row_when
row14 h lent = row_when 14 0 (ltb lent h.max)

-- 15: "no stored key meets the request"
unfoldable pub row15 : Option (List ℕ) → Row
unfolding row_when is_none
row15 found = row_when 15 0 (is_none found)

-- 6 at the node that holds a bad link, where there is one
unfoldable pub row6_at : Option ℕ → Row
row6_at none = none
row6_at (some q) = some (record { number = 6; place = q })

-- 6 for look up: "In a lookup, 6 speaks only of the links on the key's path; the first refusal
-- met on the way down is the answer, and its place is the node that holds that link."
unfoldable pub row6path : Head → Table → List ℕ → Row
unfolding row6_at fault bad_link
row6path h t key = row6_at (fault (bad_link h.g) t 0 key)
