-- One run on a fresh image of P1's head and alphabet, computed: what was stored last is at the
-- front of the plain list, a refused store is not in it, mending leaves image and list as they
-- are, a store with counts is a store, and the changes sum up to the two keys that are left.
use Prim.Native.Nat.{ℕ}
use mathlib.Core.Path.{◌≡◌, refl}
use mathlib.Core.List.{List, [], ◌∷◌, map}
use lib.IntN.{pos}
use lib.ListN.{replicate}
use Rattle.trie.specs.Keys.{keys_under}
use Rattle.paper.specs.Rows.{row1, row2, row3, row4, row6, row7, row8, row9, row10, row10text}
use Rattle.paper.specs.Rows.{row11, row12, row13, row16, row19, row6path}
use Rattle.paper.specs.Given.{as_letters, as_text}
use Rattle.paper.specs.Calls.{fresh_head, fresh_image, look_up_of}
use Rattle.paper.specs.Cases.{file}
use Rattle.calls.specs.Call.{Call, look_up, store, store_writes, mend, store_counts, key_at}
use Rattle.runs.specs.Runs.{Entry, last_of, plain_keys, Run, ran, start_of}

abbrev alphabet : List ℕ
alphabet = 0x41 ∷ 0x42 ∷ 0x43 ∷ []

abbrev work : List ℕ
work = replicate 5 7

abbrev list : List ℕ
list = replicate 6 0xAA

abbrev counts : List ℕ
counts = 3 ∷ 1 ∷ 0 ∷ 2 ∷ 1 ∷ []

abbrev entry : List ℕ → ℕ → Entry
entry k v = record { key = k; value = v }

-- BA = 9, B = 5, BA = 256, C = 7 by text, D = 1 by text, B = 6 by text, BA = 0, and two lookups
-- among them; then, with writes, CA = 3, C = 8 by text and D = 1 by text; then two mendings, one
-- lent a working number too few; then, with counts, C = 0 by text, B = 1 with the same list,
-- which is no longer right, and the key at position 1
abbrev calls : List Call
calls =
    store work (as_letters (1 ∷ 0 ∷ [])) 9
    ∷ store work (as_letters (1 ∷ [])) 5
    ∷ store work (as_letters (1 ∷ 0 ∷ [])) 256
    ∷ look_up (as_letters (1 ∷ 0 ∷ []))
    ∷ store work (as_text (0x43 ∷ [])) 7
    ∷ store work (as_text (0x44 ∷ [])) 1
    ∷ store work (as_text (0x42 ∷ [])) 6
    ∷ look_up (as_text (0x42 ∷ []))
    ∷ store work (as_letters (1 ∷ 0 ∷ [])) 0
    ∷ store_writes work (as_letters (2 ∷ 0 ∷ [])) 3 list
    ∷ store_writes work (as_text (0x43 ∷ [])) 8 list
    ∷ store_writes work (as_text (0x44 ∷ [])) 1 list
    ∷ mend work
    ∷ mend (replicate 4 7)
    ∷ store_counts work (as_text (0x43 ∷ [])) 0 counts
    ∷ store_counts work (as_letters (1 ∷ [])) 1 counts
    ∷ key_at work (2 ∷ 1 ∷ 0 ∷ 1 ∷ 1 ∷ []) 1 (replicate 3 0xAA)
    ∷ []

abbrev end : Run
end = ran (start_of (fresh_image (fresh_head 3 1 1 alphabet 1 3) alphabet (replicate 60 0xAA)))
    calls

abbrev expected : Run
expected =
    record {
      image = file 4 (0 ∷ 1 ∷ 3 ∷ 0 ∷ 2 ∷ 0 ∷ 0 ∷ 6 ∷ 0 ∷ 0 ∷ 0 ∷ 0 ∷ 4 ∷ 0 ∷ 0 ∷ 0 ∷ 0 ∷ 0 ∷ 0 ∷ 3
          ∷ []) 9;
      plain =
          entry (2 ∷ []) 0
          ∷ entry (2 ∷ []) 8
          ∷ entry (2 ∷ 0 ∷ []) 3
          ∷ entry (1 ∷ 0 ∷ []) 0
          ∷ entry (1 ∷ []) 6
          ∷ entry (2 ∷ []) 7
          ∷ entry (1 ∷ []) 5
          ∷ entry (1 ∷ 0 ∷ []) 9
          ∷ [];
      sum = pos 2;
    }

-- BA, B, C, CA and A, which was never stored
abbrev keys : List (List ℕ)
keys = (1 ∷ 0 ∷ []) ∷ (1 ∷ []) ∷ (2 ∷ []) ∷ (2 ∷ 0 ∷ []) ∷ (0 ∷ []) ∷ []

pub computed : (end ≡ expected)
    × (map (λ (k : List ℕ). (look_up_of end.image (as_letters k)).numbers.value) keys ≡ 0 ∷ 6 ∷ 0
    ∷ 3 ∷ 0 ∷ [])
    × (map (last_of end.plain) keys ≡ 0 ∷ 6 ∷ 0 ∷ 3 ∷ 0 ∷ [])
    × (plain_keys end.plain ≡ (1 ∷ []) ∷ (2 ∷ 0 ∷ []) ∷ [])
unfolding keys_under row1 row2 row3 row4 row6 row7 row8 row9 row10 row10text row11 row12 row13
    row16
    row19 row6path fresh_head fresh_image last_of ran start_of plain_keys
computed = (refl, refl, refl, refl)
