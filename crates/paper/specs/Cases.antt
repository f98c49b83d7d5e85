-- 01, "Cases from one small file": those marked P, and cases of 02's Asks 3, 6 and 8, as one
-- table: of calls and of what each must leave, and of the images that are left and of their G, W
-- and U. N = 3, A = 1, D = 1, letters ABC, min 1, max 3; for Ask 6 a root alone, with more bytes
-- of data. The lent buffers hold rubbish (AA in images and key buffers, 7 in working numbers), so
-- that the table shows what a call keeps and what it changes.
use Rattle.std.specs.Prelude.{ℕ, ◌+◌, true, false, List, [], ◌∷◌, ◌++◌, length, replicate, set, ℤ}
use Rattle.std.specs.Prelude.{pos}
use Rattle.head.specs.Fields.{head_of, node_width, used_len}
use Rattle.paper.specs.Hearing.{Outcome, outcome, refused_numbers, done_numbers}
use Rattle.paper.specs.Given.{Given, as_letters, as_text}
use Rattle.paper.specs.Calls.{make_of, check_of, count_of, look_up_of, store_of, next_key_of}

-- a call, and the outcome that it must leave
pub record Case : Type 0 where
  pub call : Outcome
  pub leaves : Outcome

-- the figures of an image that 01 names
pub record Figures : Type 0 where
  pub g : ℕ
  pub w : ℕ
  pub u : ℕ

-- an image that a case leaves, and the figures that it must have
pub record Sized : Type 0 where
  pub image : List ℕ
  pub figures : Figures

-- n bytes AA
abbrev rubbish : ℕ → List ℕ
rubbish n = replicate n 0xAA

-- the file with this G and this body, and after them this many spare bytes
abbrev pub file : ℕ → List ℕ → ℕ → List ℕ
file g body spare =
    (0 ∷ 0 ∷ 0 ∷ g ∷ 0 ∷ 0 ∷ 0 ∷ 3 ∷ 0 ∷ 0 ∷ 0 ∷ 1 ∷ 0 ∷ 0 ∷ 0 ∷ 1
    ∷ 0 ∷ 0 ∷ 0 ∷ 3 ∷ 0 ∷ 0 ∷ 0 ∷ 1 ∷ 0 ∷ 0 ∷ 0 ∷ 3 ∷ 0x41 ∷ 0x42 ∷ 0x43 ∷ [])
    ++ (body ++ rubbish spare)

-- P1's body: an empty root
abbrev body1 : List ℕ
body1 = 0 ∷ 0 ∷ 0 ∷ 0 ∷ []

-- P2's body
abbrev pub body2 : List ℕ
body2 = 0 ∷ 1 ∷ 0 ∷ 0 ∷ 2 ∷ 0 ∷ 0 ∷ 0 ∷ 0 ∷ 0 ∷ 0 ∷ 9 ∷ []

-- P3's body
abbrev pub body3 : List ℕ
body3 = 0 ∷ 1 ∷ 0 ∷ 0 ∷ 2 ∷ 0 ∷ 0 ∷ 5 ∷ 0 ∷ 0 ∷ 0 ∷ 9 ∷ []

-- P7's body: three new nodes for CCC
abbrev pub body7 : List ℕ
body7 =
    0 ∷ 1 ∷ 3 ∷ 0 ∷ 2 ∷ 0 ∷ 0 ∷ 5 ∷ 0 ∷ 0 ∷ 0 ∷ 9
    ∷ 0 ∷ 0 ∷ 4 ∷ 0 ∷ 0 ∷ 0 ∷ 5 ∷ 0 ∷ 0 ∷ 0 ∷ 0 ∷ 1 ∷ []

-- the file after P1, with no spare bytes
abbrev file1 : List ℕ
file1 = file 0 body1 0

-- the file after P2, with 17 spare bytes
abbrev file2 : List ℕ
file2 = file 2 body2 17

-- the file after P3, with 17 spare bytes
abbrev pub file3 : List ℕ
file3 = file 2 body3 17

-- the file after P7, with no spare bytes
abbrev file7 : List ℕ
file7 = file 5 body7 0

-- G, W and U of an image, by the written rules
abbrev pub figures_of : List ℕ → Figures
figures_of l = record { g = (head_of l).g; w = node_width (head_of l); u = used_len (head_of l) }

-- refused with this number and place
abbrev pub refused : ℕ → ℕ → List (List ℕ) → Outcome
refused number place ls = outcome (refused_numbers (record { number = number; place = place })) ls

-- done with these numbers
abbrev pub done : ℕ → ℤ → ℕ → List (List ℕ) → Outcome
done length change value ls = outcome (done_numbers length change value) ls

-- P1's make in a slice of this length
abbrev make : ℕ → Outcome
make room = make_of (rubbish room) 3 1 1 (0x41 ∷ 0x42 ∷ 0x43 ∷ []) 1 3

-- three working numbers
abbrev work : List ℕ
work = 7 ∷ 7 ∷ 7 ∷ []

-- the same, cleared
abbrev cleared : List ℕ
cleared = 0 ∷ 0 ∷ 0 ∷ []

-- a key buffer
abbrev buffer : List ℕ
buffer = rubbish 3

-- a lookup after P3 that answers this value
abbrev finds : Given → ℕ → Case
finds given value = record { call = look_up_of file3 given; leaves = done 0 (pos 0) value [] }

-- a lookup after P3 that is refused
abbrev turns_away : Given → ℕ → Case
turns_away given number = record { call = look_up_of file3 given; leaves = refused number 0 [] }

-- a check of the file with this G and this body, lent one working number more than it needs: it
-- is refused and clears the others
abbrev checks : ℕ → List ℕ → ℕ → ℕ → Case
checks g body number place =
    record {
      call = check_of (file g body 0) (replicate (g + 2) 7);
      leaves = refused number place ((replicate (g + 1) 0 ++ (7 ∷ [])) ∷ []);
    }

-- P11's body: node 1 has a link to itself
abbrev body11 : List ℕ
body11 = 0 ∷ 1 ∷ 0 ∷ 0 ∷ 0 ∷ 1 ∷ 0 ∷ 0 ∷ []

-- P3's file with its nodes renumbered: B is node 2, and BA is node 1
abbrev lower3 : List ℕ
lower3 = file 2 (0 ∷ 2 ∷ 0 ∷ 0 ∷ 0 ∷ 0 ∷ 0 ∷ 9 ∷ 1 ∷ 0 ∷ 0 ∷ 5 ∷ []) 0

-- five nodes under the root, in one chain, with data at two: node 1, at depth 5, and node 2, at
-- depth 4
abbrev chain : List ℕ
chain =
    5 ∷ 0 ∷ 0 ∷ 0 ∷ 0 ∷ 0 ∷ 0 ∷ 9 ∷ 1 ∷ 0 ∷ 0 ∷ 8 ∷ 2 ∷ 0 ∷ 0 ∷ 0 ∷ 3 ∷ 0 ∷ 0 ∷ 0 ∷ 4 ∷ 0 ∷ 0 ∷ 0
    ∷ []

-- P3's file with a record at BABA, below a node without data: the two nodes are 3 and 4
abbrev longer3 : ℕ → List ℕ
longer3 value =
    0 ∷ 1 ∷ 0 ∷ 0 ∷ 2 ∷ 0 ∷ 0 ∷ 5 ∷ 0 ∷ 3 ∷ 0 ∷ 9 ∷ 4 ∷ 0 ∷ 0 ∷ 0 ∷ 0 ∷ 0 ∷ 0 ∷ value ∷ []

-- a root with these bytes of data and one empty link of one byte, where the empty key alone can be
-- stored: N = 1, A = 1, F = 0, min and max 0
abbrev pub root_file : List ℕ → List ℕ
root_file bytes =
    (0 ∷ 0 ∷ 0 ∷ 0 ∷ 0 ∷ 0 ∷ 0 ∷ 1 ∷ 0 ∷ 0 ∷ 0 ∷ 1 ∷ 0 ∷ 0 ∷ 0 ∷ length bytes
    ∷ 0 ∷ 0 ∷ 0 ∷ 0 ∷ 0 ∷ 0 ∷ 0 ∷ 0 ∷ 0 ∷ 0 ∷ 0 ∷ 0 ∷ 0 ∷ [])
    ++ bytes

-- a store of this value under the empty key, over D bytes of data 0, is done and leaves these
-- bytes
abbrev puts : ℕ → ℕ → List ℕ → Case
puts d value bytes =
    record {
      call = store_of (root_file (replicate d 0)) (7 ∷ []) (as_letters []) value;
      leaves = done 0 (pos 1) 0 (root_file bytes ∷ (0 ∷ []) ∷ []);
    }

-- it is refused with 11
abbrev too_great : ℕ → ℕ → Case
too_great d value =
    record {
      call = store_of (root_file (replicate d 0)) (7 ∷ []) (as_letters []) value;
      leaves = refused 11 0 (root_file (replicate d 0) ∷ (0 ∷ []) ∷ []);
    }

-- a value of eight bytes of which the last four are 0: 2^32
abbrev high_one : List ℕ
high_one = 0 ∷ 0 ∷ 0 ∷ 1 ∷ 0 ∷ 0 ∷ 0 ∷ 0 ∷ []

-- P1 to P12, and Asks 3, 6 and 8
abbrev pub cases : List Case
cases =
    -- P1: "fresh in 35 bytes .. With 34 bytes, 4"
    record { call = make 35; leaves = done 0 (pos 0) 0 (file1 ∷ []) }
    ∷ record { call = make 34; leaves = refused 4 0 (rubbish 34 ∷ []) }
    -- P2: "then, with room, store BA = 9: change 1, G = 2, U = 43"
    ∷ record {
      call = store_of (file 0 body1 25) work (as_letters (1 ∷ 0 ∷ [])) 9;
      leaves = done 0 (pos 1) 0 (file2 ∷ (0 ∷ 7 ∷ 7 ∷ []) ∷ []);
    }
    -- P3: "then store B = 5: change 1", by letters and by text; then number of keys is 2
    ∷ record {
      call = store_of file2 work (as_letters (1 ∷ [])) 5;
      leaves = done 0 (pos 1) 0 (file3 ∷ cleared ∷ []);
    }
    ∷ record {
      call = store_of file2 work (as_text (0x42 ∷ [])) 5;
      leaves = done 0 (pos 1) 0 (file3 ∷ cleared ∷ []);
    }
    ∷ record { call = count_of file3 work; leaves = done 0 (pos 0) 2 (cleared ∷ []) }
    -- P4: "look up BA 9; B 5; A, BB and BAC absent", by letters and by text
    ∷ finds (as_letters (1 ∷ 0 ∷ [])) 9
    ∷ finds (as_letters (1 ∷ [])) 5
    ∷ finds (as_letters (0 ∷ [])) 0
    ∷ finds (as_letters (1 ∷ 1 ∷ [])) 0
    ∷ finds (as_letters (1 ∷ 0 ∷ 2 ∷ [])) 0
    ∷ finds (as_text (0x42 ∷ 0x41 ∷ [])) 9
    ∷ finds (as_text (0x42 ∷ [])) 5
    ∷ finds (as_text (0x41 ∷ [])) 0
    ∷ finds (as_text (0x42 ∷ 0x42 ∷ [])) 0
    ∷ finds (as_text (0x42 ∷ 0x41 ∷ 0x43 ∷ [])) 0
    -- P5: "the empty key 9; BABA 9; letter number 3 gives 10", by letters and by text
    ∷ turns_away (as_letters []) 9
    ∷ turns_away (as_letters (1 ∷ 0 ∷ 1 ∷ 0 ∷ [])) 9
    ∷ turns_away (as_letters (3 ∷ [])) 10
    ∷ turns_away (as_text []) 9
    ∷ turns_away (as_text (0x42 ∷ 0x41 ∷ 0x42 ∷ 0x41 ∷ [])) 9
    ∷ turns_away (as_text (0x44 ∷ [])) 10
    -- P6: "store BA = 256 gives 11. Store ABC = 0: nothing changes."
    ∷ record {
      call = store_of file3 work (as_letters (1 ∷ 0 ∷ [])) 256;
      leaves = refused 11 0 (file3 ∷ cleared ∷ []);
    }
    ∷ record {
      call = store_of file3 work (as_letters (0 ∷ 1 ∷ 2 ∷ [])) 0;
      leaves = done 0 (pos 0) 0 (file3 ∷ cleared ∷ []);
    }
    -- P7: "in 54 bytes, store CCC = 1 after P3 gives 13; in 55 bytes it is done with G = 5"
    ∷ record {
      call = store_of (file 2 body3 11) work (as_letters (2 ∷ 2 ∷ 2 ∷ [])) 1;
      leaves = refused 13 0 (file 2 body3 11 ∷ cleared ∷ []);
    }
    ∷ record {
      call = store_of (file 2 body3 12) work (as_letters (2 ∷ 2 ∷ 2 ∷ [])) 1;
      leaves = done 0 (pos 1) 0 (file7 ∷ cleared ∷ []);
    }
    -- P8 to P10: "7 at 1", "6 at 0", "8 at 1"
    ∷ checks 1 (0 ∷ 1 ∷ 1 ∷ 0 ∷ 0 ∷ 0 ∷ 0 ∷ 0 ∷ []) 7 1
    ∷ checks 1 (0 ∷ 2 ∷ 0 ∷ 0 ∷ 0 ∷ 0 ∷ 0 ∷ 0 ∷ []) 6 0
    ∷ checks 1 (0 ∷ 0 ∷ 0 ∷ 0 ∷ 0 ∷ 0 ∷ 0 ∷ 0 ∷ []) 8 1
    -- P11, by Ask 3: "P11 now answers 7 at 1". A look up of BBB goes round and ends with its key.
    ∷ checks 1 body11 7 1
    ∷ record {
      call = look_up_of (file 1 body11 0) (as_letters (1 ∷ 1 ∷ 1 ∷ []));
      leaves = done 0 (pos 0) 0 [];
    }
    -- Ask 3: "G = 2 with body `00000000 02000000 01000000` answers 16 at 1"
    ∷ checks 2 (0 ∷ 0 ∷ 0 ∷ 0 ∷ 2 ∷ 0 ∷ 0 ∷ 0 ∷ 1 ∷ 0 ∷ 0 ∷ 0 ∷ []) 16 1
    -- Ask 3, "place the lowest": node 1 is reached, 3 and 4 are a cycle, and 2 hangs under 3
    ∷ checks 4
    (1 ∷ 0 ∷ 0 ∷ 0 ∷ 0 ∷ 0 ∷ 0 ∷ 0 ∷ 0 ∷ 0 ∷ 0 ∷ 0 ∷ 4 ∷ 2 ∷ 0 ∷ 0 ∷ 3 ∷ 0 ∷ 0 ∷ 0 ∷ []) 16 2
    -- Ask 3: P3's file renumbered is accepted, BA is found in it and follows B
    ∷ record { call = check_of lower3 work; leaves = done 0 (pos 0) 0 (cleared ∷ []) }
    ∷ record {
      call = look_up_of lower3 (as_letters (1 ∷ 0 ∷ []));
      leaves = done 0 (pos 0) 9 [];
    }
    ∷ record {
      call = next_key_of lower3 work (1 ∷ []) true buffer;
      leaves = done 2 (pos 0) 9 (cleared ∷ (1 ∷ 0 ∷ 0xAA ∷ []) ∷ []);
    }
    -- Ask 6: "D may be 1 to 8". D = 9 is refused; 256^D - 1 fits and 256^D gives 11, but "11 is
    -- never given for D = 8"; a value counts as stored where its last four bytes are 0
    ∷ record {
      call = check_of (root_file (replicate 9 0)) (7 ∷ []);
      leaves = refused 2 0 ((7 ∷ []) ∷ []);
    }
    ∷ puts 8 18446744073709551615 (replicate 8 0xFF)
    ∷ puts 8 4294967296 high_one
    ∷ puts 5 1099511627775 (replicate 5 0xFF)
    ∷ too_great 5 1099511627776
    ∷ puts 4 4294967295 (replicate 4 0xFF)
    ∷ too_great 4 4294967296
    ∷ record {
      call = look_up_of (root_file (replicate 8 0xFF)) (as_letters []);
      leaves = done 0 (pos 0) 18446744073709551615 [];
    }
    ∷ record {
      call = look_up_of (root_file high_one) (as_letters []);
      leaves = done 0 (pos 0) 4294967296 [];
    }
    ∷ record {
      call = count_of (root_file high_one) (7 ∷ []);
      leaves = done 0 (pos 0) 1 ((0 ∷ []) ∷ []);
    }
    -- Ask 8: data below min, in the root and in P3's file with min 2; data above max; "place the
    -- lowest such node", which here is not the one of least depth; 16 stands before it
    ∷ checks 0 (0 ∷ 0 ∷ 0 ∷ 4 ∷ []) 19 0
    ∷ record {
      call = check_of (set file3 23 2) work;
      leaves = refused 19 1 (cleared ∷ []);
    }
    ∷ checks 4 (longer3 1) 19 4
    ∷ checks 5 chain 19 1
    ∷ checks 2 (0 ∷ 0 ∷ 0 ∷ 4 ∷ 2 ∷ 0 ∷ 0 ∷ 0 ∷ 1 ∷ 0 ∷ 0 ∷ 0 ∷ []) 16 1
    -- Ask 8: a node below max is accepted where it has no data, and not counted
    ∷ record {
      call = count_of (file 4 (longer3 0) 0) (replicate 5 7);
      leaves = done 0 (pos 0) 2 (replicate 5 0 ∷ []);
    }
    -- P12: "after P3, next at or after the empty key is B; after B is BA; after BA gives 15"
    ∷ record {
      call = next_key_of file3 work [] false buffer;
      leaves = done 1 (pos 0) 5 (cleared ∷ (1 ∷ 0xAA ∷ 0xAA ∷ []) ∷ []);
    }
    ∷ record {
      call = next_key_of file3 work (1 ∷ []) true buffer;
      leaves = done 2 (pos 0) 9 (cleared ∷ (1 ∷ 0 ∷ 0xAA ∷ []) ∷ []);
    }
    ∷ record {
      call = next_key_of file3 work (1 ∷ 0 ∷ []) true buffer;
      leaves = refused 15 0 (cleared ∷ buffer ∷ []);
    }
    ∷ []

-- W is 4 in every image of P1 to P12 that is left, and U is P1's 35 bytes, P2's 43, which P3
-- keeps, and P7's 55. Ask 6: W has eight bytes of data.
abbrev pub sizes : List Sized
sizes =
    record { image = file1; figures = record { g = 0; w = 4; u = 35 } }
    ∷ record { image = file2; figures = record { g = 2; w = 4; u = 43 } }
    ∷ record { image = file3; figures = record { g = 2; w = 4; u = 43 } }
    ∷ record { image = file7; figures = record { g = 5; w = 4; u = 55 } }
    ∷ record { image = root_file high_one; figures = record { g = 0; w = 9; u = 37 } }
    ∷ []
