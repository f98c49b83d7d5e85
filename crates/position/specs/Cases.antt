-- 02, Ask 7, on 01's small file (N = 3, A = 1, D = 1, letters ABC, min 1, max 3): one table of
-- calls and of what each must leave. After P3 the keys are B and BA, and the counts 2, 2, 1. The
-- lent buffers hold rubbish (AA in key buffers, 7 in working numbers, 6 to 9 in counts).
use Rattle.std.specs.Prelude.{ℕ, List, [], ◌∷◌, pos, negsuc}
use Rattle.paper.specs.Hearing.{Outcome}
use Rattle.paper.specs.Given.{Given, as_letters, as_text}
use Rattle.paper.specs.Cases.{Case, file, body2, body3, body7, file3, refused, done}
use Rattle.position.specs.Calls.{counts_of, check_counts_of, store_counts_of, key_at_of}
use Rattle.position.specs.Calls.{position_of}

-- the file with the key AA = 5 and two nodes below it; the last, at depth 4, has this data, though
-- keys have 1 to 3 letters
abbrev deep : ℕ → List ℕ
deep last =
    file 4
    (1 ∷ 0 ∷ 0 ∷ 0 ∷ 2 ∷ 0 ∷ 0 ∷ 0 ∷ 3 ∷ 0 ∷ 0 ∷ 5 ∷ 4 ∷ 0 ∷ 0 ∷ 0 ∷ 0 ∷ 0 ∷ 0 ∷ last ∷ []) 0

-- four working numbers
abbrev work : List ℕ
work = 7 ∷ 7 ∷ 7 ∷ 7 ∷ []

-- five working numbers
abbrev work5 : List ℕ
work5 = 7 ∷ 7 ∷ 7 ∷ 7 ∷ 7 ∷ []

-- the four, with the first three cleared
abbrev cleared : List ℕ
cleared = 0 ∷ 0 ∷ 0 ∷ 7 ∷ []

-- the four, with the first two cleared
abbrev cleared2 : List ℕ
cleared2 = 0 ∷ 0 ∷ 7 ∷ 7 ∷ []

-- the five, all cleared
abbrev cleared5 : List ℕ
cleared5 = 0 ∷ 0 ∷ 0 ∷ 0 ∷ 0 ∷ []

-- the right counts after P3, and one number more
abbrev right : List ℕ
right = 2 ∷ 2 ∷ 1 ∷ 9 ∷ []

-- a key buffer
abbrev buffer : List ℕ
buffer = 0xAA ∷ 0xAA ∷ 0xAA ∷ 0xAA ∷ []

-- the store of CCC = 1 in the file after P3, with room for its three nodes and with these counts
abbrev stores_all : List ℕ → Outcome
stores_all counts = store_counts_of (file 2 body3 12) work (as_letters (2 ∷ 2 ∷ 2 ∷ [])) 1 counts

-- the position of a key after P3
abbrev at : Given → ℕ → Case
at given position =
    record {
      call = position_of file3 work right given;
      leaves = done 0 (pos 0) position (cleared ∷ []);
    }

-- the position of a key after P3, refused
abbrev no_position : Given → ℕ → Case
no_position given number =
    record { call = position_of file3 work right given; leaves = refused number 0 (cleared ∷ []) }

-- the calls with counts
abbrev pub cases : List Case
cases =
    -- working out the counts: done; 5 for either list; the check's answers; never 25
    record {
      call = counts_of file3 work (9 ∷ 9 ∷ 9 ∷ 9 ∷ []);
      leaves = done 0 (pos 0) 0 (cleared ∷ right ∷ []);
    }
    ∷ record {
      call = counts_of file3 work (9 ∷ 9 ∷ []);
      leaves = refused 5 0 (work ∷ (9 ∷ 9 ∷ []) ∷ []);
    }
    ∷ record {
      call = counts_of file3 (7 ∷ 7 ∷ []) (9 ∷ 9 ∷ 9 ∷ []);
      leaves = refused 5 0 ((7 ∷ 7 ∷ []) ∷ (9 ∷ 9 ∷ 9 ∷ []) ∷ []);
    }
    ∷ record {
      call = counts_of (file 1 (0 ∷ 2 ∷ 0 ∷ 0 ∷ 0 ∷ 0 ∷ 0 ∷ 0 ∷ []) 0) work (9 ∷ 9 ∷ 9 ∷ []);
      leaves = refused 6 0 (cleared2 ∷ (9 ∷ 9 ∷ 9 ∷ []) ∷ []);
    }
    -- the nodes below the only key have the count 0, also deeper than max
    ∷ record {
      call = counts_of (deep 0) work5 (9 ∷ 9 ∷ 9 ∷ 9 ∷ 9 ∷ []);
      leaves = done 0 (pos 0) 0 (cleared5 ∷ (1 ∷ 1 ∷ 1 ∷ 0 ∷ 0 ∷ []) ∷ []);
    }
    -- check with counts: 25 at the lowest node that differs, after the check's answers
    ∷ record { call = check_counts_of file3 work right; leaves = done 0 (pos 0) 0 (cleared ∷ []) }
    ∷ record {
      call = check_counts_of file3 work (2 ∷ 2 ∷ 2 ∷ []);
      leaves = refused 25 2 (cleared ∷ []);
    }
    ∷ record {
      call = check_counts_of file3 work (3 ∷ 2 ∷ 2 ∷ []);
      leaves = refused 25 0 (cleared ∷ []);
    }
    ∷ record {
      call = check_counts_of (deep 0) work5 (1 ∷ 1 ∷ 1 ∷ 0 ∷ 1 ∷ []);
      leaves = refused 25 4 (cleared5 ∷ []);
    }
    -- Ask 8: 19 is one of the check's answers
    ∷ record {
      call = check_counts_of (deep 8) work5 (9 ∷ 9 ∷ 9 ∷ 9 ∷ 9 ∷ []);
      leaves = refused 19 4 (cleared5 ∷ []);
    }
    ∷ record {
      call = check_counts_of (file 1 (0 ∷ 1 ∷ 1 ∷ 0 ∷ 0 ∷ 0 ∷ 0 ∷ 0 ∷ []) 0) work
          (9 ∷ 9 ∷ []);
      leaves = refused 7 1 (cleared2 ∷ []);
    }
    ∷ record { call = check_counts_of file3 work (2 ∷ 2 ∷ []); leaves = refused 5 0 (work ∷ []) }
    -- store with counts: a new key, a value stored again, a delete, and a delete of an absent key
    ∷ record {
      call = store_counts_of (file 2 body2 17) work (as_letters (1 ∷ [])) 5 (1 ∷ 1 ∷ 1 ∷ 9 ∷ []);
      leaves = done 0 (pos 1) 0 (file3 ∷ cleared ∷ right ∷ []);
    }
    ∷ record {
      call = store_counts_of file3 work (as_text (0x42 ∷ [])) 5 right;
      leaves = done 0 (pos 0) 0 (file3 ∷ cleared ∷ right ∷ []);
    }
    ∷ record {
      call = store_counts_of file3 work (as_text (0x42 ∷ [])) 0 right;
      leaves = done 0 (negsuc 0) 0 (file 2 body2 17 ∷ cleared ∷ (1 ∷ 1 ∷ 1 ∷ 9 ∷ []) ∷ []);
    }
    ∷ record {
      call = store_counts_of file3 work (as_letters (0 ∷ 1 ∷ [])) 0 right;
      leaves = done 0 (pos 0) 0 (file3 ∷ cleared ∷ right ∷ []);
    }
    -- the counts of new nodes are 1, whatever the list held there; 5 again where the list has no
    -- number for the last of them
    ∷ record {
      call = stores_all (2 ∷ 2 ∷ 1 ∷ 9 ∷ 8 ∷ 7 ∷ 6 ∷ []);
      leaves = done 0 (pos 1) 0 (file 5 body7 0 ∷ cleared ∷ (3 ∷ 2 ∷ 1 ∷ 1 ∷ 1 ∷ 1 ∷ 6 ∷ []) ∷ []);
    }
    ∷ record {
      call = stores_all (2 ∷ 2 ∷ 1 ∷ 9 ∷ 8 ∷ []);
      leaves = refused 5 0 (file 2 body3 12 ∷ cleared ∷ (2 ∷ 2 ∷ 1 ∷ 9 ∷ 8 ∷ []) ∷ []);
    }
    -- 13 before that 5; 25 before 9 and 10
    ∷ record {
      call = store_counts_of (file 2 body3 11) work (as_letters (2 ∷ 2 ∷ 2 ∷ [])) 1 right;
      leaves = refused 13 0 (file 2 body3 11 ∷ cleared ∷ right ∷ []);
    }
    ∷ record {
      call = store_counts_of file3 work (as_letters []) 1 (2 ∷ 1 ∷ 1 ∷ []);
      leaves = refused 25 1 (file3 ∷ cleared ∷ (2 ∷ 1 ∷ 1 ∷ []) ∷ []);
    }
    ∷ record {
      call = store_counts_of file3 work (as_letters []) 1 right;
      leaves = refused 9 0 (file3 ∷ cleared ∷ right ∷ []);
    }
    -- key at a position, from 0; 14 before 15, and 25 before 14
    ∷ record {
      call = key_at_of file3 work right 0 buffer;
      leaves = done 1 (pos 0) 5 (cleared ∷ (1 ∷ 0xAA ∷ 0xAA ∷ 0xAA ∷ []) ∷ []);
    }
    ∷ record {
      call = key_at_of file3 work right 1 buffer;
      leaves = done 2 (pos 0) 9 (cleared ∷ (1 ∷ 0 ∷ 0xAA ∷ 0xAA ∷ []) ∷ []);
    }
    ∷ record {
      call = key_at_of file3 work right 2 buffer;
      leaves = refused 15 0 (cleared ∷ buffer ∷ []);
    }
    ∷ record {
      call = key_at_of file3 work right 2 (0xAA ∷ 0xAA ∷ []);
      leaves = refused 14 0 (cleared ∷ (0xAA ∷ 0xAA ∷ []) ∷ []);
    }
    ∷ record {
      call = key_at_of file3 work (2 ∷ 2 ∷ 0 ∷ []) 2 [];
      leaves = refused 25 2 (cleared ∷ [] ∷ []);
    }
    -- position of a key: done; 15 for a key that is not stored; 9 and 10 before 15
    ∷ at (as_letters (1 ∷ [])) 0
    ∷ at (as_letters (1 ∷ 0 ∷ [])) 1
    ∷ at (as_text (0x42 ∷ 0x41 ∷ [])) 1
    ∷ no_position (as_letters (0 ∷ [])) 15
    ∷ no_position (as_letters (1 ∷ 0 ∷ 2 ∷ [])) 15
    ∷ no_position (as_letters []) 9
    ∷ no_position (as_letters (3 ∷ 0 ∷ 0 ∷ 0 ∷ [])) 9
    ∷ no_position (as_letters (3 ∷ [])) 10
    ∷ no_position (as_text (0x44 ∷ [])) 10
    ∷ []
