-- 01's two examples of the whole output, P3 and P8, and the greatest value of 02's Ask 6. The
-- checker computes them.
use mathlib.Core.Path.{◌≡◌, refl}
use mathlib.Core.List.{[], ◌∷◌}
use lib.ListN.{replicate}
use Rattle.trie.specs.Keys.{keys_under}
use Rattle.paper.specs.Rows.{row1, row2, row3, row4, row6, row7, row8, row16, row19}
use Rattle.paper.specs.Cases.{file, file3, root_file}
use Rattle.list.specs.Output.{output_of}

-- "For P3 it writes exactly": `entries 2`, `1 5`, `1.0 9`
pub writes_3 : output_of file3
    ≡ 101 ∷ 110 ∷ 116 ∷ 114 ∷ 105 ∷ 101 ∷ 115 ∷ 32 ∷ 50 ∷ 10
    ∷ 49 ∷ 32 ∷ 53 ∷ 10
    ∷ 49 ∷ 46 ∷ 48 ∷ 32 ∷ 57 ∷ 10 ∷ []
unfolding output_of row1 row2 row3 row4 row6 row7 row8 row16 row19 keys_under
writes_3 = refl

-- "for P8 `refused 7 at 1`"
pub writes_8 : output_of (file 1 (0 ∷ 1 ∷ 1 ∷ 0 ∷ 0 ∷ 0 ∷ 0 ∷ 0 ∷ []) 0)
    ≡ 114 ∷ 101 ∷ 102 ∷ 117 ∷ 115 ∷ 101 ∷ 100 ∷ 32 ∷ 55 ∷ 32 ∷ 97 ∷ 116 ∷ 32 ∷ 49 ∷ 10 ∷ []
unfolding output_of row1 row2 row3 row4 row6 row7
writes_8 = refl

-- Ask 6, "values are 64 bits wide": `entries 1`, `- 18446744073709551615`, which has twenty digits
pub writes_twenty : output_of (root_file (replicate 8 0xFF))
    ≡ 101 ∷ 110 ∷ 116 ∷ 114 ∷ 105 ∷ 101 ∷ 115 ∷ 32 ∷ 49 ∷ 10
    ∷ 45 ∷ 32 ∷ 49 ∷ 56 ∷ 52 ∷ 52 ∷ 54 ∷ 55 ∷ 52 ∷ 52 ∷ 48 ∷ 55 ∷ 51 ∷ 55 ∷ 48 ∷ 57 ∷ 53 ∷ 53 ∷ 49
    ∷ 54 ∷ 49 ∷ 53 ∷ 10 ∷ []
unfolding output_of row1 row2 row3 row4 row6 row7 row8 row16 row19 keys_under
writes_twenty = refl
