-- 02, Ask 7: "From it answer the key at position i [..] and the position of a stored key." The
-- last part of each jump, after 25 or after 10. It answers and leaves in the buffer what the
-- whole call does, whatever working numbers were lent.
use Rattle.std.specs.Prelude.{ℕ, ◌≡◌, cond, List, eqb, Result, Ok, Err}
use Rattle.std.proofs.Math.Option.{none}
use Rattle.trie.specs.Table.{answer}
use Rattle.passing.specs.Passing.{rank_in}
use Rattle.paper.specs.declared.Refusal.{Refusal}
use Rattle.paper.specs.declared.Found.{Found}
use Rattle.paper.specs.Answers.{found_of}
use Rattle.paper.specs.Hearing.{first}
use Rattle.paper.specs.Calls.{table_in, stored_keys}
use Rattle.position.specs.Orders.{check_counts_order}
use Rattle.position.specs.Calls.{work_left}
use Rattle.position.specs.Promises.{GivesKey}

-- the key at a position, once the check's rows and 25 have passed
abbrev pub TellsKey : List ℕ → ℕ → List ℕ → Result Found Refusal → List ℕ → Type 0
TellsKey l position buffer r buffer' =
    (work counts : List ℕ) → first (check_counts_order l work counts) ≡ none
    → GivesKey l work counts position buffer (found_of r) (work_left l work counts) buffer'

-- the position of a key, or 15 if it is not stored
unfoldable pub ranks_as : List ℕ → List ℕ → Result ℕ Refusal
unfolding answer table_in rank_in stored_keys
ranks_as l key =
    cond (eqb (answer (table_in l) key) 0) (Err Refusal.NoKey) (Ok (rank_in (stored_keys l) key))
