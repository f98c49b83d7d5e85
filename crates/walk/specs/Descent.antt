-- 01, "Walking, storing, listing": "The descent stands at a node and a depth; each letter gives
-- the next position. An empty link means absent [..] At the end the node's data is the value";
-- "the first refusal met on the way down is the answer, and its place is the node that holds that
-- link".
use Rattle.std.specs.Prelude.{ℕ, ◌+◌, cond, List, [], ◌∷◌, Result, Ok, Err}
use Rattle.std.specs.Prelude.{Option as Maybe, Some, None}
use Rattle.std.proofs.Math.Option.{Option, none, some}
use Rattle.trie.specs.Table.{Table, follow, answer, fault}
use Rattle.paper.specs.declared.Refusal.{Refusal}
use Rattle.paper.specs.declared.Refusal.TheVariants.{Link}
use Rattle.paper.specs.Rows.{bad_link}
use Rattle.walk.specs.declared.Position.{Position}
use Rattle.walk.specs.declared.Walked.{Walked}

-- the position at the root
abbrev pub at_root : Position
at_root = record { node = 0; depth = 0 }

-- the position after a letter whose link is c
abbrev pub on_to : Position → ℕ → Position
on_to p c = record { node = c; depth = p.depth + 1 }

-- where one letter leads, in a table whose greatest address is g: to the next position, to an
-- empty link, or to a bad link, which this node holds
unfoldable pub step_of : ℕ → Table → Position → ℕ → Result (Maybe Position) Refusal
unfolding follow bad_link
step_of g t p x =
    follow (t.child p.node x) (Ok None)
    (λ c. cond (bad_link g c) (Err (Link p.node)) (Ok (Some (on_to p c))))

-- the walk after a step: it goes on from the next position, it stops at this one, or it is
-- refused
unfoldable pub step_taken : Position → Result (Maybe Position) Refusal
    → (Position → Result Walked Refusal) → Result Walked Refusal
step_taken p (Ok (Some q)) on = on q
step_taken p (Ok None) on = Ok (Walked.Stopped p)
step_taken p (Err why) on = Err why

-- where the letters of a key lead, one after the other
unfoldable pub walked_from : ℕ → Table → Position → List ℕ → Result Walked Refusal
unfolding step_of step_taken
walked_from g t p [] = Ok (Walked.Complete p.node)
walked_from g t p (x ∷ xs) = step_taken p (step_of g t p x) (λ q. walked_from g t q xs)

-- a bad link on the path is 6 at its node, else the value is answered
unfoldable pub looked_by : Option ℕ → ℕ → Result ℕ Refusal
looked_by none v = Ok v
looked_by (some q) v = Err (Link q)

-- what a lookup answers, by the first bad link on the path (`fault`) and the value (`answer`)
unfoldable pub looked_in : ℕ → Table → List ℕ → Result ℕ Refusal
unfolding looked_by fault answer bad_link
looked_in g t k = looked_by (fault (bad_link g) t 0 k) (answer t k)
