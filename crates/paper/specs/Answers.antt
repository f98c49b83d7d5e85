-- 01, "Where an answer is an enum, a definition lists this paper's number and values for each
-- case": the number and the place of each refusal, and the numbers of each call's answer.
use Rattle.std.specs.Prelude.{ℕ, ℤ, pos, Result, Ok, Err}
use Rattle.std.proofs.Math.Option.{none, some}
use Rattle.paper.specs.declared.Refusal.{Refusal}
use Rattle.paper.specs.declared.Refusal.TheVariants.{ImageLength, HeadField, Alphabet}
use Rattle.paper.specs.declared.Refusal.TheVariants.{ImageRoom, TooFewNumbers, Link}
use Rattle.paper.specs.declared.Refusal.TheVariants.{LinkedTwice, NotLinked, KeyLength}
use Rattle.paper.specs.declared.Refusal.TheVariants.{Letter, ValueTooGreat, NoAddress}
use Rattle.paper.specs.declared.Refusal.TheVariants.{NoRoom, ShortBuffer, NoKey}
use Rattle.paper.specs.declared.Refusal.TheVariants.{NotReached, Hidden, CountsDiffer}
use Rattle.paper.specs.declared.Noted.{Noted}
use Rattle.paper.specs.declared.Found.{Found}
use Rattle.paper.specs.Hearing.{Said, Row, Numbers, refused_numbers, done_numbers}

-- the number and the place of a refusal
abbrev pub number_at : ℕ → ℕ → Said
number_at number place = record { number = number; place = place }

-- the number and the place of each refusal, as 01's table gives them and, for 16, 19 and
-- 25, 02's Asks 3, 8 and 7
abbrev pub said_of : Refusal → Said
said_of ImageLength = number_at 1 0
said_of HeadField = number_at 2 0
said_of Alphabet = number_at 3 0
said_of ImageRoom = number_at 4 0
said_of TooFewNumbers = number_at 5 0
said_of (Link node) = number_at 6 node
said_of (LinkedTwice address) = number_at 7 address
said_of (NotLinked address) = number_at 8 address
said_of KeyLength = number_at 9 0
said_of Letter = number_at 10 0
said_of ValueTooGreat = number_at 11 0
said_of NoAddress = number_at 12 0
said_of NoRoom = number_at 13 0
said_of ShortBuffer = number_at 14 0
said_of NoKey = number_at 15 0
said_of (NotReached node) = number_at 16 node
said_of (Hidden node) = number_at 19 node
said_of (CountsDiffer node) = number_at 25 node

-- the row that a part of an order gives; none where the part passed
unfoldable pub row_of : {X : Type 0} → Result X Refusal → Row
row_of (Ok x) = none
row_of (Err r) = some (said_of r)

-- the numbers of an answer that is refused
unfoldable pub refusal_numbers : Refusal → Numbers
unfolding refused_numbers
refusal_numbers r = refused_numbers (said_of r)

-- the calls that answer done or refused and nothing more: all numbers of done are 0
unfoldable pub done_of : Result (Unit {0}) Refusal → Numbers
unfolding refusal_numbers done_numbers
done_of (Ok x) = done_numbers 0 (pos 0) 0
done_of (Err r) = refusal_numbers r

-- look up: the value, 0 for absent. Number of keys: that number is the value. Position of a key:
-- the position is the value
unfoldable pub value_of : Result ℕ Refusal → Numbers
unfolding refusal_numbers done_numbers
value_of (Ok v) = done_numbers 0 (pos 0) v
value_of (Err r) = refusal_numbers r

-- store: the change in the number of stored keys
unfoldable pub stored_of : Result ℤ Refusal → Numbers
unfolding refusal_numbers done_numbers
stored_of (Ok c) = done_numbers 0 c 0
stored_of (Err r) = refusal_numbers r

-- store with writes: the change, and as the length how many writes are noted
unfoldable pub noted_of : Result Noted Refusal → Numbers
unfolding refusal_numbers done_numbers
noted_of (Ok n) = done_numbers n.writes n.change 0
noted_of (Err r) = refusal_numbers r

-- next key and key at a position: the key's length and value
unfoldable pub found_of : Result Found Refusal → Numbers
unfolding refusal_numbers done_numbers
found_of (Ok f) = done_numbers f.length (pos 0) f.value
found_of (Err r) = refusal_numbers r
