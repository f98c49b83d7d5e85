-- `paper::Refusal::number` meets its contract: each refusal has the number that `said_of` lists
-- for
-- it. Assumes nothing.
use mathlib.Core.Path.{◌≡◌, sym, ap}
use Rattle.paper.specs.declared.Refusal.{Refusal}
use Rattle.paper.specs.Answers.{said_of}
use Rattle.paper.proofs.Refusal.number.Goals as goal

listed : {r s : Refusal} → r ≡ s → (said_of s).number ≡ (said_of r).number
listed e = ap (λ (r : Refusal). (said_of r).number) (sym e)

pub returns-in-ImageLength : goal.returns-in-ImageLength
returns-in-ImageLength c = listed c.in-ImageLength.is

pub returns-in-HeadField : goal.returns-in-HeadField
returns-in-HeadField c = listed c.in-HeadField.is

pub returns-in-Alphabet : goal.returns-in-Alphabet
returns-in-Alphabet c = listed c.in-Alphabet.is

pub returns-in-ImageRoom : goal.returns-in-ImageRoom
returns-in-ImageRoom c = listed c.in-ImageRoom.is

pub returns-in-TooFewNumbers : goal.returns-in-TooFewNumbers
returns-in-TooFewNumbers c = listed c.in-TooFewNumbers.is

pub returns-in-Link : goal.returns-in-Link
returns-in-Link c = listed c.in-Link.is

pub returns-in-LinkedTwice : goal.returns-in-LinkedTwice
returns-in-LinkedTwice c = listed c.in-LinkedTwice.is

pub returns-in-NotLinked : goal.returns-in-NotLinked
returns-in-NotLinked c = listed c.in-NotLinked.is

pub returns-in-KeyLength : goal.returns-in-KeyLength
returns-in-KeyLength c = listed c.in-KeyLength.is

pub returns-in-Letter : goal.returns-in-Letter
returns-in-Letter c = listed c.in-Letter.is

pub returns-in-ValueTooGreat : goal.returns-in-ValueTooGreat
returns-in-ValueTooGreat c = listed c.in-ValueTooGreat.is

pub returns-in-NoAddress : goal.returns-in-NoAddress
returns-in-NoAddress c = listed c.in-NoAddress.is

pub returns-in-NoRoom : goal.returns-in-NoRoom
returns-in-NoRoom c = listed c.in-NoRoom.is

pub returns-in-ShortBuffer : goal.returns-in-ShortBuffer
returns-in-ShortBuffer c = listed c.in-ShortBuffer.is

pub returns-in-NoKey : goal.returns-in-NoKey
returns-in-NoKey c = listed c.in-NoKey.is

pub returns-in-NotReached : goal.returns-in-NotReached
returns-in-NotReached c = listed c.in-NotReached.is

pub returns-in-Hidden : goal.returns-in-Hidden
returns-in-Hidden c = listed c.in-Hidden.is

pub returns-in-CountsDiffer : goal.returns-in-CountsDiffer
returns-in-CountsDiffer c = listed c.in-CountsDiffer.is
