-- The numbers of the answer that C is given are its fields. So the contracts for C cite the same
-- promises as the contracts of the calls.
use Rattle.face.specs.declared.TrieffAnswer.{TrieffAnswer}
use Rattle.paper.specs.Hearing.{Numbers}

abbrev pub numbers_of : TrieffAnswer → Numbers
numbers_of r = record {
  number = r.number;
  place = r.place;
  length = r.length;
  change = r.change;
  value = r.value;
}
