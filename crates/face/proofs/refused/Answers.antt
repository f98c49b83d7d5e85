-- `face::refused` meets its contract: a refusal has its number and its place. Assumes nothing.
use Rattle.paper.specs.Hearing.{refused_numbers}
use Rattle.paper.specs.Answers.{refusal_numbers}
use Rattle.face.proofs.refused.Goals as goal

pub returns : goal.returns
unfolding refusal_numbers refused_numbers
returns c = rw (c.number.ensures, c.place.ensures)
