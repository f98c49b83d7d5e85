-- `list::refuse` meets its contract: the line of the refusal is the whole output, in one piece.
-- Assumes nothing.
use mathlib.Core.Path.{refl, sym, ◌∙◌, ap₂}
use mathlib.Core.List.{[], append-nil}
use native.Mathlib.Omega.{arith}
use Rattle.lines.specs.Lines.{refused_line}
use Rattle.lines.proofs.LineTexts.{refused_long}
use Rattle.list.specs.Output.{output_of}
use Rattle.list.proofs.Pieces.{Waiting, waiting_none, waiting_more, waiting_part}
use Rattle.list.proofs.Pieces.{waiting_front, waiting_all}
use Rattle.std.specs.Prelude.{Ok}
use Rattle.list.proofs.Sent.{held_none, sent_more, sent_all}
use Rattle.list.proofs.refuse.Given.{Over}
use Rattle.list.proofs.refuse.Goals as goal
use Rattle.list.proofs.refuse.Goals.{After-refused-end}

-- the line is in the buffer, and nothing follows it
waits : (g : Over) (c : After-refused-end g)
    → Waiting (output_of c.args.input.now)
    c.args.done.now c.refused-end.new.out c.refused-end.result []
waits g c =
    let line = refused_line c.number.result c.place.result in
    waiting_more (waiting_none (output_of c.args.input.now) _ c.requires.done_value)
    (c.requires.input_value ∙ ap₂ refused_line (sym c.number.ensures) (sym c.place.ensures)
    ∙ sym (append-nil line))
    c.refused-end.ensures
    (omega (arith, c.refused-end.ensures.ends, refused_long c.number.result c.place.result))

pub slice_bounds-out-end : goal.slice_bounds-out-end
slice_bounds-out-end g c = (waits g (goal.at.slice_bounds-out-end g c).After-refused-end).inside

pub slice_bounds-hand_over-end : goal.slice_bounds-hand_over-end
slice_bounds-hand_over-end g c = sym (waiting_front
    (waits g (goal.at.slice_bounds-hand_over-end g c).After-refused-end))

pub hand_over-requires : goal.hand_over-requires
hand_over-requires g c = waiting_part (waits g (goal.at.hand_over-requires g c).After-refused-end)

pub returns-clause-done_value : goal.returns-clause-done_value
returns-clause-done_value g c =
    c.hand_over.ensures.done_value
    ∙ waiting_all (waits g (goal.at.returns-clause-done_value g c).After-refused-end) refl

pub returns-clause-written : goal.returns-clause-written
returns-clause-written g c =
    let w = waits g (goal.at.returns-clause-written g c).After-refused-end in
    let text = output_of c.args.input.now in
    let before = g.W.Write.contents c.args.to.now in
    let after = g.W.Write.contents c.hand_over.new.to in
    sent_all text c.hand_over.result before after
    (sent_more text (Ok (tt {0})) c.hand_over.result before before after
    (held_none before text c.requires.done_value)
    (waiting_part w)
    c.hand_over.ensures.done_value
    c.hand_over.ensures.written)
    (c.hand_over.ensures.done_value ∙ waiting_all w refl)
