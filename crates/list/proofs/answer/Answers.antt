-- `list::answer` meets its contract: what was read decides the output, which `tell` writes.
-- Assumes nothing.
use borrow.Author.Rules.{rules}
use Rattle.list.proofs.Inputs.{output_whole}
use Rattle.list.proofs.answer.Goals as goal

pub returns : goal.returns
returns g c =
    let h = c.in_ok-len.ensures in
    let n = c.in_ok-len.len in
    output_whole c.tell.result (g.R.Read.remaining c.args.from.now)
    (g.R.Read.remaining c.read_full.new.from) (g.W.Write.contents c.args.to.now)
    (g.W.Write.contents c.tell.new.to) c.read_full.new.space n (search rules) h.bound h.bytes
    h.end c.tell.ensures.written
