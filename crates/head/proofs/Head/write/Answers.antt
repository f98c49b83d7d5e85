-- `head::Head::write` meets its contract: the seven fields, written one after the other, are the
-- bytes of the head, and no write changes the length. Assumes nothing.
use Rattle.head.proofs.Fields.{head_writes}
use Rattle.head.proofs.Head.write.Goals as goal

pub returns : goal.returns
returns c =
    head_writes _ _
    c.write.ensures
    c.write-2.ensures
    c.write-3.ensures
    c.write-4.ensures
    c.write-5.ensures
    c.write-6.ensures
    c.write-7.ensures
