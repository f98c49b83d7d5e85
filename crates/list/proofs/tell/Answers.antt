-- `list::tell` meets its contract: what the check gives decides the output, and the function that
-- is called hands all of it over. Assumes nothing.
use native.Mathlib.Omega.{arith}
use Rattle.paper.proofs.Hearing.{told_refused, told_passed}
use Rattle.audit.proofs.Verdicts.{checked_accepted, checked_head}
use Rattle.list.proofs.Outputs.{output_longer, output_refused, output_listing}
use Rattle.list.proofs.tell.Goals as goal

pub refuse-requires : goal.refuse-requires
refuse-requires g c =
    record {
      input_value = output_longer c.args.input.now
          (omega (arith, c.if-input-gt-IMAGE.true));
      done_value = c.requires;
    }

pub of-requires : goal.of-requires
of-requires g c =
    let o = c.check.ensures in
    record { accepted = checked_accepted o c.in-Ok.is; own = checked_head o c.in-Ok.is }

pub list-requires-clause-input_value : goal.list-requires-clause-input_value
list-requires-clause-input_value g c =
    rw c.of.ensures.bytes
    (output_listing c.args.input.now (omega (arith, c.if-input-gt-IMAGE.false))
    (told_passed c.check.ensures.verdict c.in-Ok.is))

pub refuse-requires-in-Err-clause-input_value : goal.refuse-requires-in-Err-clause-input_value
refuse-requires-in-Err-clause-input_value g c =
    output_refused c.args.input.now (omega (arith, c.if-input-gt-IMAGE.false))
    (told_refused c.check.ensures.verdict c.in-Err.is)
