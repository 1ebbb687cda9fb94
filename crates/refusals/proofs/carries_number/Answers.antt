-- `refusals::carries_number` meets its contract: the kind is looked up in the table of steps, and those of one operand carry a number.
use Rattle.std.proofs.Common.{◌∙◌}
use Rattle.refusals.proofs.Known.{carried_known, carried_past}
use Rattle.refusals.proofs.carries_number.Goals as goal

pub returns-in_err-known : goal.returns-in_err-known
returns-in_err-known c =
    c.from_residual.ensures ∙ carried_past c.step_kinds.result.now c.args.kind c.step_kinds.ensures c.in_err-known.ensures.lookup.3

pub returns : goal.returns
returns c =
    let there = c.in_ok-known.ensures.lookup in
    rw c.is_empty.ensures (carried_known c.step_kinds.result.now c.args.kind c.in_ok-known.known.now c.step_kinds.ensures there.3.0 there.1)
