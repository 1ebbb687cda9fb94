-- `gatelib::gate` meets its contract: what the reader refuses is printed with no steps, and else what the judge answers on the tables that
-- reading left, which say the request that was read.
use Rattle.std.proofs.Common.{sym, ◌∙◌}
use Rattle.gatelib.specs.Printing.{unread_of, unread_prints, read_prints}
use Rattle.gatelib.proofs.gate.Goals as goal

pub returns-in-Err : goal.returns-in-Err
returns-in-Err c = c.from.ensures ∙ unread_prints _ _ (sym c.read_request.ensures.value ∙ c.in-Err.is)

pub returns-in-Ok : goal.returns-in-Ok
unfolding unread_of
returns-in-Ok c =
    let read = c.read_request.ensures in
    rw c.from-in-Ok.ensures
    (read_prints _ _ _ _ _ _ (sym read.value ∙ c.in-Ok.is) read.forms_after read.policy_after read.steps_after c.judge-answer.ensures)
