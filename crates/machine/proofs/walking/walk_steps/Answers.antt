-- `walk_steps` meets its contract: the calls before the walk make the definition's first state.
use Rattle.machine.proofs.Turns.{ran_is}
use Rattle.machine.proofs.walking.walk_steps.Goals as goal

pub returns : goal.returns
returns c =
    let a = c.args in
    ran_is a.unit a.forms.now a.lines.now a.steps.now a.count a.goal a.total _ _ _ _ _
    c.note_lines.ensures c.first_clauses.ensures.forms c.first_clauses.ensures.ats c.first_one.ensures c.run.ensures
