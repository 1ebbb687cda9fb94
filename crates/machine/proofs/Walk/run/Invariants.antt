-- `run` meets its contract: what is left of the walk from the state so far is the whole walk from the first state.
use Rattle.std.proofs.Common.{◌≡◌, ◌-◌, ◌≤◌}
use Rattle.scope.specs.Limits.{most_open}
use Rattle.machine.specs.Machine.{ran_from}
use Rattle.machine.specs.Turn.{seen}
use Rattle.machine.proofs.Walk.run.Given as goal

abbrev pub invariant-loop-i : goal.invariant-loop-i
invariant-loop-i l =
    (l.self.opened ≤ most_open) ×
    (ran_from l.unit l.forms l.steps l.total 0 (seen l.initial.self) ≡ ran_from l.unit l.forms l.steps (l.total - l.i) l.i (seen l.self))
