-- `checks::check_steps` meets its contract: in turn i the answers about the first i steps are fine, and answer i is that about row i.
use Rattle.scope.specs.Call.Tables.{unpack, step_entry}
use Rattle.checks.specs.MetLaws.{Passed}
use Rattle.checks.specs.Answers.{step_answers}
use Rattle.checks.proofs.check_steps.Given as goal

abbrev pub invariant-loop-i : goal.invariant-loop-i
invariant-loop-i l = Passed l.counts.steps (step_answers l.counts.formulas l.counts.policy (unpack step_entry l.counts.steps l.steps)) l.i
