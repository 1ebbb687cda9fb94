-- `checks::check_clauses` meets its contract: in turn i the answers about the first i policy lines are fine, and answer i is that about row i.
use Rattle.scope.specs.Call.Tables.{unpack, policy_entry}
use Rattle.checks.specs.MetLaws.{Passed}
use Rattle.checks.specs.Answers.{policy_answers}
use Rattle.checks.proofs.check_clauses.Given as goal

abbrev pub invariant-loop-i : goal.invariant-loop-i
invariant-loop-i l = Passed l.counts.policy (policy_answers l.classes l.counts.formulas (unpack policy_entry l.counts.policy l.policy)) l.i
