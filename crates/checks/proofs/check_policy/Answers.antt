-- `checks::check_policy` meets its contract: the count comes first, and where it is fine the lines decide.
use mathlib.Core.Path.{◌≡◌, ◌∙◌}
use Rattle.std.specs.Prelude.{Err}
use Rattle.std.proofs.Common.{arith}
use Rattle.scope.specs.Call.Answer.{answer}
use Rattle.scope.specs.Limits.{clauses_at}
use Rattle.scope.specs.File.Refusals.{clauses_refusal}
use Rattle.scope.specs.Call.Tables.{unpack, policy_entry}
use Rattle.checks.specs.Met.{checked_of}
use Rattle.checks.specs.MetLaws.{one_out, one_go}
use Rattle.checks.specs.Answers.{policy_answers}
use Rattle.checks.proofs.check_policy.Goals as goal

pub returns-in_err-at_line : goal.returns-in_err-at_line
returns-in_err-at_line c =
    let a = c.args in
    let n = a.counts in
    let count = answer (clauses_refusal n.policy) (clauses_at n.formulas) in
    let first : c.at_line.result ≡ checked_of count = rw (c.check_count-count.ensures, c.clauses_at.ensures) at c.at_line.ensures in
    let back : c.from_residual.result ≡ Err c.in_err-at_line.field-0.0 = grind arith in
    one_out count (policy_answers a.classes.now n.formulas (unpack policy_entry n.policy a.policy.now)) first c.in_err-at_line.was back

pub returns : goal.returns
returns c =
    let a = c.args in
    let n = a.counts in
    let count = answer (clauses_refusal n.policy) (clauses_at n.formulas) in
    let first : c.at_line.result ≡ checked_of count = rw (c.check_count-count.ensures, c.clauses_at.ensures) at c.at_line.ensures in
    c.check_clauses.ensures ∙
    one_go count (policy_answers a.classes.now n.formulas (unpack policy_entry n.policy a.policy.now)) c.at_line.result first c.in_ok-at_line.was
