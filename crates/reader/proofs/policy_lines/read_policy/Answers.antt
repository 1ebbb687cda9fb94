-- `reader::policy_lines::read_policy` meets its contract: the classes of the formulas are computed once, and the lines and the goal are asked of them.
use Rattle.std.proofs.Common.{ap, sym}
use Rattle.std.proofs.lemmas.Result.{err_from_is_err_and}
use Rattle.scope.specs.Limits.{most_policy_lines}
use Rattle.reader.specs.Lines.{count_most}
use Rattle.reader.specs.Joins.{policy_at_count, policy_at_clauses, policy_at_goal, policy_whole}
use Rattle.reader.proofs.policy_lines.read_policy.Goals as goal

pub returns-in_err-clauses : goal.returns-in_err-clauses
returns-in_err-clauses c =
    let out = err_from_is_err_and c.from_residual.result c.from_residual.ensures.1 in
    rw (out.1, out.2) (policy_at_count c.args.forms.now c.args.head.formulas c.args.head.few c.args.text.now _ (rw c.clauses_at.ensures at c.in_err-clauses.ensures))

pub read_clauses-requires-clause-few : goal.read_clauses-requires-clause-few
read_clauses-requires-clause-few c = count_most 0 most_policy_lines _ _ _ _ _ c.in_ok-clauses.ensures

pub returns-in_err-rest : goal.returns-in_err-rest
returns-in_err-rest c =
    let out = err_from_is_err_and c.from_residual-in_err-rest.result c.from_residual-in_err-rest.ensures.1 in
    let n = rw c.clauses_at.ensures at c.in_ok-clauses.ensures in
    rw (out.1, out.2)
    (policy_at_clauses c.args.forms.now c.args.head.formulas c.args.head.few c.args.text.now _ _ n _ (rw c.classes_of.ensures at c.in_err-rest.ensures))

pub returns-in_err-goal : goal.returns-in_err-goal
returns-in_err-goal c =
    let out = err_from_is_err_and c.from_residual-in_err-goal.result c.from_residual-in_err-goal.ensures.1 in
    let n = rw c.clauses_at.ensures at c.in_ok-clauses.ensures in
    let lines = rw c.classes_of.ensures at c.in_ok-rest.ensures in
    rw (out.1, out.2)
    (policy_at_goal c.args.forms.now c.args.head.formulas c.args.head.few c.args.text.now _ _ n lines.things _ lines.is lines.count _
    (rw c.classes_of.ensures at c.in_err-goal.ensures))

pub returns : goal.returns
returns c =
    let n = rw c.clauses_at.ensures at c.in_ok-clauses.ensures in
    let lines = rw c.classes_of.ensures at c.in_ok-rest.ensures in
    record {
      thing = record { policy = lines.things; goal = c.in_ok-goal.goal };
      is =
          policy_whole c.args.forms.now c.args.head.formulas c.args.head.few c.args.text.now _ _ n lines.things _ lines.is lines.count _ _
          (rw c.classes_of.ensures at c.in_ok-goal.ensures);
      seen = ap (λ k. record { clauses = k; goal = c.in_ok-goal.goal }) (sym lines.count);
      stored = lines.stored;
    }
