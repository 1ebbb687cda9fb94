-- `checks::check_proof` meets its contract: the goal comes first, then the count, and where both are fine the steps decide.
use mathlib.Core.Path.{◌≡◌, refl}
use Rattle.std.specs.Prelude.{Err}
use Rattle.std.proofs.Common.{arith}
use Rattle.classes.specs.Class.{no_class, goal_in}
use Rattle.common.specs.Refused.{refusal_in}
use Rattle.refusals.specs.Rows.{class_refusal}
use Rattle.checks.specs.MetLaws.{one_out, two_out, two_go}
use Rattle.checks.specs.Sections.{class_asked}
use Rattle.checks.specs.Answers.{goal_answers}
use Rattle.checks.proofs.check_proof.Goals as goal

pub returns-in_err-at_line : goal.returns-in_err-at_line
unfolding goal_answers
returns-in_err-at_line c =
    let n = c.args.counts in
    let fits : refusal_in c.check_class-goal.result ≡ class_refusal goal_in no_class c.args.classes.now n.formulas n.goal =
    class_asked goal_in no_class c.args.classes.now n.formulas n.goal (rw c.from.ensures at c.value_at-class.ensures) refl refl c.check_class-goal.ensures in
    let back : c.from_residual.result ≡ Err c.in_err-at_line.field-0.0 = grind arith in
    one_out _ _ (rw (fits, c.goal_at.ensures) at c.at_line.ensures) c.in_err-at_line.was back

pub returns-in_err-at_line-2 : goal.returns-in_err-at_line-2
unfolding goal_answers
returns-in_err-at_line-2 c =
    let n = c.args.counts in
    let fits : refusal_in c.check_class-goal.result ≡ class_refusal goal_in no_class c.args.classes.now n.formulas n.goal =
    class_asked goal_in no_class c.args.classes.now n.formulas n.goal (rw c.from.ensures at c.value_at-class.ensures) refl refl c.check_class-goal.ensures in
    let back : c.from_residual-in_err-at_line-2.result ≡ Err c.in_err-at_line-2.field-0.0 = grind arith in
    two_out _ _ _
    (rw (fits, c.goal_at.ensures) at c.at_line.ensures) c.in_ok-at_line.was
    (rw (c.check_count-count.ensures, c.steps_at.ensures) at c.at_line-2.ensures) c.in_err-at_line-2.was back

pub returns : goal.returns
unfolding goal_answers
returns c =
    let n = c.args.counts in
    let fits : refusal_in c.check_class-goal.result ≡ class_refusal goal_in no_class c.args.classes.now n.formulas n.goal =
    class_asked goal_in no_class c.args.classes.now n.formulas n.goal (rw c.from.ensures at c.value_at-class.ensures) refl refl c.check_class-goal.ensures in
    two_go _ _ _
    (rw (fits, c.goal_at.ensures) at c.at_line.ensures) c.in_ok-at_line.was
    (rw (c.check_count-count.ensures, c.steps_at.ensures) at c.at_line-2.ensures) c.in_ok-at_line-2.was
    c.check_steps.ensures
