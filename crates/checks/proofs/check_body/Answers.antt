-- `checks::check_body` meets its contract: part by part, a refusal is the answer where the parts before it are fine, and the last part decides.
use mathlib.Core.Path.{◌≡◌, ◌∙◌, sym}
use mathlib.Core.List.{List, ◌++◌}
use Rattle.std.specs.Prelude.{Err}
use Rattle.std.proofs.Common.{arith}
use Rattle.scope.specs.Call.Tables.{Lent}
use Rattle.classes.specs.declared.Class.{Class}
use Rattle.classes.specs.Class.{class_table}
use Rattle.checks.specs.Met.{met_in, lent_with}
use Rattle.checks.specs.MetLaws.{met_out, met_go}
use Rattle.checks.specs.Whole.{body_part, line_part, step_part, forms_stop, after_forms}
use Rattle.checks.proofs.check_body.Goals as goal

pub returns-in_err-check_formulas : goal.returns-in_err-check_formulas
returns-in_err-check_formulas c =
    let a = c.args in
    let lent : Lent = lent_with a.counts a.forms.now a.policy.now a.steps.now in
    let back : c.from_residual.result ≡ Err c.in_err-check_formulas.field-0.0 = grind arith in
    back ∙ sym c.in_err-check_formulas.was ∙
    forms_stop lent c.check_formulas.result c.check_formulas.ensures c.in_err-check_formulas.field-0.0 c.in_err-check_formulas.was

-- What is left to decide where the formulas are fine, and what the policy lines gave.
pub returns-in_err-check_policy : goal.returns-in_err-check_policy
returns-in_err-check_policy c =
    let a = c.args in
    let lent : Lent = lent_with a.counts a.forms.now a.policy.now a.steps.now in
    let classes : List Class = class_table a.forms.now a.counts.formulas in
    let fine : met_in (line_part lent classes ++ step_part lent classes) ≡ met_in (body_part lent) =
    after_forms lent c.check_formulas.result c.check_formulas.ensures c.in_ok-check_formulas.was in
    let policy : c.check_policy.result ≡ met_in (line_part lent classes) = rw c.classes_of.ensures at c.check_policy.ensures in
    let back : c.from_residual-in_err-check_policy.result ≡ Err c.in_err-check_policy.field-0.0 = grind arith in
    met_out (line_part lent classes) (step_part lent classes) policy c.in_err-check_policy.was back ∙
    fine

pub returns : goal.returns
returns c =
    let a = c.args in
    let lent : Lent = lent_with a.counts a.forms.now a.policy.now a.steps.now in
    let classes : List Class = class_table a.forms.now a.counts.formulas in
    let fine : met_in (line_part lent classes ++ step_part lent classes) ≡ met_in (body_part lent) =
    after_forms lent c.check_formulas.result c.check_formulas.ensures c.in_ok-check_formulas.was in
    let policy : c.check_policy.result ≡ met_in (line_part lent classes) = rw c.classes_of.ensures at c.check_policy.ensures in
    let proof : c.check_proof.result ≡ met_in (step_part lent classes) = rw c.classes_of.ensures at c.check_proof.ensures in
    proof ∙
    met_go (line_part lent classes) (step_part lent classes) c.check_policy.result policy c.in_ok-check_policy.was ∙
    fine
