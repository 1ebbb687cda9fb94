-- `checks::check_formulas` meets its contract: the counts come first, and where they are fine the formulas decide.
use native.Mathlib.Omega.{arith}
use mathlib.Core.Path.{◌≡◌, sym, ◌∙◌}
use Rattle.std.specs.Prelude.{Err}
use Rattle.scope.specs.Call.Tables.{unpack, form_entry}
use Rattle.checks.specs.MetLaws.{met_out, met_go}
use Rattle.checks.specs.Answers.{count_answers, form_answers}
use Rattle.checks.specs.FormTurns.{few_formulas}
use Rattle.checks.proofs.check_formulas.Goals as goal

pub returns-in_err-check_counts : goal.returns-in_err-check_counts
returns-in_err-check_counts c =
    let n = c.args.counts in
    let back : c.from_residual.result ≡ Err c.in_err-check_counts.field-0.0 = grind arith in
    met_out (count_answers n.principals n.atoms n.formulas) (form_answers n.principals n.atoms (unpack form_entry n.formulas c.args.forms.now))
    c.check_counts.ensures c.in_err-check_counts.was back

-- Counts that are fine are few enough for the slots.
pub check_forms-requires : goal.check_forms-requires
check_forms-requires c =
    let n = c.args.counts in
    omega (arith, few_formulas n.principals n.atoms n.formulas (sym c.check_counts.ensures ∙ c.in_ok-check_counts.was))

pub returns : goal.returns
returns c =
    let n = c.args.counts in
    c.check_forms.ensures ∙
    met_go (count_answers n.principals n.atoms n.formulas) (form_answers n.principals n.atoms (unpack form_entry n.formulas c.args.forms.now))
    c.check_counts.result c.check_counts.ensures c.in_ok-check_counts.was
