-- `reader::form_lines::new_row` meets its contract: a refusal of the row stands; a row that the slots know is 15; any other is kept.
use Rattle.std.proofs.lemmas.Result.{err_from_is_err_and}
use Rattle.scope.specs.File.Kinds.{form_kinds, row_in}
use Rattle.scope.specs.File.Line.{or_refused}
use Rattle.scope.specs.File.Refusals.{row_refusal}
use Rattle.common.specs.Refused.{number_of}
use Rattle.numbering.specs.Refused.{repeat_refusal}
use Rattle.reader.specs.NewRows.{again, first_out, first_val}
use Rattle.reader.proofs.form_lines.new_row.Goals as goal

pub returns-in_err-row-clause-value : goal.returns-in_err-row-clause-value
returns-in_err-row-clause-value c =
    let out = err_from_is_err_and c.from_residual.result c.from_residual.ensures.1 in
    rw (out.1, out.2)
    (first_out (row_refusal form_kinds c.args.head.principals c.args.head.atoms c.args.formula) _ (row_in form_kinds c.args.value.now) _ c.in_err-row.ensures)

pub returns-in-Some-clause-value : goal.returns-in-Some-clause-value
unfolding or_refused number_of repeat_refusal
returns-in-Some-clause-value c =
    let told = c.in-Some.ensures.value in
    rw (← told) at
    (first_val (row_refusal form_kinds c.args.head.principals c.args.head.atoms c.args.formula) (again c.args.forms.now c.args.slots.now)
    (row_in form_kinds c.args.value.now) _ c.in_ok-row.ensures)

pub returns-in-None-clause-value : goal.returns-in-None-clause-value
unfolding or_refused number_of repeat_refusal
returns-in-None-clause-value c =
    let told = c.in-None.ensures.value in
    rw (← told) at
    (first_val (row_refusal form_kinds c.args.head.principals c.args.head.atoms c.args.formula) (again c.args.forms.now c.args.slots.now)
    (row_in form_kinds c.args.value.now) _ c.in_ok-row.ensures)
