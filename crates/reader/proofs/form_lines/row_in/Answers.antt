-- `reader::form_lines::row_in` meets its contract: out of shape is 2, and a row in shape has its own refusal; one that passes is small.
use Rattle.std.proofs.Common.{sym, arith}
use Rattle.std.proofs.lemmas.Result.{err_from_is_err_and}
use Rattle.common.specs.Refused.{number_of, refusal_in}
use Rattle.refusals.specs.Rows.{row, form_small}
use Rattle.reader.specs.Lines.{judged_none, judged_refused, judged_passed, row_none, row_some}
use Rattle.reader.proofs.form_lines.row_in.Goals as goal

pub returns-in_default : goal.returns-in_default
unfolding number_of
returns-in_default c = sym (judged_none _ _ (row_none _ c.in_default.ensures))

pub returns-in_err-check_form : goal.returns-in_err-check_form
unfolding refusal_in
returns-in_err-check_form c =
    let out = err_from_is_err_and c.from_residual.result c.from_residual.ensures.1 in
    rw (out.1, out.2)
    (judged_refused _ _ (row c.in-Some.items.kind c.in-Some.items.left c.in-Some.items.right) _ (row_some _ c.in-Some.items c.in-Some.ensures)
    (rw c.from.ensures at c.in_err-check_form.ensures))

pub overflow_cast-result : goal.overflow_cast-result
unfolding refusal_in
overflow_cast-result c =
    let x = c.in-Some.items in
    let passed = rw c.from.ensures at c.in_ok-check_form.ensures in
    omega (arith, (form_small c.args.principals c.args.atoms c.args.formula x.left x.right c.ranges.principals.fits c.ranges.atoms.fits c.ranges.formula.fits x.kind (sym passed)).lefts)

pub overflow_cast-result-2 : goal.overflow_cast-result-2
unfolding refusal_in
overflow_cast-result-2 c =
    let x = c.in-Some.items in
    let passed = rw c.from.ensures at c.in_ok-check_form.ensures in
    omega (arith, (form_small c.args.principals c.args.atoms c.args.formula x.left x.right c.ranges.principals.fits c.ranges.atoms.fits c.ranges.formula.fits x.kind (sym passed)).rights)

pub returns : goal.returns
unfolding refusal_in
returns c = judged_passed _ _ _ (row_some _ c.in-Some.items c.in-Some.ensures) (rw c.from.ensures at c.in_ok-check_form.ensures)
