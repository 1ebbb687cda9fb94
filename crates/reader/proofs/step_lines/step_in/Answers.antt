-- `reader::step_lines::step_in` meets its contract: out of shape is 2, and a step in shape has its own refusal; one that passes is small.
use Rattle.std.proofs.Common.{sym, ap, ◌∙◌, arith}
use Rattle.std.proofs.lemmas.Result.{err_from_is_err_and}
use Rattle.scope.specs.File.Line.{val}
use Rattle.common.specs.Refused.{number_of, refusal_in}
use Rattle.refusals.specs.Rows.{row, step_small}
use Rattle.steps.specs.Steps.{pair_of, pair_back}
use Rattle.reader.specs.Lines.{judged_none, judged_refused, judged_passed, row_none, row_some}
use Rattle.reader.proofs.step_lines.step_in.Goals as goal

pub returns-in_default : goal.returns-in_default
unfolding number_of
returns-in_default c = sym (judged_none _ _ (row_none _ c.in_default.ensures))

pub returns-in_err-check_step : goal.returns-in_err-check_step
unfolding refusal_in
returns-in_err-check_step c =
    let out = err_from_is_err_and c.from_residual.result c.from_residual.ensures.1 in
    rw (out.1, out.2)
    (judged_refused _ _ (row c.in-Some.items.kind c.in-Some.items.left c.in-Some.items.right) _ (row_some _ c.in-Some.items c.in-Some.ensures)
    (rw c.from.ensures at c.in_err-check_step.ensures))

pub overflow_cast-number : goal.overflow_cast-number
unfolding refusal_in
overflow_cast-number c =
    let x = c.in-Some.items in
    let passed = rw c.from.ensures at c.in_ok-check_step.ensures in
    omega (arith, (step_small x.left x.right x.kind (sym passed)).lefts)

pub returns : goal.returns
unfolding refusal_in
returns c =
    let x = c.in-Some.items in
    let passed = rw c.from.ensures at c.in_ok-check_step.ensures in
    let small = step_small x.left x.right x.kind (sym passed) in
    let kept = ap pair_of c.from-step.ensures ∙ pair_back x.kind x.left small.kinds small.unused in
    (λ i. val (record { kind = (kept i).kind; left = (kept i).number; right = sym small.rights i })) ∙
    judged_passed _ _ _ (row_some _ x c.in-Some.ensures) passed
