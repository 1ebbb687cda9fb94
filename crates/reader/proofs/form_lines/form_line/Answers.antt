-- `reader::form_lines::form_line` meets its contract: the rest begins behind key, value and LF, for no row has an empty value.
use Rattle.std.proofs.Common.{arith, ap, ◌∙◌}
use Rattle.scope.specs.File.Line.{line_stop}
use Rattle.scope.specs.File.Text.{form_line}
use Rattle.columns.specs.Small.{form_line_small}
use Rattle.common.specs.Rows.{as_row}
use Rattle.reader.specs.Lines.{no_form, line_read, line_refused, line_behind, told_read}
use Rattle.reader.proofs.form_lines.form_line.Goals as goal

pub slice_bounds-result-count : goal.slice_bounds-result-count
slice_bounds-result-count c = (line_behind form_line _ 0 c.args.text.now c.value_of-value.result.now c.value_of-value.ensures no_form _ c.in-Ok.ensures.value).inside

pub slice_bounds-result-start : goal.slice_bounds-result-start
slice_bounds-result-start c = (line_behind form_line _ 0 c.args.text.now c.value_of-value.result.now c.value_of-value.ensures no_form _ c.in-Ok.ensures.value).inside

pub refused-requires-clause-small : goal.refused-requires-clause-small
refused-requires-clause-small c n p = omega (arith, p.1, form_line_small p.0.now)

pub returns-in-Ok-clause-value : goal.returns-in-Ok-clause-value
returns-in-Ok-clause-value c =
    line_read form_line _ _ c.args.text.now c.value_of-value.result.now c.value_of-value.ensures no_form (as_row c.in-Ok.row) _ c.in-Ok.ensures.value
    (line_behind form_line _ 0 c.args.text.now c.value_of-value.result.now c.value_of-value.ensures no_form _ c.in-Ok.ensures.value).rest

pub returns-in-Err-clause-value : goal.returns-in-Err-clause-value
returns-in-Err-clause-value c =
    line_refused form_line _ _ c.args.text.now c.value_of-value.result.now c.value_of-value.ensures no_form _ c.in-Err.ensures.value ∙
    told_read _ _ _ _ (rw c.form_at-place.ensures at (c.refused.ensures _ (λ m p. p.1 ∙ ap (line_stop form_line) p.2)))
