-- `reader::step_lines::step_line` meets its contract: the rest begins behind key, value and LF, for no step has an empty value.
use Rattle.std.proofs.Common.{arith, ap, ◌∙◌}
use Rattle.scope.specs.File.Refusals.{step_refusal}
use Rattle.scope.specs.File.Line.{line_stop}
use Rattle.scope.specs.File.Text.{step_line}
use Rattle.columns.specs.Small.{step_line_small}
use Rattle.reader.specs.Answers.{step_row}
use Rattle.reader.specs.Lines.{no_step, line_read, line_refused, line_behind, told_read}
use Rattle.reader.proofs.step_lines.step_line.Goals as goal

pub slice_bounds-result-count : goal.slice_bounds-result-count
slice_bounds-result-count c = (line_behind step_line step_refusal 0 c.args.text.now c.value_of-value.result.now c.value_of-value.ensures no_step _ c.in-Ok.ensures).inside

pub slice_bounds-result-start : goal.slice_bounds-result-start
slice_bounds-result-start c = (line_behind step_line step_refusal 0 c.args.text.now c.value_of-value.result.now c.value_of-value.ensures no_step _ c.in-Ok.ensures).inside

pub refused-requires-clause-small : goal.refused-requires-clause-small
refused-requires-clause-small c n p = omega (arith, p.1, step_line_small p.0.now)

pub returns-in-Ok : goal.returns-in-Ok
returns-in-Ok c =
    line_read step_line step_refusal c.args.place c.args.text.now c.value_of-value.result.now c.value_of-value.ensures no_step (step_row c.in-Ok.step) _ c.in-Ok.ensures
    (line_behind step_line step_refusal 0 c.args.text.now c.value_of-value.result.now c.value_of-value.ensures no_step _ c.in-Ok.ensures).rest

pub returns-in-Err : goal.returns-in-Err
returns-in-Err c =
    line_refused step_line step_refusal c.args.place c.args.text.now c.value_of-value.result.now c.value_of-value.ensures no_step _ c.in-Err.ensures ∙
    told_read _ _ _ _ (c.refused.ensures _ (λ m p. p.1 ∙ ap (line_stop step_line) p.2))
