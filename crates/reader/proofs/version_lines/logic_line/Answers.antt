-- `reader::version_lines::logic_line` meets its contract: a value that is no word of a logic is 2.
use Rattle.std.proofs.Common.{arith, ap, ◌∙◌}
use Rattle.scope.specs.File.Line.{line_stop}
use Rattle.scope.specs.File.Text.{logic_line}
use Rattle.common.specs.Refused.{number_of}
use Rattle.columns.specs.Small.{logic_line_small}
use Rattle.reader.specs.Lines.{logic_refused, logic_read, told_read}
use Rattle.reader.proofs.version_lines.logic_line.Goals as goal

pub refused-requires-clause-small : goal.refused-requires-clause-small
refused-requires-clause-small c n p = omega (arith, p.1, logic_line_small p.0.now)

pub returns-in_default : goal.returns-in_default
unfolding number_of
returns-in_default c =
    logic_refused _ c.args.text.now c.value_of.result.now c.value_of.ensures c.in_default.ensures ∙
    told_read _ _ _ _ (rw c.logic_at-place.ensures at (c.refused.ensures _ (λ m p. p.1 ∙ ap (line_stop logic_line) p.2)))

pub returns : goal.returns
returns c = logic_read _ c.args.text.now c.value_of.result.now c.value_of.ensures c.in-Some.number _ c.in-Some.ensures c.rest_of.ensures
