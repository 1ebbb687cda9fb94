-- `reader::first_lines::count_line` meets its contract: the count is asked of the value of the line.
use Rattle.std.proofs.Common.{sym, subst}
use Rattle.scope.specs.File.Refusals.{count_refusal}
use Rattle.columns.specs.Shapes.{number_with}
use Rattle.reader.specs.Answers.{same, Reads}
use Rattle.reader.specs.Lines.{no_number, line_said}
use Rattle.reader.proofs.first_lines.count_line.Goals as goal

pub returns : goal.returns
returns c =
    subst (λ r. Reads same r c.number_line.result)
    (sym (line_said (number_with c.args.key.now) (count_refusal c.args.least c.args.most) c.args.place c.args.text.now c.value_of.result.now
    c.value_of.ensures no_number _ c.count_in-count.ensures))
    c.number_line.ensures
