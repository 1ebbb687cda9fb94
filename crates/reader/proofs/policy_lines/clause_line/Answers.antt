-- `reader::policy_lines::clause_line` meets its contract: the class asked of is that of policy lines.
use Rattle.std.proofs.Common.{sym, subst, rules}
use Rattle.scope.specs.File.Text.{clause_line}
use Rattle.classes.specs.Class.{policy_in, no_class}
use Rattle.refusals.specs.Rows.{class_refusal}
use Rattle.reader.specs.Answers.{same, Reads}
use Rattle.reader.specs.Lines.{no_number, line_said}
use Rattle.reader.proofs.policy_lines.clause_line.Goals as goal

pub returns : goal.returns
returns c =
    subst (λ r. Reads same r c.number_line.result)
    (sym (line_said clause_line (class_refusal policy_in no_class c.args.classes.now c.args.formulas) _ c.args.text.now c.value_of-value.result.now
    c.value_of-value.ensures no_number _ (c.classed_in-got.ensures policy_in (λ x b p. search rules))))
    (rw c.clause_at.ensures at c.number_line.ensures)
