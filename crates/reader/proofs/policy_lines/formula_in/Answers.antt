-- `reader::policy_lines::formula_in` meets its contract: no number is 2, a number not below the count of formulas 3.
use Rattle.std.proofs.Common.{sym}
use Rattle.scope.specs.File.Number.{number}
use Rattle.common.specs.Refused.{number_of}
use Rattle.lines.specs.Answers.{number_some, number_none}
use Rattle.reader.specs.Sections.{below_refusal}
use Rattle.reader.specs.Lines.{judged_none, judged_out, judged_val, below_not, below_is}
use Rattle.reader.proofs.policy_lines.formula_in.Goals as goal

pub returns-in_default : goal.returns-in_default
unfolding number_of
returns-in_default c = sym (judged_none (below_refusal c.args.formulas) (number c.args.value.now) (number_none _ _ _ (sym c.in_default.ensures)))

pub returns-then-from-n : goal.returns-then-from-n
unfolding number_of
returns-then-from-n c =
    sym (judged_out (below_refusal c.args.formulas) (number c.args.value.now) c.in-Ok.n 2 (number_some _ _ _ (sym c.in-Ok.ensures))
    (below_not c.args.formulas c.in-Ok.n (rw c.from.ensures at c.if-from-n.true)))

pub returns : goal.returns
returns c =
    sym (judged_val (below_refusal c.args.formulas) (number c.args.value.now) c.in-Ok.n (number_some _ _ _ (sym c.in-Ok.ensures))
    (below_is c.args.formulas c.in-Ok.n (rw c.from.ensures at c.if-from-n.false)))
