-- `reader::policy_lines::classed_in` meets its contract: the class is asked of a number that is a formula's.
use Rattle.std.proofs.Common.{sym, ap, ◌∙◌}
use Rattle.std.proofs.lemmas.Result.{err_from_is_err_and}
use Rattle.scope.specs.File.Number.{number}
use Rattle.common.specs.Refused.{number_of}
use Rattle.classes.specs.Class.{no_class}
use Rattle.reader.specs.Lines.{class_before, class_met, class_unmet}
use Rattle.reader.proofs.policy_lines.classed_in.Goals as goal

pub returns-in_err-f : goal.returns-in_err-f
returns-in_err-f g c test only =
    let out = err_from_is_err_and c.from_residual.result c.from_residual.ensures.1 in
    rw (out.1, out.2) (class_before test no_class c.args.classes.now c.args.formulas (number c.args.value.now) _ c.in_err-f.ensures)

pub returns-then-allows : goal.returns-then-allows
returns-then-allows g c test only =
    class_met test no_class c.args.classes.now c.args.formulas (number c.args.value.now) c.in_ok-f.f c.in_ok-f.ensures
    (ap test (sym (rw c.from.ensures at c.value_at.ensures)) ∙ sym (only c.value_at.result c.allows.result c.allows.ensures) ∙ c.if-allows.true)

pub returns-else-allows : goal.returns-else-allows
unfolding number_of
returns-else-allows g c test only =
    class_unmet test no_class c.args.classes.now c.args.formulas (number c.args.value.now) c.in_ok-f.f c.in_ok-f.ensures
    (ap test (sym (rw c.from.ensures at c.value_at.ensures)) ∙ sym (only c.value_at.result c.allows.result c.allows.ensures) ∙ c.if-allows.false)
