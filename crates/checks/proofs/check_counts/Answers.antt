-- `checks::check_counts` meets its contract: the first count out of range is the answer, and the last one decides where the others are fine.
use mathlib.Core.Path.{◌≡◌, ◌∙◌, sym}
use Rattle.std.specs.Prelude.{Err}
use Rattle.std.proofs.Common.{arith}
use Rattle.checks.specs.MetLaws.{met_one, one_out, two_out, two_go}
use Rattle.checks.specs.Answers.{count_answers}
use Rattle.checks.proofs.check_counts.Goals as goal

pub returns-in_err-at_line : goal.returns-in_err-at_line
unfolding count_answers
returns-in_err-at_line c =
    let back : c.from_residual.result ≡ Err c.in_err-at_line.field-0.0 = grind arith in
    one_out _ _ (rw (c.check_count-first.ensures, c.principals_at.ensures) at c.at_line.ensures) c.in_err-at_line.was back

pub returns-in_err-at_line-2 : goal.returns-in_err-at_line-2
unfolding count_answers
returns-in_err-at_line-2 c =
    let back : c.from_residual-in_err-at_line-2.result ≡ Err c.in_err-at_line-2.field-0.0 = grind arith in
    two_out _ _ _
    (rw (c.check_count-first.ensures, c.principals_at.ensures) at c.at_line.ensures) c.in_ok-at_line.was
    (rw (c.check_count-second.ensures, c.atoms_at.ensures) at c.at_line-2.ensures) c.in_err-at_line-2.was back

pub returns : goal.returns
unfolding count_answers
returns c =
    two_go _ _ _
    (rw (c.check_count-first.ensures, c.principals_at.ensures) at c.at_line.ensures) c.in_ok-at_line.was
    (rw (c.check_count-second.ensures, c.atoms_at.ensures) at c.at_line-2.ensures) c.in_ok-at_line-2.was
    (rw (c.check_count-third.ensures, c.formulas_at.ensures) at c.at_line-3.ensures ∙ sym (met_one _))
