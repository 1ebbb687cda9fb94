-- `checks::check_head` meets its contract: the first refusal is the answer, and the version decides where the others are fine.
use mathlib.Core.Path.{◌≡◌, ◌∙◌, sym}
use Rattle.std.specs.Prelude.{Err}
use Rattle.std.proofs.Common.{arith}
use Rattle.common.specs.Refused.{number_of}
use Rattle.checks.specs.MetLaws.{met_one, one_out, two_out, two_go}
use Rattle.checks.specs.Answers.{head_answers}
use Rattle.checks.proofs.check_head.Goals as goal

pub returns-in_err-at_line : goal.returns-in_err-at_line
unfolding head_answers number_of
returns-in_err-at_line c =
    let back : c.from_residual.result ≡ Err c.in_err-at_line.field-0.0 = grind arith in
    one_out _ _ (rw (c.demand-room.ensures, c.has_room.ensures) at c.at_line.ensures) c.in_err-at_line.was back

pub returns-in_err-at_line-2 : goal.returns-in_err-at_line-2
unfolding head_answers number_of
returns-in_err-at_line-2 c =
    let back : c.from_residual-in_err-at_line-2.result ≡ Err c.in_err-at_line-2.field-0.0 = grind arith in
    two_out _ _ _
    (rw (c.demand-room.ensures, c.has_room.ensures) at c.at_line.ensures) c.in_ok-at_line.was
    (rw c.check_unit-unit.ensures at c.at_line-2.ensures) c.in_err-at_line-2.was back

pub returns : goal.returns
unfolding head_answers number_of
returns c =
    two_go _ _ _
    (rw (c.demand-room.ensures, c.has_room.ensures) at c.at_line.ensures) c.in_ok-at_line.was
    (rw c.check_unit-unit.ensures at c.at_line-2.ensures) c.in_ok-at_line-2.was
    (rw (c.check_count-version.ensures, c.version_at.ensures) at c.at_line-3.ensures ∙ sym (met_one _))
