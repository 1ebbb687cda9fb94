use mathlib.Core.Path.{◌≡◌}
use Rattle.std.specs.Prelude.{Err}
use Rattle.std.proofs.Common.{arith}
use Rattle.scope.specs.Call.Tables.{unpack, step_entry}
use Rattle.steps.specs.Steps.{pair_at}
use Rattle.checks.specs.MetLaws.{passed_none, passed_all, Turn, turn_of, turn_out, turn_go}
use Rattle.checks.specs.Answers.{step_answers}
use Rattle.checks.specs.Sections.{steps_length, step_at_lem}
use Rattle.checks.proofs.check_steps.Goals as goal

pub loop-i-init : goal.loop-i-init
loop-i-init c =
    let a = c.args in
    passed_none (steps_length a.counts.formulas a.counts.policy a.counts.steps a.steps.now)

pub returns-in_err-at_line : goal.returns-in_err-at_line
unfolding pair_at
returns-in_err-at_line c =
    let a = c.args in
    let i = c.loop-i.i in
    let more = c.loop-i-test.true in
    let turn : Turn a.counts.steps (step_answers a.counts.formulas a.counts.policy (unpack step_entry a.counts.steps a.steps.now)) i c.at_line.result =
    turn_of more c.loop-i.invariant (step_at_lem a.counts.formulas a.counts.policy a.counts.steps a.steps.now i more)
    (rw c.pair_at-pair.ensures at
    (rw (c.from-kind.ensures, c.from-carried.ensures) at (rw (c.check_step-step.ensures, c.step_at.ensures) at c.at_line.ensures))) in
    let back : c.from_residual.result ≡ Err c.in_err-at_line.field-0.0 = grind arith in
    turn_out turn c.in_err-at_line.was back

pub loop-i-preserved : goal.loop-i-preserved
unfolding pair_at
loop-i-preserved c =
    let a = c.args in
    let i = c.loop-i.i in
    let more = c.loop-i-test.true in
    let turn : Turn a.counts.steps (step_answers a.counts.formulas a.counts.policy (unpack step_entry a.counts.steps a.steps.now)) i c.at_line.result =
    turn_of more c.loop-i.invariant (step_at_lem a.counts.formulas a.counts.policy a.counts.steps a.steps.now i more)
    (rw c.pair_at-pair.ensures at
    (rw (c.from-kind.ensures, c.from-carried.ensures) at (rw (c.check_step-step.ensures, c.step_at.ensures) at c.at_line.ensures))) in
    turn_go turn c.in_ok-at_line.was

pub returns : goal.returns
returns c = passed_all c.loop-i.invariant c.loop-i-test.false
