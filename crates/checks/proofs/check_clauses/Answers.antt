use mathlib.Core.Path.{◌≡◌, refl}
use Rattle.std.specs.Prelude.{Err}
use Rattle.std.proofs.Common.{arith}
use Rattle.scope.specs.Call.Tables.{unpack, policy_entry}
use Rattle.checks.specs.MetLaws.{passed_none, passed_all, Turn, turn_of, turn_out, turn_go}
use Rattle.checks.specs.Answers.{policy_answers}
use Rattle.checks.specs.Sections.{lines_length, line_at, class_asked}
use Rattle.classes.specs.Class.{no_class, policy_in}
use Rattle.common.specs.Refused.{refusal_in}
use Rattle.refusals.specs.Rows.{class_refusal}
use Rattle.checks.proofs.check_clauses.Goals as goal

pub loop-i-init : goal.loop-i-init
loop-i-init c =
    let a = c.args in
    passed_none (lines_length a.classes.now a.counts.formulas a.counts.policy a.policy.now)

pub returns-in_err-at_line : goal.returns-in_err-at_line
returns-in_err-at_line c =
    let a = c.args in
    let i = c.loop-i.i in
    let more = c.loop-i-test.true in
    let f = c.value_at-f in
    let fits : refusal_in c.check_class-line.result ≡ class_refusal policy_in no_class a.classes.now a.counts.formulas f.result =
    class_asked policy_in no_class a.classes.now a.counts.formulas f.result (rw c.from-in-loop-i.ensures at c.value_at-class.ensures) refl refl
    c.check_class-line.ensures in
    let turn : Turn a.counts.policy (policy_answers a.classes.now a.counts.formulas (unpack policy_entry a.counts.policy a.policy.now)) i c.at_line.result =
    turn_of more c.loop-i.invariant (line_at a.classes.now a.counts.formulas a.counts.policy a.policy.now i more)
    (rw c.from.ensures at (rw f.ensures at (rw (fits, c.clause_at.ensures) at c.at_line.ensures))) in
    let back : c.from_residual.result ≡ Err c.in_err-at_line.field-0.0 = grind arith in
    turn_out turn c.in_err-at_line.was back

pub loop-i-preserved : goal.loop-i-preserved
loop-i-preserved c =
    let a = c.args in
    let i = c.loop-i.i in
    let more = c.loop-i-test.true in
    let f = c.value_at-f in
    let fits : refusal_in c.check_class-line.result ≡ class_refusal policy_in no_class a.classes.now a.counts.formulas f.result =
    class_asked policy_in no_class a.classes.now a.counts.formulas f.result (rw c.from-in-loop-i.ensures at c.value_at-class.ensures) refl refl
    c.check_class-line.ensures in
    let turn : Turn a.counts.policy (policy_answers a.classes.now a.counts.formulas (unpack policy_entry a.counts.policy a.policy.now)) i c.at_line.result =
    turn_of more c.loop-i.invariant (line_at a.classes.now a.counts.formulas a.counts.policy a.policy.now i more)
    (rw c.from.ensures at (rw f.ensures at (rw (fits, c.clause_at.ensures) at c.at_line.ensures))) in
    turn_go turn c.in_ok-at_line.was

pub returns : goal.returns
returns c = passed_all c.loop-i.invariant c.loop-i-test.false
