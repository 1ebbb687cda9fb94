use mathlib.Core.Path.{◌≡◌, ap, ◌∙◌}
use Rattle.std.specs.Prelude.{Err}
use Rattle.std.proofs.Common.{arith}
use Rattle.scope.specs.Call.Answer.{answer}
use Rattle.scope.specs.Limits.{form_at}
use Rattle.common.specs.Rows.{as_row}
use Rattle.classes.specs.Rows.{form_row}
use Rattle.numbering.specs.Slots.{place_in, kept_at, row_here}
use Rattle.checks.specs.Met.{checked_of}
use Rattle.checks.specs.MetLaws.{passed_all, turn_out}
use Rattle.checks.specs.FormTurns.{forms_none, asked, form_turn, forms_more}
use Rattle.checks.proofs.check_forms.Goals as goal

pub loop-i-init : goal.loop-i-init
loop-i-init c =
    let a = c.args in
    forms_none a.counts.principals a.counts.atoms a.counts.formulas a.forms.now

pub returns-in_err-check_form : goal.returns-in_err-check_form
returns-in_err-check_form c =
    let a = c.args in
    let l = c.loop-i in
    let read : as_row c.row_at-row.result ≡ form_row a.forms.now l.i = ap as_row c.row_at-row.ensures ∙ row_here a.forms.now l.i in
    let gave : c.check_form.result ≡ checked_of (answer (asked a.counts.principals a.counts.atoms a.forms.now l.slots l.i) (form_at l.i)) =
    rw read at (rw c.enter_row-earlier.ensures.value at c.check_form.ensures) in
    let back : c.from_residual.result ≡ Err c.in_err-check_form.field-0.0 = grind arith in
    turn_out (form_turn a.counts.principals a.counts.atoms a.counts.formulas a.forms.now l.slots l.i l.invariant c.loop-i-test.true c.check_form.result gave)
    c.in_err-check_form.was back

pub loop-i-preserved : goal.loop-i-preserved
loop-i-preserved c =
    let a = c.args in
    let l = c.loop-i in
    let read : as_row c.row_at-row.result ≡ form_row a.forms.now l.i = ap as_row c.row_at-row.ensures ∙ row_here a.forms.now l.i in
    let gave : c.check_form.result ≡ checked_of (answer (asked a.counts.principals a.counts.atoms a.forms.now l.slots l.i) (form_at l.i)) =
    rw read at (rw c.enter_row-earlier.ensures.value at c.check_form.ensures) in
    let kept : c.enter_row-earlier.new.slots ≡ kept_at (place_in a.forms.now l.slots (form_row a.forms.now l.i)) l.i l.slots =
    rw read at c.enter_row-earlier.ensures.slots_after in
    rw kept
    (forms_more a.counts.principals a.counts.atoms a.counts.formulas a.forms.now l.slots l.i l.invariant c.loop-i-test.true c.check_form.result gave
    c.requires c.in_ok-check_form.was)

pub returns : goal.returns
returns c = passed_all c.loop-i.invariant.passed c.loop-i-test.false
