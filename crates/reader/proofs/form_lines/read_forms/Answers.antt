-- `reader::form_lines::read_forms` meets its contract: each row is stored behind those before it.
use Rattle.std.proofs.Common.{◌*◌, arith}
use Rattle.std.proofs.lemmas.Result.{err_from_is_err_and}
use Rattle.scope.specs.File.Reader.{form_item}
use Rattle.scope.specs.Call.Tables.{form_entry}
use Rattle.scope.specs.Limits.{most_formulas}
use Rattle.reader.specs.Turns.{turns_end}
use Rattle.reader.specs.FormTurns.{forms_begin, form_stops, form_turn}
use Rattle.reader.proofs.form_lines.read_forms.Goals as goal

pub loop-i-init : goal.loop-i-init
loop-i-init c =
    let h = c.args.head in
    forms_begin (3 * most_formulas) h.principals h.atoms h.formulas c.args.text.now c.args.forms.now c.requires

pub returns-in_err-row : goal.returns-in_err-row
returns-in_err-row c =
    let out = err_from_is_err_and c.from_residual.result c.from_residual.ensures.1 in
    rw (out.1, out.2) (form_stops c.loop-i.invariant c.loop-i-test.true _ c.in_err-row.ensures.value)

pub loop-i-preserved : goal.loop-i-preserved
loop-i-preserved c =
    rw c.put_row.ensures
    (form_turn c.loop-i.invariant c.loop-i-test.true c.in_ok-row.row c.in_ok-row.behind.now c.in_ok-row.ensures.value
    (omega (arith, c.args.head.few)) (omega (arith, c.requires.room)) _ c.in_ok-row.ensures.slots_after)

pub returns : goal.returns
returns c =
    let h = c.args.head in
    turns_end form_entry (form_item h.principals h.atoms) h.formulas c.args.text.now c.loop-i.invariant.turns (omega arith)
