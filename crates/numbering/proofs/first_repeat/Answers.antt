use native.Mathlib.Omega.{arith}
use mathlib.Core.Path.{◌≡◌, sym, ap, ◌∙◌}
use Prim.Native.Nat.{◌≤◌}
use Rattle.std.specs.Prelude.{None, is_some, true}
use Rattle.scope.specs.Limits.{most_formulas}
use Rattle.scope.specs.Call.Tables.{unpack, form_entry}
use Rattle.numbering.specs.Slots.{earlier_of, earlier_at, place_in, row_here}
use Rattle.classes.specs.Rows.{form_row}
use Rattle.common.specs.Rows.{as_row}
use Rattle.numbering.specs.Repeats.{first_repeat, passed_none, passed_found, none_is, passed_all}
use Rattle.numbering.proofs.Repeats.{passed_more}
use Rattle.numbering.proofs.first_repeat.Goals as goal

pub loop-i-init : goal.loop-i-init
loop-i-init c = passed_none c.args.forms.now c.min-most.result

pub returns-then-is_some : goal.returns-then-is_some
returns-then-is_some c =
    let t = c.args.forms.now in
    let l = c.loop-i in
    let most = c.min-most in
    let few : most.result ≤ most_formulas = omega arith in
    let read : as_row c.row_at.result ≡ form_row t l.i = ap as_row c.row_at.ensures ∙ row_here t l.i in
    let some : is_some (earlier_at (place_in t l.slots (form_row t l.i))) ≡ true =
    ap is_some (sym (c.enter_row-got.ensures.value ∙ ap (λ r. earlier_at (place_in t l.slots r)) read)) ∙ sym c.is_some.ensures ∙ c.if-is_some.true in
    passed_found t most.result l.i l.slots l.invariant c.loop-i-test.true few some ∙
    ap (λ n. earlier_of (first_repeat (unpack form_entry n t))) most.ensures

pub loop-i-preserved : goal.loop-i-preserved
loop-i-preserved c =
    let t = c.args.forms.now in
    let l = c.loop-i in
    let most = c.min-most in
    let few : most.result ≤ most_formulas = omega arith in
    let read : as_row c.row_at.result ≡ form_row t l.i = ap as_row c.row_at.ensures ∙ row_here t l.i in
    let none : earlier_at (place_in t l.slots (form_row t l.i)) ≡ None =
    none_is _
    (ap is_some (sym (c.enter_row-got.ensures.value ∙ ap (λ r. earlier_at (place_in t l.slots r)) read)) ∙ sym c.is_some.ensures ∙ c.if-is_some.false) in
    rw (c.enter_row-got.ensures.slots_after, read) (passed_more t most.result l.i l.slots l.invariant c.loop-i-test.true few none)

pub returns : goal.returns
returns c =
    let t = c.args.forms.now in
    let l = c.loop-i in
    passed_all t c.min-most.result l.i l.slots l.invariant c.loop-i-test.false ∙
    ap (λ n. earlier_of (first_repeat (unpack form_entry n t))) c.min-most.ensures
