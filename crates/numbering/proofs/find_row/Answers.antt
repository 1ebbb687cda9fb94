use Prim.Native.Nat.{◌<◌, ◌+◌, ◌-◌}
use native.Mathlib.Omega.{arith}
use mathlib.Core.Path.{◌≡◌, sym, ◌∙◌}
use mathlib.Core.Bool.{true, false}
use Rattle.scope.specs.File.Refusals.{same_row}
use Rattle.common.specs.Rows.{as_row}
use Rattle.classes.specs.Rows.{form_row}
use Rattle.numbering.specs.Slots.{most_turns, walk_begins, walk_ends, walk_meets, walk_goes, walk_out}
use Rattle.numbering.proofs.find_row.Goals as goal

pub loop-turn-init : goal.loop-turn-init
loop-turn-init c =
    let a = c.args in
    walk_begins a.forms.now a.slots.now (as_row a.row) c.key_of-key.result c.head_of-slot.result
    c.key_of-key.ensures c.head_of-slot.ensures

pub returns-then-entry-eq0 : goal.returns-then-entry-eq0
returns-then-entry-eq0 c =
    let a = c.args in
    let l = c.loop-turn in
    let left : 0 < most_turns - l.turn = omega arith in
    sym
    (walk_ends a.forms.now a.slots.now (as_row a.row) (most_turns - l.turn) l.key l.slot left
    (sym c.value_at-entry.ensures ∙ c.if-entry-eq0.true)) ∙
    l.invariant

pub returns-then-is_row : goal.returns-then-is_row
returns-then-is_row c =
    let a = c.args in
    let l = c.loop-turn in
    let left : 0 < most_turns - l.turn = omega arith in
    let some : 0 < c.value_at-entry.result = omega arith in
    let same : same_row (form_row a.forms.now (c.value_at-entry.result - 1)) (as_row a.row) ≡ true =
    sym c.is_row.ensures ∙ c.if-is_row.true in
    sym
    (walk_meets a.forms.now a.slots.now (as_row a.row) (most_turns - l.turn) l.key l.slot left c.value_at-entry.result
    c.value_at-entry.ensures some same) ∙
    l.invariant

pub loop-turn-preserved : goal.loop-turn-preserved
loop-turn-preserved c =
    let a = c.args in
    let l = c.loop-turn in
    let left : 0 < most_turns - l.turn = omega arith in
    let some : 0 < c.value_at-entry.result = omega arith in
    let other : same_row (form_row a.forms.now (c.value_at-entry.result - 1)) (as_row a.row) ≡ false =
    sym c.is_row.ensures ∙ c.if-is_row.false in
    let fewer : most_turns - (l.turn + 1) ≡ most_turns - l.turn - 1 = omega arith in
    rw (fewer, c.from.ensures)
    (sym
    (walk_goes a.forms.now a.slots.now (as_row a.row) (most_turns - l.turn) l.key l.slot left c.value_at-entry.result
    c.value_at-entry.ensures some other) ∙
    l.invariant)

pub returns : goal.returns
returns c =
    let a = c.args in
    let l = c.loop-turn in
    let out : most_turns - l.turn ≡ 0 = omega arith in
    sym (walk_out a.forms.now a.slots.now (as_row a.row) (most_turns - l.turn) l.key l.slot out) ∙ l.invariant
