use Rattle.std.proofs.Common.{arith, ap, sym, ◌∙◌, ◌≡◌, ◌<◌}
use Rattle.machine.specs.Machine.{lines_noted}
use Rattle.machine.proofs.Turns.{line_noted_lem, none_noted}
use Rattle.machine.proofs.begin.note_lines.Goals as goal

pub loop-i-preserved : goal.loop-i-preserved
loop-i-preserved c =
    let some : 0 < c.loop-i.i = omega arith in
    line_noted_lem _ _ _ _ _ _ some (rw c.from.ensures at c.value_at.ensures) c.note_line.ensures ∙ c.loop-i.invariant

pub returns : goal.returns
returns c =
    let none : c.loop-i.i ≡ 0 = omega arith in
    sym (none_noted _ _ _ _ none) ∙ c.loop-i.invariant ∙
    ap (lines_noted c.args.forms.now c.args.lines.now c.args.count) c.root_rows.ensures
