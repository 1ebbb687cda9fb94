-- `note_lines` meets its contract: the rows so far with the lines still left are the rows with all lines.
use Rattle.std.proofs.Common.{◌≡◌}
use Rattle.machine.specs.Machine.{lines_noted}
use Rattle.machine.proofs.begin.note_lines.Given as goal

abbrev pub invariant-loop-i : goal.invariant-loop-i
invariant-loop-i l = lines_noted l.forms l.lines l.i l.facts.rows ≡ lines_noted l.forms l.lines l.count l.initial.facts.rows
