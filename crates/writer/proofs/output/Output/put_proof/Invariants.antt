use Rattle.std.proofs.Common.{◌++◌}
use Rattle.scope.specs.File.Line.{line_text}
use Rattle.scope.specs.File.Text.{goal_line, steps_line, step_line}
use Rattle.scope.specs.Call.Tables.{step_entry}
use Rattle.writer.specs.Sections.{LinesPut}
use Rattle.writer.proofs.output.Output.put_proof.Given as goal

-- `writer::output::Output::put_proof` meets its contract: in turn i the lines of the first i are put, and line i stands behind them.
abbrev pub invariant-loop-i : goal.invariant-loop-i
invariant-loop-i l = LinesPut step_line step_entry (line_text goal_line l.goal ++ line_text steps_line l.count) 44 45 l.count l.steps l.fn.self l.i l.self
