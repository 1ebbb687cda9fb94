use Rattle.scope.specs.File.Line.{line_text}
use Rattle.scope.specs.File.Text.{formulas_line, form_line}
use Rattle.scope.specs.Call.Tables.{form_entry}
use Rattle.writer.specs.Sections.{LinesPut}
use Rattle.writer.proofs.output.Output.put_formulas.Given as goal

-- `writer::output::Output::put_formulas` meets its contract: in turn i the lines of the first i are put, and line i stands behind them.
abbrev pub invariant-loop-i : goal.invariant-loop-i
invariant-loop-i l = LinesPut form_line form_entry (line_text formulas_line l.count) 22 45 l.count l.forms l.fn.self l.i l.self
