use Rattle.scope.specs.File.Line.{line_text}
use Rattle.scope.specs.File.Text.{clauses_line, clause_line}
use Rattle.scope.specs.Call.Tables.{policy_entry}
use Rattle.writer.specs.Sections.{LinesPut}
use Rattle.writer.proofs.output.Output.put_policy.Given as goal

-- `writer::output::Output::put_policy` meets its contract: in turn i the lines of the first i are put, and line i stands behind them.
abbrev pub invariant-loop-i : goal.invariant-loop-i
invariant-loop-i l = LinesPut clause_line policy_entry (line_text clauses_line l.count) 22 22 l.count l.policy l.fn.self l.i l.self
