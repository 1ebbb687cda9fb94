-- The table holds the steps read so far, and what is left of the text gives the others.
use Rattle.scope.specs.File.Reader.{step_item}
use Rattle.scope.specs.Call.Tables.{step_entry}
use Rattle.reader.specs.Turns.{Turns}
use Rattle.reader.proofs.step_lines.read_steps.Given as goal

abbrev pub invariant-loop-i : goal.invariant-loop-i
invariant-loop-i l = Turns step_entry (step_item l.formulas l.clauses) l.count l.text l.steps l.rest l.i
