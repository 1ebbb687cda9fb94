-- The table holds the policy lines read so far, and what is left of the text gives the others.
use Rattle.scope.specs.Call.Tables.{policy_entry}
use Rattle.reader.specs.Sections.{classed_item}
use Rattle.reader.specs.Turns.{Turns}
use Rattle.reader.proofs.policy_lines.read_clauses.Given as goal

abbrev pub invariant-loop-i : goal.invariant-loop-i
invariant-loop-i l = Turns policy_entry (classed_item l.classes l.formulas) l.clauses l.text l.policy l.rest l.i
