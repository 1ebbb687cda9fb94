-- `first_clauses` meets its contract: the clauses so far with the lines still left are the clauses with all lines, at world 0.
use Rattle.std.proofs.Common.{◌≡◌, replicate}
use Rattle.moves.specs.Judge.{forms_of, ats_of}
use Rattle.machine.specs.Machine.{lines_put}
use Rattle.machine.specs.Tables.{clause_places}
use Rattle.machine.proofs.begin.first_clauses.Given as goal

abbrev pub invariant-loop-i : goal.invariant-loop-i
invariant-loop-i l =
    (lines_put l.lines l.i (forms_of l.clauses) ≡ lines_put l.lines l.count (replicate clause_places 0)) ×
    (ats_of l.clauses ≡ replicate clause_places 0)
