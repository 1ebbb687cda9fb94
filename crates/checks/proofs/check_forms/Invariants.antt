-- `checks::check_forms` meets its contract: in turn i the answers about the first i formulas are fine and the slots keep their rows, and
-- answer i is that about row i.
use Rattle.checks.specs.FormTurns.{FormsPassed}
use Rattle.checks.proofs.check_forms.Given as goal

abbrev pub invariant-loop-i : goal.invariant-loop-i
invariant-loop-i l = FormsPassed l.counts.principals l.counts.atoms l.counts.formulas l.forms l.slots l.i
