-- The table holds the formulas read so far, and what is left of the text gives the others.
use Rattle.reader.specs.FormTurns.{FormTurns}
use Rattle.reader.proofs.form_lines.read_forms.Given as goal

abbrev pub invariant-loop-i : goal.invariant-loop-i
invariant-loop-i l = FormTurns l.head.principals l.head.atoms l.head.formulas l.text l.forms l.slots l.rest l.i
