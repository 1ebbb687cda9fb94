-- `classes::classes_of` meets its contract: in turn i the entries below i are the classes of the first i formulas, and row i adds its own.
use Rattle.classes.proofs.Filling.{Filled}
use Rattle.classes.proofs.classes_of.Given as goal

abbrev pub invariant-loop-i : goal.invariant-loop-i
invariant-loop-i l = Filled l.forms l.i-end l.i l.classes
