-- `numbering::first_repeat` meets its contract: in turn i the slots keep the rows below i, none of which repeats an earlier one.
use Rattle.numbering.specs.Repeats.{Passed}
use Rattle.numbering.proofs.first_repeat.Given as goal

abbrev pub invariant-loop-i : goal.invariant-loop-i
invariant-loop-i l = Passed l.forms l.most l.i l.slots
