-- After c turns the first c principals have themselves in their rows.
use Rattle.facts.specs.Rows.{one_bit}
use Rattle.facts.specs.Fill.{fill}
use mathlib.Core.Path.{◌≡◌}
use Rattle.facts.proofs.Facts.root_rows.Given as goal

abbrev pub invariant-loop-c : goal.invariant-loop-c
invariant-loop-c l = l.row-items ≡ fill one_bit 0 l.c l.initial.row-items
