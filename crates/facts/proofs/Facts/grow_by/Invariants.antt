-- After c turns the first c principals have their row of S to the new world.
use Rattle.facts.specs.Rows.{seen_row}
use Rattle.facts.specs.Fill.{fill}
use Rattle.std.specs.Int.Bits.{bit_or}
use lib.ListN.{get_or}
use mathlib.Core.Path.{◌≡◌}
use Rattle.facts.proofs.Facts.grow_by.Given as goal

abbrev pub invariant-loop-c : goal.invariant-loop-c
invariant-loop-c l = l.row-items ≡ fill (λ i. bit_or (get_or l.initial.row-items i 0) (seen_row l.saved l.ways l.a.0 i)) 0 l.c l.initial.row-items
