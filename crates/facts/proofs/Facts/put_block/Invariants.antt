-- After c turns the first c rows are put.
use Rattle.facts.specs.Fill.{fill}
use lib.ListN.{get_or}
use mathlib.Core.Path.{◌≡◌}
use Prim.Native.Nat.{ℕ}
use Rattle.facts.proofs.Facts.put_block.Given as goal

abbrev pub invariant-loop-c : goal.invariant-loop-c
invariant-loop-c l = l.self.rows ≡ fill (λ (i : ℕ). get_or l.block i 0) l.at l.c l.initial.self.rows
