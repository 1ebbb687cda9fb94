-- After c turns the first c rows are read.
use Rattle.facts.specs.Fill.{fill}
use lib.ListN.{get_or}
use mathlib.Core.Path.{◌≡◌}
use Prim.Native.Nat.{ℕ, ◌+◌}
use Rattle.machine.proofs.blocks.put_back.Given as goal

abbrev pub invariant-loop-c : goal.invariant-loop-c
invariant-loop-c l = l.kept ≡ fill (λ (i : ℕ). get_or l.saved (l.at + i) 0) 0 l.c l.initial.kept
