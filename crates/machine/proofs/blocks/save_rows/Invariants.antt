-- After c turns the first c rows are saved.
use Rattle.facts.specs.Fill.{fill}
use lib.ListN.{get_or}
use mathlib.Core.Path.{◌≡◌}
use Prim.Native.Nat.{ℕ}
use Rattle.machine.proofs.blocks.save_rows.Given as goal

abbrev pub invariant-loop-c : goal.invariant-loop-c
invariant-loop-c l = l.saved ≡ fill (λ (i : ℕ). get_or l.kept i 0) l.at l.c l.initial.saved
