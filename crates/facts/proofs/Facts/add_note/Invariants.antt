-- After some turns the rows so far have taken in what the note gives them.
use Rattle.facts.specs.Rows.{speaks_in}
use Rattle.facts.specs.Bits.{when}
use Rattle.facts.specs.Fill.{fill}
use Rattle.std.specs.Int.Bits.{bit_or}
use lib.ListN.{get_or}
use mathlib.Core.Path.{◌≡◌}
use Rattle.facts.proofs.Facts.add_note.Given as goal

abbrev pub invariant-loop-row : goal.invariant-loop-row
invariant-loop-row l =
    l.row-items ≡ fill (λ i. bit_or (get_or l.initial.row-items i 0) (when (speaks_in l.initial.row-items i l.a.0) l.more)) 0 l.row-index l.initial.row-items
