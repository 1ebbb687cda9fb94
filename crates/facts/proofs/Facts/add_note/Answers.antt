-- Each turn adds to a row that has a, and leaves every other.
use Rattle.std.proofs.Common.{◌≡◌, refl, sym, ◌∙◌, arith}
use Rattle.std.specs.Int.Bits.{or_zero_r}
use Rattle.facts.specs.Rows.{principals_max}
use Rattle.facts.proofs.Made.{made_note}
use Rattle.facts.specs.Fill.{fill_front, fill_still}
use Rattle.facts.proofs.Facts.add_note.Goals as goal
use Rattle.facts.proofs.Facts.add_note.Goals.{then-bit_of, else-bit_of}

pub loop-row-preserved : goal.loop-row-preserved
loop-row-preserved c =
    let still = fill_still _ _ _ c.loop-row.invariant in
    elim c.if-bit_of.branch [
      | then-bit_of w ↦ w.row-items-is ∙ fill_front _ _ _ c.loop-row.invariant (rw (← still, ← c.bit_of.ensures, w.if-bit_of.true) refl)
      | else-bit_of w ↦ w.row-items-is ∙ fill_front _ _ _ c.loop-row.invariant (rw (← still, ← c.bit_of.ensures, w.if-bit_of.false) (sym (or_zero_r _)))
    ]

pub returns : goal.returns
returns c =
    let done : c.loop-row.row-index ≡ principals_max = omega arith in
    made_note _ _ _ _ c.sf_rows-rows.ensures (rw c.from.ensures at c.value_at-more.ensures) done c.loop-row.invariant c.put_sf.ensures
