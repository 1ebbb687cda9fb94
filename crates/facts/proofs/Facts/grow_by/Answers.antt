-- Each turn adds the ways to u to the row of a principal who speaks for a, and leaves every other.
use Rattle.std.proofs.Common.{◌≡◌, refl, sym, ◌∙◌, arith}
use Rattle.std.specs.Int.Bits.{or_zero_r}
use Rattle.facts.specs.Rows.{principals_max}
use Rattle.facts.proofs.Made.{Beside, made_by, beside_unit, beside_plain}
use Rattle.facts.specs.Fill.{fill_front, fill_still}
use Rattle.facts.proofs.Facts.grow_by.Goals as goal
use Rattle.facts.proofs.Facts.grow_by.Goals.{then-bit_of, else-bit_of, then-unit, else-unit}

pub loop-c-preserved : goal.loop-c-preserved
loop-c-preserved c =
    let still = fill_still _ _ _ c.loop-c.invariant in
    elim c.if-bit_of.branch [
      | then-bit_of w ↦ w.row-items-is ∙ fill_front _ _ _ c.loop-c.invariant (rw (← still, ← c.bit_of.ensures, w.if-bit_of.true) refl)
      | else-bit_of w ↦ w.row-items-is ∙ fill_front _ _ _ c.loop-c.invariant (rw (← still, ← c.bit_of.ensures, w.if-bit_of.false) (sym (or_zero_r _)))
    ]

pub returns : goal.returns
returns c =
    let done : c.loop-c.c ≡ principals_max = omega arith in
    let beside : Beside c.args.unit c.args.self.now.rows c.args.u.0 c.if-unit.below.0 c.if-unit.below.1 =
    elim c.if-unit.branch [
      | then-unit w ↦ rw (w.if-unit.true, w.below-is) (beside_unit _ _ w.row.ensures w.block.ensures)
      | else-unit w ↦ rw (w.if-unit.false, w.below-is) (beside_plain _ _)
    ] in
    made_by _ _ _ _ _ c.sf_rows-saved.ensures c.row-ways.ensures beside done c.loop-c.invariant c.new_world.ensures c.put_block.ensures
