-- `numbering::keep_row` meets its contract: a row that is there is not kept again, and a number that is no formula's is not kept.
use mathlib.Core.Path.{sym, ◌∙◌}
use Rattle.numbering.specs.Slots.{kept_taken, kept_free, kept_past}
use Rattle.numbering.proofs.keep_row.Goals as goal

pub returns-in_default : goal.returns-in_default
returns-in_default c =
    let a = c.args in
    sym (kept_taken a.place c.in_default.field-0 a.i a.slots.now c.in_default.is)

pub returns-then-i-lt-MOST_FORMULAS : goal.returns-then-i-lt-MOST_FORMULAS
returns-then-i-lt-MOST_FORMULAS c =
    let a = c.args in
    c.put_at.ensures ∙
    sym
    (kept_free a.place c.in-Free.slot a.i a.slots.now
    c.in-Free.is c.if-i-lt-MOST_FORMULAS.true)

pub returns-else-i-lt-MOST_FORMULAS : goal.returns-else-i-lt-MOST_FORMULAS
returns-else-i-lt-MOST_FORMULAS c =
    let a = c.args in
    sym (kept_past a.place c.in-Free.slot a.i a.slots.now c.in-Free.is c.if-i-lt-MOST_FORMULAS.false)
