-- `numbering::enter_row` meets its contract: it is `find_row`, and `keep_row` at the place found.
use mathlib.Core.Path.{ap, ◌∙◌}
use Rattle.numbering.specs.Slots.{earlier_at, kept_at}
use Rattle.numbering.proofs.enter_row.Goals as goal

pub returns : goal.returns
returns c =
    let a = c.args in
    record {
      value = c.number.ensures ∙ ap earlier_at c.find_row-place.ensures;
      slots_after = c.keep_row.ensures ∙ ap (λ p. kept_at p a.i a.slots.now) c.find_row-place.ensures;
    }
