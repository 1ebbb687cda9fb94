-- `numbering::number_row` meets its contract: a row that is there keeps its number; another is put and kept as the next one, where there is
-- room.
use mathlib.Core.Path.{sym, ap, ◌∙◌}
use Rattle.common.specs.Rows.{as_row}
use Rattle.numbering.specs.Slots.{place_in, kept_at, kept_taken, kept_past}
use Rattle.numbering.specs.Given.{given_taken, given_free, given_full, put_here}
use Rattle.numbering.proofs.number_row.Goals as goal

pub returns-in-Taken : goal.returns-in-Taken
returns-in-Taken c =
    let a = c.args in
    let r = as_row a.row in
    let at = sym c.find_row-place.ensures ∙ c.in-Taken.is in
    let p = place_in a.forms.now a.slots.now r in
    let g = given_taken p a.count r a.forms.now c.in-Taken.j at in
    record {
      value = sym g.0;
      forms_after = sym g.1;
      slots_after = sym (kept_taken p c.in-Taken.j a.count a.slots.now at);
    }

pub returns-then-count-ge-MOST_FORMULAS : goal.returns-then-count-ge-MOST_FORMULAS
returns-then-count-ge-MOST_FORMULAS c =
    let a = c.args in
    let r = as_row a.row in
    let at = sym c.find_row-place.ensures ∙ c.in_default.is in
    let p = place_in a.forms.now a.slots.now r in
    let g = given_full p a.count r a.forms.now c.in_default.field-0 at c.if-count-ge-MOST_FORMULAS.true in
    record {
      value = sym g.0;
      forms_after = sym g.1;
      slots_after = sym (kept_past p c.in_default.field-0 a.count a.slots.now at c.if-count-ge-MOST_FORMULAS.true);
    }

pub returns : goal.returns
returns c =
    let a = c.args in
    let r = as_row a.row in
    let found = c.find_row-place.ensures in
    let g =
    given_free (place_in a.forms.now a.slots.now r) a.count r a.forms.now c.in_default.field-0 (sym found ∙ c.in_default.is)
    c.if-count-ge-MOST_FORMULAS.false in
    record {
      value = sym g.0;
      forms_after = c.put_row.ensures ∙ put_here a.forms.now a.count a.row ∙ sym g.1;
      slots_after = c.keep_row.ensures ∙ ap (λ p. kept_at p a.count a.slots.now) found;
    }
