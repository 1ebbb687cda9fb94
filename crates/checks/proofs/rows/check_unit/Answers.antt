-- `checks::rows::check_unit` meets its contract: 16 for version 1 with unit, and for nothing else.
use mathlib.Core.Path.{◌≡◌, refl, ◌∙◌}
use borrow.Author.Tests.{ne_eqb}
use Rattle.scope.specs.File.Kinds.{logic_of}
use Rattle.scope.specs.File.Refusals.{demand, unit_refusal}
use Rattle.common.specs.Refused.{number_of}
use Rattle.checks.specs.MetLaws.{unit_asked}
use Rattle.checks.proofs.rows.check_unit.Goals as goal
use Rattle.checks.proofs.rows.check_unit.Goals.{then-version-ne-PLAIN_ONLY, else-version-ne-PLAIN_ONLY}

pub returns : goal.returns
unfolding number_of unit_refusal
returns c =
    let a = c.args in
    let told : demand c.if-version-ne-PLAIN_ONLY.demand 16 0 ≡ unit_refusal a.version (logic_of a.logic) =
    elim c.if-version-ne-PLAIN_ONLY.branch [
      | then-version-ne-PLAIN_ONLY w ↦ rw (w.demand-is, ne_eqb a.version 1 w.if-version-ne-PLAIN_ONLY.true) refl
      | else-version-ne-PLAIN_ONLY w ↦ rw w.demand-is (unit_asked a.version a.logic w.if-version-ne-PLAIN_ONLY.false)
    ] in
    c.demand.ensures ∙ told
