-- `checks::rows::check_count` meets its contract: below the least or above the most is 3.
use mathlib.Core.Path.{◌≡◌}
use lib.Dec.{leb}
use Rattle.std.proofs.Common.{arith}
use Rattle.std.proofs.lemmas.Grind.{common_steps}
use Rattle.std.proofs.lemmas.Bool.Decides.{nat_tests}
use Rattle.scope.specs.Logic.Form.{both}
use Rattle.scope.specs.File.Refusals.{count_refusal}
use Rattle.common.specs.Refused.{number_of}
use Rattle.checks.proofs.rows.check_count.Goals as goal

pub returns : goal.returns
unfolding number_of count_refusal
returns c =
    let a = c.args in
    let within : c.contains.result ≡ both (leb a.least a.n) (leb a.n a.most) = grind (arith, common_steps, nat_tests) in
    rw within at c.demand.ensures
