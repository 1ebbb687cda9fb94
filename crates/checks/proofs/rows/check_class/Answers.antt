-- `checks::rows::check_class` meets its contract: first that the formula is counted, then that it fits.
use mathlib.Core.Path.{◌≡◌, ◌∙◌}
use lib.Dec.{ltb}
use Rattle.std.specs.Prelude.{Err}
use Rattle.std.proofs.Common.{arith}
use Rattle.scope.specs.File.Refusals.{demand}
use Rattle.common.specs.Refused.{refusal_in, number_of}
use Rattle.checks.proofs.Asked.{demand_out, demand_go}
use Rattle.checks.proofs.rows.check_class.Goals as goal

pub returns-in_err-demand : goal.returns-in_err-demand
unfolding refusal_in number_of
returns-in_err-demand c =
    let a = c.args in
    let e = c.in_err-demand.field-0.0 in
    let back : c.from_residual.result ≡ Err e = grind arith in
    rw back (demand_out (ltb a.f a.formulas) 3 e (demand a.fits 5 0) c.in_err-demand.ensures)

pub returns : goal.returns
unfolding refusal_in number_of
returns c =
    let a = c.args in
    c.demand-2.ensures ∙ demand_go (ltb a.f a.formulas) 2 (demand a.fits 5 0) c.in_ok-demand.ensures
