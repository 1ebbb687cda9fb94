-- `checks::check_past` meets its contract: table by table, what is past its count is asked.
use mathlib.Core.Path.{◌≡◌, ◌∙◌, sym}
use Rattle.std.specs.Prelude.{Err}
use Rattle.std.proofs.Common.{arith}
use Rattle.common.specs.Refused.{refusal_in, number_of}
use Rattle.checks.specs.Met.{lent_with}
use Rattle.checks.specs.Sections.{past_three}
use Rattle.checks.proofs.Asked.{demand_out, demand_go}
use Rattle.checks.proofs.check_past.Goals as goal

pub returns-in_err-demand : goal.returns-in_err-demand
unfolding refusal_in number_of
returns-in_err-demand c =
    let a = c.args in
    let e = c.in_err-demand.field-0.0 in
    let back : c.from_residual.result ≡ Err e = grind arith in
    let forms = rw c.from.ensures at c.zero_from-forms_rest.ensures in
    rw back (demand_out _ 3 e _ (rw forms at c.in_err-demand.ensures)) ∙
    sym (past_three (lent_with a.counts a.forms.now a.policy.now a.steps.now))

pub returns-in_err-demand-2 : goal.returns-in_err-demand-2
unfolding refusal_in number_of
returns-in_err-demand-2 c =
    let a = c.args in
    let e = c.in_err-demand-2.field-0.0 in
    let back : c.from_residual-in_err-demand-2.result ≡ Err e = grind arith in
    let forms = rw c.from.ensures at c.zero_from-forms_rest.ensures in
    let policy = rw c.from-2.ensures at c.zero_from-policy_rest.ensures in
    rw back (demand_out _ 3 e _ (rw policy at c.in_err-demand-2.ensures)) ∙
    demand_go _ 2 _ (rw forms at c.in_ok-demand.ensures) ∙
    sym (past_three (lent_with a.counts a.forms.now a.policy.now a.steps.now))

pub returns : goal.returns
unfolding refusal_in number_of
returns c =
    let a = c.args in
    let forms = rw c.from.ensures at c.zero_from-forms_rest.ensures in
    let policy = rw c.from-2.ensures at c.zero_from-policy_rest.ensures in
    let steps = rw c.from-3.ensures at c.zero_from-steps_rest.ensures in
    rw steps at c.demand-3.ensures ∙
    demand_go _ 2 _ (rw policy at c.in_ok-demand-2.ensures) ∙
    demand_go _ 2 _ (rw forms at c.in_ok-demand.ensures) ∙
    sym (past_three (lent_with a.counts a.forms.now a.policy.now a.steps.now))
