-- `checks::check_tables` meets its contract: the head first, then the lines where they stand, and what is past the counts decides last.
use mathlib.Core.Path.{◌≡◌, ◌∙◌, sym}
use Rattle.std.specs.Prelude.{Err}
use Rattle.std.proofs.Common.{arith}
use Rattle.scope.specs.Call.Tables.{Lent, request_of}
use Rattle.scope.specs.Limits.{extra_lines}
use Rattle.common.specs.Lines.{few_lines}
use Rattle.checks.specs.Met.{down_of, lent_with}
use Rattle.checks.specs.Whole.{past_met, head_stop, down_stop, after_down}
use Rattle.checks.specs.Near.{near_body}
use Rattle.checks.proofs.check_tables.Goals as goal

pub returns-in_err-check_head : goal.returns-in_err-check_head
returns-in_err-check_head c =
    let a = c.args in
    let lent : Lent = lent_with a.counts a.forms.now a.policy.now a.steps.now in
    let back : c.from_residual.result ≡ Err c.in_err-check_head.field-0.0 = grind arith in
    back ∙ sym c.in_err-check_head.was ∙
    head_stop lent c.check_head.result c.check_head.ensures c.in_err-check_head.field-0.0 c.in_err-check_head.was

pub further_down-requires : goal.further_down-requires
further_down-requires c =
    let a = c.args in
    let lent : Lent = lent_with a.counts a.forms.now a.policy.now a.steps.now in
    (rw c.check_body-body.ensures (near_body (request_of lent)).near, rw c.extra_lines.ensures (few_lines _))

pub returns-in_err-further_down : goal.returns-in_err-further_down
returns-in_err-further_down c =
    let a = c.args in
    let lent : Lent = lent_with a.counts a.forms.now a.policy.now a.steps.now in
    let body = c.check_body-body in
    let down = c.further_down in
    let moved : down.result ≡ down_of (extra_lines a.counts.version) body.result = rw c.extra_lines.ensures at down.ensures in
    let back : c.from_residual-in_err-further_down.result ≡ Err c.in_err-further_down.field-0.0 = grind arith in
    back ∙ sym c.in_err-further_down.was ∙
    down_stop lent c.check_head.result c.check_head.ensures c.in_ok-check_head.was body.result down.result body.ensures moved
    c.in_err-further_down.field-0.0 c.in_err-further_down.was

pub returns : goal.returns
returns c =
    let a = c.args in
    let lent : Lent = lent_with a.counts a.forms.now a.policy.now a.steps.now in
    let body = c.check_body-body in
    let down = c.further_down in
    let moved : down.result ≡ down_of (extra_lines a.counts.version) body.result = rw c.extra_lines.ensures at down.ensures in
    past_met lent c.at_line.result (rw c.check_past.ensures at c.at_line.ensures) ∙
    after_down lent c.check_head.result c.check_head.ensures c.in_ok-check_head.was body.result down.result body.ensures moved c.in_ok-further_down.was
