-- `checks::rows::refusal_with` meets its contract: where the row has no refusal of its own, that of repeating an earlier one is left.
use mathlib.Core.Path.{◌≡◌, refl}
use Rattle.std.proofs.Common.{arith}
use Rattle.std.specs.Prelude.{Err}
use Rattle.scope.specs.File.Refusals.{first_of}
use Rattle.common.specs.Refused.{refusal_in, number_of}
use Rattle.numbering.specs.Refused.{repeat_refusal, refused_first}
use Rattle.checks.proofs.rows.refusal_with.Goals as goal

pub returns-in_err-row : goal.returns-in_err-row
returns-in_err-row c =
    let e = c.in_err-row.field-0.0 in
    let back : c.from_residual.result ≡ Err e = grind arith in
    rw (back, c.in_err-row.was) (refused_first e (repeat_refusal c.args.earlier))

pub returns-in-Some : goal.returns-in-Some
unfolding refusal_in number_of repeat_refusal first_of
returns-in-Some c = rw (c.in_ok-row.was, c.in-Some.is) refl

pub returns-in-None : goal.returns-in-None
unfolding refusal_in number_of repeat_refusal first_of
returns-in-None c = rw (c.in_ok-row.was, c.in-None.is) refl
