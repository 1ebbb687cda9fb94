-- `reader::read_body` meets its contract: each part is read from where the one before it ends, and the first refusal is the answer.
use Rattle.std.proofs.Common.{◌≡◌, ◌<◌, length, arith}
use Rattle.std.proofs.lemmas.Bool.Decides.{nat_tests}
use Rattle.std.proofs.lemmas.Result.{err_from_is_err_and}
use Rattle.common.specs.Refused.{number_of}
use Rattle.reader.specs.Outcomes.{file_at_formulas, body_at_policy, body_at_steps, body_over, body_kept}
use Rattle.reader.proofs.read_body.Goals as goal

pub returns-in_err-head : goal.returns-in_err-head
returns-in_err-head c =
    let out = err_from_is_err_and c.from_residual.result c.from_residual.ensures.1 in
    rw (out.1, out.2) (file_at_formulas c.args.text.now _ c.in_err-head.ensures)

pub returns-in_err-lines : goal.returns-in_err-lines
returns-in_err-lines c =
    let out = err_from_is_err_and c.from_residual-in_err-lines.result c.from_residual-in_err-lines.ensures.1 in
    rw (out.1, out.2) (body_at_policy c.args.text.now _ _ _ c.in_ok-head.ensures _ c.in_err-lines.ensures)

pub returns-in_err-count : goal.returns-in_err-count
returns-in_err-count c =
    let out = err_from_is_err_and c.from_residual-in_err-count.result c.from_residual-in_err-count.ensures.1 in
    rw (out.1, out.2) (body_at_steps c.args.text.now _ _ _ c.in_ok-head.ensures _ _ _ c.in_ok-lines.ensures _ c.in_err-count.ensures)

pub returns-then-not-is_empty : goal.returns-then-not-is_empty
unfolding number_of
returns-then-not-is_empty c =
    let more : 0 < length c.in_ok-count.rest.now = grind (arith, nat_tests) in
    rw (c.at.ensures, c.end_at-place.ensures)
    (body_over c.args.text.now _ _ _ c.in_ok-head.ensures _ _ _ c.in_ok-lines.ensures _ _ _ c.in_ok-count.ensures more)

pub returns : goal.returns
returns c =
    let end : length c.in_ok-count.rest.now ≡ 0 = grind (arith, nat_tests) in
    rw (c.default.ensures.0, c.default.ensures.1.0)
    (body_kept c.args.text.now _ _ _ c.in_ok-head.ensures _ _ _ c.in_ok-lines.ensures _ _ _ c.in_ok-count.ensures end)
