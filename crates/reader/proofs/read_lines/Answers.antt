-- `reader::read_lines` meets its contract: the first lines tell version and logic, and what is read behind them is told with both.
use Rattle.std.proofs.Common.{arith}
use Rattle.std.proofs.lemmas.Result.{err_from_is_err_and}
use Rattle.common.specs.Lines.{few_lines}
use Rattle.reader.specs.Whole.{start_refused_lem}
use Rattle.reader.specs.Starts.{rest_place, kept_told, refusal_told, near_body}
use Rattle.reader.proofs.read_lines.Goals as goal

pub returns-in_err-version : goal.returns-in_err-version
returns-in_err-version c =
    let out = err_from_is_err_and c.from_residual.result c.from_residual.ensures.1 in
    rw (out.1, out.2) (start_refused_lem c.args.text.now _ c.in_err-version.ensures)

pub overflow_add-result : goal.overflow_add-result
overflow_add-result c =
    let g = c.in_ok-version.ensures in
    let a = c.in-Err.answer in
    omega (
      arith,
      near_body c.in_ok-version.rest.now (omega (arith, rest_place c.args.text.now g.thing _ g.is, c.requires.short)) a.refusal a.place a.column c.in-Err.ensures,
      c.extra_lines.ensures,
      few_lines c.in_ok-version.field-0-0.version,
    )

pub returns-in-Ok : goal.returns-in-Ok
returns-in-Ok c =
    let g = c.in_ok-version.ensures in
    kept_told c.args.text.now g.thing _ g.is _ g.seen c.in-Ok.counts _ _ _ c.in-Ok.ensures

pub returns-in-Err : goal.returns-in-Err
returns-in-Err c =
    let g = c.in_ok-version.ensures in
    let a = c.in-Err.answer in
    rw c.extra_lines.ensures (refusal_told c.args.text.now g.thing _ g.is _ g.seen a.refusal a.place a.column c.in-Err.ensures)
