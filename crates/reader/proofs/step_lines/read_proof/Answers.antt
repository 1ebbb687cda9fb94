-- `reader::step_lines::read_proof` meets its contract: the `step=` lines are read from behind the count of steps.
use Rattle.std.proofs.Common.{sym, ◌∙◌}
use Rattle.std.proofs.lemmas.Result.{err_from_is_err_and}
use Rattle.scope.specs.Limits.{most_steps}
use Rattle.reader.specs.Lines.{count_most}
use Rattle.reader.specs.Joins.{steps_at_count, steps_whole}
use Rattle.reader.proofs.step_lines.read_proof.Goals as goal

pub returns-in_err-count : goal.returns-in_err-count
returns-in_err-count c =
    let out = err_from_is_err_and c.from_residual.result c.from_residual.ensures.1 in
    rw (out.1, out.2) (steps_at_count c.args.formulas c.args.clauses c.args.text.now _ (rw c.steps_at-place.ensures at c.in_err-count.ensures))

pub read_steps-requires-clause-few : goal.read_steps-requires-clause-few
read_steps-requires-clause-few c = count_most 1 most_steps _ _ _ _ _ c.in_ok-count.ensures

pub returns-in_err-rest : goal.returns-in_err-rest
returns-in_err-rest c =
    let out = err_from_is_err_and c.from_residual-in_err-rest.result c.from_residual-in_err-rest.ensures.1 in
    rw (out.1, out.2)
    (steps_whole c.args.formulas c.args.clauses c.args.text.now _ _ (rw c.steps_at-place.ensures at c.in_ok-count.ensures) ∙ c.in_err-rest.ensures)

pub returns : goal.returns
returns c =
    let steps = c.in_ok-rest.ensures in
    record {
      thing = steps.things;
      is = steps_whole c.args.formulas c.args.clauses c.args.text.now _ _ (rw c.steps_at-place.ensures at c.in_ok-count.ensures) ∙ steps.is;
      seen = sym steps.count;
      stored = steps.stored;
    }
