-- `reader::step_lines::read_steps` meets its contract: each step is stored behind those before it.
use Rattle.std.proofs.Common.{◌*◌, arith}
use Rattle.std.proofs.lemmas.Result.{err_from_is_err_and}
use Rattle.scope.specs.File.Reader.{step_item}
use Rattle.scope.specs.Call.Tables.{step_entry}
use Rattle.scope.specs.Limits.{most_steps}
use Rattle.steps.specs.Steps.{pair_of}
use Rattle.reader.specs.Turns.{turns_begin, turns_end}
use Rattle.reader.specs.LineTurns.{step_stops, step_turn}
use Rattle.reader.proofs.step_lines.read_steps.Goals as goal

pub loop-i-init : goal.loop-i-init
loop-i-init c = turns_begin step_entry (step_item c.args.formulas c.args.clauses) c.args.count c.args.text.now (2 * most_steps) c.args.steps.now c.requires.zero

pub returns-in_err-step : goal.returns-in_err-step
returns-in_err-step c =
    let out = err_from_is_err_and c.from_residual.result c.from_residual.ensures.1 in
    rw (out.1, out.2) (step_stops c.args.formulas c.args.clauses c.loop-i.invariant c.loop-i-test.true _ (rw c.step_at.ensures at c.in_err-step.ensures))

pub loop-i-preserved : goal.loop-i-preserved
loop-i-preserved c =
    rw (c.from-at.ensures, c.from-pair.ensures)
    (step_turn c.args.formulas c.args.clauses c.loop-i.invariant c.loop-i-test.true (pair_of c.in_ok-step.step) c.in_ok-step.behind.now (rw c.step_at.ensures at c.in_ok-step.ensures)
    c.requires.few (omega (arith, c.requires.zero.room)))

pub returns : goal.returns
returns c = turns_end step_entry (step_item c.args.formulas c.args.clauses) c.args.count c.args.text.now c.loop-i.invariant (omega arith)
