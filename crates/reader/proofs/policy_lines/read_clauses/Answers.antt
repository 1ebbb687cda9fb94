-- `reader::policy_lines::read_clauses` meets its contract: each line is stored behind those before it.
use Rattle.std.proofs.Common.{arith}
use Rattle.std.proofs.lemmas.Result.{err_from_is_err_and}
use Rattle.scope.specs.Call.Tables.{policy_entry}
use Rattle.scope.specs.Limits.{most_policy_lines}
use Rattle.reader.specs.Sections.{classed_item}
use Rattle.reader.specs.Turns.{turns_begin, turns_end}
use Rattle.reader.specs.LineTurns.{clause_stops, clause_turn}
use Rattle.reader.proofs.policy_lines.read_clauses.Goals as goal

pub loop-i-init : goal.loop-i-init
loop-i-init c = turns_begin policy_entry (classed_item c.args.classes.now c.args.formulas) c.args.clauses c.args.text.now most_policy_lines c.args.policy.now c.requires.zero

pub returns-in_err-formula : goal.returns-in_err-formula
returns-in_err-formula c =
    let out = err_from_is_err_and c.from_residual.result c.from_residual.ensures.1 in
    rw (out.1, out.2) (clause_stops c.args.classes.now c.args.formulas c.loop-i.invariant c.loop-i-test.true _ c.in_err-formula.ensures)

pub loop-i-preserved : goal.loop-i-preserved
loop-i-preserved c =
    rw c.from.ensures
    (clause_turn c.args.classes.now c.args.formulas c.loop-i.invariant c.loop-i-test.true c.in_ok-formula.formula c.in_ok-formula.behind.now c.in_ok-formula.ensures
    c.requires.few (omega (arith, c.requires.zero.room)))

pub returns : goal.returns
returns c = turns_end policy_entry (classed_item c.args.classes.now c.args.formulas) c.args.clauses c.args.text.now c.loop-i.invariant (omega arith)
