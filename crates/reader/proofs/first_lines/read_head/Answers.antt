-- `reader::first_lines::read_head` meets its contract: each line is read from the rest behind the one before it, and the first refusal is the answer.
use Rattle.std.proofs.lemmas.Result.{err_from_is_err_and}
use Rattle.scope.specs.Limits.{most_formulas}
use Rattle.reader.specs.Lines.{count_most}
use Rattle.reader.specs.Joins.{head_at_principals, head_at_atoms, head_at_formulas, head_whole}
use Rattle.reader.proofs.first_lines.read_head.Goals as goal

pub returns-in_err-principals : goal.returns-in_err-principals
returns-in_err-principals c =
    let out = err_from_is_err_and c.from_residual.result c.from_residual.ensures.1 in
    rw (out.1, out.2) (head_at_principals c.args.text.now _ (rw c.principals_at.ensures at c.in_err-principals.ensures))

pub returns-in_err-atoms : goal.returns-in_err-atoms
returns-in_err-atoms c =
    let out = err_from_is_err_and c.from_residual-in_err-atoms.result c.from_residual-in_err-atoms.ensures.1 in
    let p = rw c.principals_at.ensures at c.in_ok-principals.ensures in
    rw (out.1, out.2) (head_at_atoms c.args.text.now _ _ p _ (rw c.atoms_at.ensures at c.in_err-atoms.ensures))

pub returns-in_err-formulas : goal.returns-in_err-formulas
returns-in_err-formulas c =
    let out = err_from_is_err_and c.from_residual-in_err-formulas.result c.from_residual-in_err-formulas.ensures.1 in
    let p = rw c.principals_at.ensures at c.in_ok-principals.ensures in
    let a = rw c.atoms_at.ensures at c.in_ok-atoms.ensures in
    rw (out.1, out.2) (head_at_formulas c.args.text.now _ _ p _ _ a _ (rw c.formulas_at.ensures at c.in_err-formulas.ensures))

pub returns : goal.returns
returns c =
    let p = rw c.principals_at.ensures at c.in_ok-principals.ensures in
    let a = rw c.atoms_at.ensures at c.in_ok-atoms.ensures in
    head_whole c.args.text.now _ _ p _ _ a _ _ (rw c.formulas_at.ensures at c.in_ok-formulas.ensures)

pub invariant_of-result : goal.invariant_of-result
invariant_of-result c = record { few = count_most 1 most_formulas _ _ _ _ _ c.in_ok-formulas.ensures }
