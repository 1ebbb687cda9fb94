-- `reader::version_lines::read_start` meets its contract: a logic is read in version 2 alone.
use Rattle.std.proofs.Common.{refl, ap}
use Rattle.std.proofs.lemmas.Result.{err_from_is_err_and}
use Rattle.scope.specs.Logic.Facts.{plain}
use Rattle.reader.specs.Starts.{start_at_version, start_alone, start_at_logic, start_whole}
use Rattle.reader.proofs.version_lines.read_start.Goals as goal

pub returns-in_err-version : goal.returns-in_err-version
returns-in_err-version c =
    let out = err_from_is_err_and c.from_residual.result c.from_residual.ensures.1 in
    rw (out.1, out.2) (start_at_version c.args.text.now _ (rw c.version_at.ensures at c.in_err-version.ensures))

pub returns-then-version-ne2 : goal.returns-then-version-ne2
returns-then-version-ne2 c =
    let v = rw c.version_at.ensures at c.in_ok-version.ensures in
    record { thing = record { version = c.in_ok-version.version; logic = plain }; is = start_alone c.args.text.now _ _ v c.if-version-ne2.true; seen = refl }

pub returns-in_err-logic : goal.returns-in_err-logic
returns-in_err-logic c =
    let out = err_from_is_err_and c.from_residual-in_err-logic.result c.from_residual-in_err-logic.ensures.1 in
    let v = rw c.version_at.ensures at c.in_ok-version.ensures in
    rw (out.1, out.2) (start_at_logic c.args.text.now _ _ v c.if-version-ne2.false _ c.in_err-logic.ensures)

pub returns : goal.returns
returns c =
    let v = rw c.version_at.ensures at c.in_ok-version.ensures in
    let l = c.in_ok-logic.ensures in
    record {
      thing = record { version = c.in_ok-version.version; logic = l.thing };
      is = start_whole c.args.text.now _ _ v c.if-version-ne2.false l.thing _ l.is;
      seen = ap (λ n. record { version = c.in_ok-version.version; logic = n }) l.seen;
    }
