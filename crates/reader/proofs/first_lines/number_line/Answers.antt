-- `reader::first_lines::number_line` meets its contract, case by case.
use Rattle.std.proofs.Common.{◌≡◌, sym, ap, rules, arith}
use Rattle.scope.specs.File.Line.{ok, placed, line_stop}
use Rattle.columns.specs.Shapes.{number_with}
use Rattle.columns.specs.Small.{number_line_small}
use Rattle.reader.specs.Lines.{told_read}
use Rattle.reader.proofs.first_lines.number_line.Goals as goal

pub refused-requires-clause-small : goal.refused-requires-clause-small
refused-requires-clause-small c n p =
    let is : n ≡ line_stop (number_with c.args.key.now) p.0.now = search rules in
    omega (arith, is, number_line_small c.args.key.now p.0.now, c.requires)

pub returns-in-Ok : goal.returns-in-Ok
unfolding placed
returns-in-Ok c = rw c.in-Ok.is (ap (ok c.in-Ok.n) (sym c.rest_of.ensures))

pub returns-in-Err : goal.returns-in-Err
unfolding placed
returns-in-Err c =
    rw c.in-Err.is (told_read _ _ _ _ (c.refused.ensures _ (λ m p. search rules)))
