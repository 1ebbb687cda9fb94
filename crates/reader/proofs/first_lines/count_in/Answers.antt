-- `reader::first_lines::count_in` meets its contract: no number is 2, a number outside the bounds 3.
use Rattle.std.proofs.Common.{◌≤◌, sym, arith}
use Rattle.scope.specs.File.Number.{number}
use Rattle.scope.specs.File.Refusals.{count_refusal}
use Rattle.common.specs.Refused.{number_of}
use Rattle.lines.specs.Answers.{number_some, number_none}
use Rattle.reader.specs.Lines.{judged_none, judged_out, judged_val, count_out, count_in}
use Rattle.reader.proofs.first_lines.count_in.Goals as goal
use Rattle.reader.proofs.first_lines.count_in.Goals.{then-n-from-via-then-n-from, then-n-from-via-else-n-from+then-from-n}

pub returns-in_default : goal.returns-in_default
unfolding number_of
returns-in_default c =
    sym (judged_none (count_refusal c.args.least c.args.most) (number c.args.value.now) (number_none _ _ _ (sym c.in_default.ensures)))

pub returns-then-n-from : goal.returns-then-n-from
unfolding number_of
returns-then-n-from c =
    let outside : c.args.least ≤ c.in-Ok.n → c.in-Ok.n ≤ c.args.most → ⊥ = λ a b. elim c.then-n-from.branch [
      | then-n-from-via-then-n-from w ↦ omega (arith, a)
      | then-n-from-via-else-n-from+then-from-n w ↦ omega (arith, b)
    ] in
    sym (judged_out (count_refusal c.args.least c.args.most) (number c.args.value.now) c.in-Ok.n 2 (number_some _ _ _ (sym c.in-Ok.ensures))
    (count_out c.args.least c.args.most c.in-Ok.n outside))

pub returns : goal.returns
returns c =
    sym (judged_val (count_refusal c.args.least c.args.most) (number c.args.value.now) c.in-Ok.n (number_some _ _ _ (sym c.in-Ok.ensures))
    (count_in c.args.least c.args.most c.in-Ok.n (rw c.from.ensures at c.if-n-from.false) (rw c.from-else-n-from.ensures at c.if-from-n.false)))
