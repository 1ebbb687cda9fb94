-- `judge::judged` meets its contract: a refusal of the checks is the answer, and else the walk over numbers answers as document 01's does.
use Rattle.std.proofs.Common.{sym, ap, ◌∙◌}
use Rattle.std.proofs.lemmas.Result.{err_from_is_err_and}
use Rattle.judge.specs.Answers.{walked_to}
use Rattle.judge.specs.Judged.{checks_refuse, walk_answers, walked_said, told_at, unit_is}
use Rattle.judge.proofs.judged.Goals as goal

pub returns-in_err-check_tables : goal.returns-in_err-check_tables
returns-in_err-check_tables c =
    let back = err_from_is_err_and c.from_residual.result c.from_residual.ensures.1 in
    rw (back.1, back.2) (checks_refuse _ _ (sym c.check_tables.ensures ∙ c.in_err-check_tables.was))

pub returns : goal.returns
returns c =
    walked_said _ _ _ (λ r a h. told_at r a h) c.map_err.ensures.cases ∙ ap walked_to c.walk_steps-walked.ensures ∙
    walk_answers _ _ (unit_is c.args.counts.logic) (sym c.check_tables.ensures ∙ c.in_ok-check_tables.was)
