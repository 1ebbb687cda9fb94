-- `checks::check_lines` meets its contract: the one step is `top`, in a table of just the room.
use Rattle.std.proofs.Common.{ap}
use Rattle.steps.specs.declared.Pair.{Pair}
use Rattle.steps.specs.Steps.{pair_of}
use Rattle.scope.specs.File.Bytes.{joined}
use Rattle.scope.specs.Call.Tables.{table, pack, padded}
use Rattle.scope.specs.Call.Checked.{line_answer, without_steps}
use Rattle.checks.proofs.check_lines.Goals as goal

pub returns : goal.returns
unfolding pair_of line_answer without_steps table pack padded joined
returns c = rw (ap (λ (p : Pair). p.kind) c.from-top.ensures) at c.check_tables.ensures
