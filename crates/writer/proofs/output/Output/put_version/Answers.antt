use Rattle.std.proofs.Common.{arith}
use Rattle.scope.specs.File.Kinds.{logic_of}
use Rattle.writer.specs.Wrote.{wrote_then, wrote_same}
use Rattle.writer.specs.Sections.{with_logic, without_logic}
use Rattle.writer.proofs.output.Output.put_version.Goals as goal

-- `writer::output::Output::put_version` meets its contract: a second line in version 2 alone.
pub returns-then-counts-eq2 : goal.returns-then-counts-eq2
returns-then-counts-eq2 c =
    wrote_same (with_logic c.args.counts.version (logic_of c.args.counts.logic) c.if-counts-eq2.true) (omega arith) (wrote_then c.put_count.ensures c.put_logic.ensures)

pub returns-else-counts-eq2 : goal.returns-else-counts-eq2
returns-else-counts-eq2 c = wrote_same (without_logic c.args.counts.version (logic_of c.args.counts.logic) c.if-counts-eq2.false) (omega arith) c.put_count.ensures
