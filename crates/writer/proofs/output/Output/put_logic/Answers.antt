use Rattle.std.proofs.Common.{arith, rules}
use Rattle.writer.specs.Wrote.{wrote_same}
use Rattle.writer.specs.Lines.{plain_line, unit_line}
use Rattle.writer.proofs.output.Output.put_logic.Goals as goal

-- `writer::output::Output::put_logic` meets its contract: each logic has its own bytes.
pub returns-in-0 : goal.returns-in-0
returns-in-0 c = wrote_same (plain_line c.args.logic c.in-0.is) (omega arith) c.put_bytes.ensures

pub returns-in_default : goal.returns-in_default
returns-in_default c = wrote_same (unit_line c.args.logic (search rules)) (omega arith) c.put_bytes-in_default.ensures
