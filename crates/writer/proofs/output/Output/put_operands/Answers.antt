use Rattle.std.proofs.Common.{arith, rules, refl}
use Rattle.writer.specs.Wrote.{wrote_then, wrote_same, wrote_none}
use Rattle.writer.specs.Lines.{operands_text, two_operands}
use Rattle.writer.proofs.output.Output.put_operands.Goals as goal

-- `writer::output::Output::put_operands` meets its contract: none, one or two operands, as the count says.
pub returns-in-0 : goal.returns-in-0
unfolding operands_text
returns-in-0 c = rw c.in-0.is (wrote_same refl (omega arith) (wrote_none c.args.self.now))

pub returns-in-1 : goal.returns-in-1
unfolding operands_text
returns-in-1 c = rw c.in-1.is (wrote_same refl (omega arith) c.put_operand.ensures)

pub returns-in_default : goal.returns-in_default
returns-in_default c = wrote_same (two_operands c.args.count c.args.row.left c.args.row.right (search rules) (search rules)) (omega arith)
    (wrote_then c.put_operand-in_default.ensures c.put_operand-in_default-2.ensures)
