use Rattle.writer.specs.Wrote.{wrote_then}
use Rattle.writer.specs.Lines.{operand_text}
use Rattle.writer.proofs.output.Output.put_operand.Goals as goal

-- `writer::output::Output::put_operand` meets its contract: a space, then the number.
pub returns : goal.returns
unfolding operand_text
returns c = wrote_then c.put_byte.ensures c.put_number.ensures
