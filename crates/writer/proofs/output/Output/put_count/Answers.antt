use Rattle.std.proofs.Common.{arith}
use Rattle.writer.specs.Wrote.{wrote_then, wrote_same}
use Rattle.writer.specs.Lines.{number_line_lem}
use Rattle.writer.proofs.output.Output.put_count.Goals as goal

-- `writer::output::Output::put_count` meets its contract: key, number and LF stand one behind the other.
pub returns : goal.returns
returns c =
    wrote_same (number_line_lem c.args.key.now c.args.n) (omega arith)
    (wrote_then (wrote_then c.put_bytes.ensures c.put_number.ensures) c.put_byte.ensures)
