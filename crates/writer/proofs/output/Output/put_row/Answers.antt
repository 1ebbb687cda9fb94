use Rattle.std.proofs.Common.{arith}
use Rattle.common.specs.Kinds.{listed}
use Rattle.common.specs.Rows.{as_row}
use Rattle.writer.specs.Wrote.{wrote_then, wrote_same}
use Rattle.writer.specs.Lines.{row_line}
use Rattle.writer.proofs.output.Output.put_row.Goals as goal

-- `writer::output::Output::put_row` meets its contract: key, value and LF stand one behind the other.
pub returns : goal.returns
returns c =
    wrote_same (row_line c.args.key.now (listed c.args.kinds.now) (as_row c.args.row)) (omega arith)
    (wrote_then (wrote_then c.put_bytes.ensures c.put_items.ensures) c.put_byte.ensures)
