use Rattle.std.proofs.Common.{arith, ◌≡◌, get_or, length, ◌<◌, ◌≤◌}
use Rattle.common.specs.Kinds.{listed}
use Rattle.common.specs.Rows.{as_row}
use Rattle.writer.specs.Wrote.{wrote_then, wrote_same, wrote_none}
use Rattle.writer.specs.Lines.{word_short, kind_found, found_text, past_text}
use Rattle.writer.proofs.output.Output.put_items.Goals as goal

-- `writer::output::Output::put_items` meets its contract: the word and the operands of the kind that the look-up finds.
pub returns-in-None : goal.returns-in-None
returns-in-None c =
    let past : length c.args.kinds.now ≤ c.args.row.kind = rw c.from.ensures at c.in-None.ensures.lookup.3 in
    wrote_same (past_text c.args.kinds.now (as_row c.args.row) past) (omega arith) (wrote_none c.args.self.now)

pub returns-in-Some : goal.returns-in-Some
returns-in-Some c =
    let ks = c.args.kinds.now in
    let k = c.in-Some.kind.now in
    let below : c.args.row.kind < length ks = rw c.from.ensures at c.in-Some.ensures.lookup.3.0 in
    let found : k ≡ get_or ks c.args.row.kind k = rw c.from.ensures at (c.in-Some.ensures.lookup.3.1 k) in
    wrote_same (found_text ks (as_row c.args.row) k below found) (omega arith) (wrote_then c.put_bytes.ensures c.put_operands.ensures)

pub put_bytes-requires-clause-short : goal.put_bytes-requires-clause-short
put_bytes-requires-clause-short c =
    let ks = c.args.kinds.now in
    let k = c.in-Some.kind.now in
    rw (kind_found ks c.from.result k c.in-Some.ensures.lookup.3.0 (c.in-Some.ensures.lookup.3.1 k)) at
    (word_short (listed ks) c.from.result c.requires.short)

pub put_operands-requires : goal.put_operands-requires
put_operands-requires c = omega (arith, c.put_bytes.ensures.puts.counted, c.put_bytes.ensures.puts.short, c.requires.at)
