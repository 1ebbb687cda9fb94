use Rattle.std.proofs.Common.{take}
use Rattle.writer.specs.Wrote.{Wrote}
use Rattle.writer.proofs.output.Output.put_bytes.Given as goal

-- `writer::output::Output::put_bytes` meets its contract: in turn i the first i bytes are put.
abbrev pub invariant-loop-byte : goal.invariant-loop-byte
invariant-loop-byte l = Wrote l.fn.self (take l.byte-index l.text) l.byte-index l.self
