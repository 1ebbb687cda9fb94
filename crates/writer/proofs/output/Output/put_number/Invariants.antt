use Rattle.std.proofs.Common.{take}
use Rattle.writer.specs.Wrote.{Wrote}
use Rattle.writer.specs.Lines.{digits_at, places}
use Rattle.writer.proofs.output.Output.put_number.Given as goal

-- `writer::output::Output::put_number` meets its contract: in turn i the digits at the first i places are put.
abbrev pub invariant-loop-place : goal.invariant-loop-place
invariant-loop-place l = Wrote l.fn.self (digits_at (take l.place-index places) l.n) l.place-index l.self
