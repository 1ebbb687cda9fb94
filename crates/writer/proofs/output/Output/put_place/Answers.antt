use Rattle.std.proofs.Common.{arith, refl}
use Rattle.std.proofs.lemmas.Bool.{lt-leb, le-leb}
use Rattle.scope.specs.File.Number.{digit}
use Rattle.writer.specs.Wrote.{wrote_same, wrote_none}
use Rattle.writer.specs.Lines.{digits1, digit_at}
use Rattle.writer.proofs.output.Output.put_place.Goals as goal

-- `writer::output::Output::put_place` meets its contract: the test is the definition's.
pub returns-then-place-n : goal.returns-then-place-n
unfolding digit_at digits1 digit
returns-then-place-n c = rw (le-leb c.args.place c.args.n c.if-place-n.true) c.put_byte.ensures

pub returns-else-place-n : goal.returns-else-place-n
unfolding digit_at
returns-else-place-n c = rw (lt-leb c.args.place c.args.n c.if-place-n.false) (wrote_same refl (omega arith) (wrote_none c.args.self.now))
