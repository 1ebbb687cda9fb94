-- What is judged are the file's first bytes, which are all of it or more than a file may have (`answered`).
-- Assumes nothing.
use Rattle.std.proofs.Common.{subst, arith}
use Rattle.gatelib.specs.declared.Printed.{Printed}
use Rattle.gate.specs.Shown.{Shown}
use Rattle.gate.proofs.Handed.{answered}
use Rattle.gate.proofs.answer.Goals as goal

pub returns : goal.returns
returns g c =
    let read = c.in_ok-length in
    let text = c.put_printed.result.now in
    let numbers = λ (p : Printed). Shown p.answer p.place p.steps p.column text in
    answered
    (g.R.Read.remaining c.args.from.now)
    (g.R.Read.remaining c.read_input.new.from)
    c.read_input.new.file
    text
    read.length
    (omega arith)
    read.ensures.consumed
    read.ensures.whole
    (subst numbers c.gate-printed.ensures c.put_printed.ensures)
