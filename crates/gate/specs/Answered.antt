-- The text that the gate program prints for the file that it reads. Assumes nothing.
use Rattle.std.specs.Prelude.{ℕ, List}
use Rattle.scope.specs.Call.Judge.{gate}
use Rattle.gatelib.specs.Printing.{printed_of}
use Rattle.gate.specs.Shown.{Shown}

abbrev pub Answered : List ℕ → List ℕ → Type 0
Answered file text =
    let p = printed_of (gate file) in
    Shown p.answer p.place p.steps p.column text
