-- `columns::items_stop` meets its contract: at each operand reached, the bytes before it and those that stand from there on make up the answer.
use Rattle.std.proofs.Common.{◌≡◌, ◌+◌, ◌-◌, ◌≤◌, length, drop}
use Rattle.scope.specs.File.Stops.{items_stop}
use Rattle.columns.proofs.items_stop.Given as goal

abbrev pub invariant-loop-done : goal.invariant-loop-done
invariant-loop-done l = (l.at ≤ length l.text) × (l.at + items_stop (l.wanted - l._done) (drop l.at l.text) ≡ items_stop l.wanted l.text)
