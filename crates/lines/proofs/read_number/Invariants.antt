-- `lines::read_number` meets its contract: before each place reached there are only digits and no more than a number has, so the value and
-- the count of digits from there on give those of the whole.
use Rattle.std.proofs.Common.{◌≡◌, ◌+◌, ◌-◌, ◌^◌, ◌≤◌, ◌<◌, drop}
use Rattle.scope.specs.File.Number.{digits}
use Rattle.scope.specs.File.Stops.{digits_up_to}
use Rattle.lines.proofs.read_number.Given as goal

abbrev pub invariant-loop-i : goal.invariant-loop-i
invariant-loop-i l =
    (l.i ≤ l.most) × (l.value < 10 ^ l.i) × (digits l.value (drop l.i l.text) ≡ digits 0 l.text) ×
    (l.i + digits_up_to (l.most - l.i) (drop l.i l.text) ≡ digits_up_to l.most l.text)
