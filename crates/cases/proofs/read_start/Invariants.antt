use Rattle.std.proofs.Common.{◌-◌, ◌≤◌, length, take}
use Rattle.std.specs.Io.KnownBytes.{Consumes}
use Rattle.cases.proofs.read_start.Given as goal

-- Each turn reads into what is left of the room, and stops or makes that shorter, so the loop ends and the count stays within the room.
-- What stands in front of the count was read.
abbrev pub invariant-loop-length : goal.invariant-loop-length
invariant-loop-length g l =
    (l.length ≤ length l.room)
    × Consumes (g.R.Read.remaining l.fn.from) (g.R.Read.remaining l.from) (take l.length l.room)

abbrev pub decreases-loop-length : goal.decreases-loop-length
decreases-loop-length g l = length l.room - l.length
