use Rattle.std.proofs.Common.{length, ◌-◌, take, ◌≤◌}
use Rattle.std.specs.Io.KnownBytes.{Consumes}
use Rattle.gate.proofs.read_input.Given as goal

-- Each turn reads into what is left of the file, and stops or makes that shorter, so the loop ends and the count stays within the file.
abbrev pub invariant-loop-length : goal.invariant-loop-length
invariant-loop-length g l =
    (l.length ≤ length l.file)
    × Consumes (g.R.Read.remaining l.fn.from) (g.R.Read.remaining l.from) (take l.length l.file)

abbrev pub decreases-loop-length : goal.decreases-loop-length
decreases-loop-length g l = length l.file - l.length
