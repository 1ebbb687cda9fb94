-- What a move makes of the current obligation, as numbers.
use Rattle.std.specs.Prelude.{ℕ, ◌+◌, ◌-◌, leb}
use Rattle.steps.specs.declared.World.{World}
use Rattle.moves.specs.declared.Lab.{Lab}
use Rattle.moves.specs.declared.Phase.{Phase}
use Rattle.moves.specs.declared.Phase.TheVariants as phase
use Rattle.moves.specs.declared.Move.{Move}
use Rattle.moves.specs.declared.Move.TheVariants as move
use Rattle.moves.specs.Steps.{pick}
use Rattle.machine.specs.declared.Obligation.{Obligation}
use Rattle.machine.specs.declared.Change.{Change}

abbrev pub world : ℕ → World
world u = record { 0 = u }

abbrev pub lab_at : ℕ → World → Lab
lab_at f u = record { form = f; at = u }

abbrev pub lab : ℕ → ℕ → Lab
lab f u = lab_at f (world u)

-- The number of chunks, and the goal.
unfoldable pub chunk_count : Phase → ℕ
chunk_count (phase.Goal g) = 0
chunk_count (phase.Chunks g n) = n
chunk_count (phase.Focus part target) = 0

unfoldable pub goal_in : Phase → Lab
goal_in (phase.Goal g) = g
goal_in (phase.Chunks g n) = g
goal_in (phase.Focus part target) = target

-- The goal behind n chunks.
unfoldable pub behind : Lab → ℕ → Phase
unfolding pick
behind g n = pick (leb n 0) (phase.Goal g) (phase.Chunks g n)

-- A formula as the goal, at the goal's world; and the focus on it at a world, aiming at the goal.
unfoldable pub here : Phase → ℕ → Phase
unfolding goal_in
here p f = phase.Goal (lab_at f (goal_in p).at)

unfoldable pub aimed : Phase → ℕ → World → Phase
unfolding goal_in
aimed p f v = phase.Focus (lab_at f v) (goal_in p)

abbrev pub with_phase : Obligation → Phase → Obligation
with_phase o p = record { phase = p; worlds = o.worlds; clauses = o.clauses }

abbrev pub with_clauses : Obligation → ℕ → Obligation
with_clauses o n = record { phase = o.phase; worlds = o.worlds; clauses = n }

-- The topmost chunk is gone.
unfoldable pub popped : Obligation → Obligation
unfolding goal_in behind chunk_count
popped o = with_phase o (behind (goal_in o.phase) (chunk_count o.phase - 1))

-- One chunk more.
unfoldable pub one_more : Obligation → Obligation
unfolding goal_in chunk_count
one_more o = with_phase o (phase.Chunks (goal_in o.phase) (chunk_count o.phase + 1))

unfoldable pub new_world : Obligation → Phase → Obligation
new_world o p = record { phase = p; worlds = o.worlds + 1; clauses = o.clauses }

abbrev pub alone : Obligation → ℕ → Change
alone o opened = record { lower = o; upper = o; opened = opened }

-- One more is open: the upper one is the current one now, and the lower one waits.
abbrev pub fork : Obligation → Obligation → ℕ → Change
fork upper lower opened = record { lower = lower; upper = upper; opened = opened + 1 }

unfoldable pub change_of : Move → Obligation → ℕ → Change
unfolding here aimed popped one_more new_world
change_of move.Close o opened = alone o (opened - 1)
change_of (move.Go f) o opened = alone (with_phase o (here o.phase f)) opened
change_of (move.Aim f v) o opened = alone (with_phase o (aimed o.phase f v)) opened
change_of (move.Both f h) o opened = fork (with_phase o (here o.phase f)) (with_phase o (here o.phase h)) opened
change_of (move.Meet f h v) o opened = fork (with_phase o (aimed o.phase h v)) (with_phase o (phase.Goal (lab_at f v))) opened
change_of (move.Less f h) o opened = alone (new_world o (phase.Chunks (lab h o.worlds) 1)) opened
change_of (move.Speak a f) o opened = alone (new_world o (phase.Goal (lab f o.worlds))) opened
change_of move.Push o opened = alone (with_clauses (popped o) (o.clauses + 1)) opened
change_of move.Drop o opened = alone (popped o) opened
change_of (move.Note a b) o opened = alone (popped o) opened
change_of (move.Split f h) o opened = alone (one_more o) opened
change_of (move.Case f h) o opened = fork o o opened
