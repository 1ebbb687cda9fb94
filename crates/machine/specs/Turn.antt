-- What the contracts of a turn cite besides the walk: the state by its parts.
use Rattle.std.specs.Prelude.{ℕ, List}
use Rattle.machine.specs.declared.Obligation.{Obligation}
use Rattle.machine.specs.declared.Walk.{Walk}
use Rattle.moves.specs.Judge.{forms_of, ats_of}
use Rattle.machine.specs.Machine.{Stack, State}

abbrev pub stack_of : List Obligation → List ℕ → List ℕ → Stack
stack_of obligations chunks saved = record { obligations = obligations; chunks = chunks; saved = saved }

abbrev pub state_of : List ℕ → Stack → ℕ → List ℕ → List ℕ → State
state_of rows stack opened clauses ats =
    record { rows = rows; stack = stack; opened = opened; clauses = clauses; ats = ats }

-- What the code writes in place, as the definition has it.
abbrev pub seen : Walk → State
seen w = state_of w.facts.rows (stack_of w.obligations w.chunks w.saved) w.opened (forms_of w.clauses) (ats_of w.clauses)
