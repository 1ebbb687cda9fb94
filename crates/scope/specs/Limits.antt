-- 'What the numbers count': the table of what is allowed; and the lines of the file, counted from 1.
use Rattle.std.specs.Prelude.{ℕ, ◌+◌, Bool, cond, eqb}

abbrev pub most_bytes : ℕ
most_bytes = 65536

abbrev pub most_principals : ℕ
most_principals = 16

abbrev pub most_atoms : ℕ
most_atoms = 256

abbrev pub most_formulas : ℕ
most_formulas = 1024

abbrev pub most_policy_lines : ℕ
most_policy_lines = 128

abbrev pub most_steps : ℕ
most_steps = 2048

-- l) '3 at line 1 for a version above 2 or equal to 0'
abbrev pub most_version : ℕ
most_version = 2

-- worlds of a sequent, root included
abbrev pub most_worlds : ℕ
most_worlds = 64

-- clauses of a sequent, policy lines included
abbrev pub most_clauses : ℕ
most_clauses = 256

-- open obligations: current, waiting, and subgoals met
abbrev pub most_open : ℕ
most_open = 256

-- chunks of an obligation
abbrev pub most_chunks : ℕ
most_chunks = 16

-- '`use` takes a clause number, `to` a world number, each 0 to 65,535.'
abbrev pub most_step_number : ℕ
most_step_number = 65535

-- The file has, in this order: version, principals, atoms, formulas and that many form lines, clauses and that many clause lines,
-- goal, steps and that many step lines. Formulas and policy lines count from 0, steps from 1. All but the first are told from the line
-- of `principals=`, as version 1 counts them.
abbrev pub version_at : ℕ
version_at = 1

-- l) '`version=2` with a second line `logic=plain` or `logic=unit`': 'line numbers in version 2 are one higher', those from `principals=` on.
abbrev pub has_logic : ℕ → Bool
has_logic version = eqb version 2

abbrev pub logic_at : ℕ
logic_at = 2

abbrev pub extra_lines : ℕ → ℕ
extra_lines version = cond (has_logic version) 1 0

abbrev pub principals_at : ℕ
principals_at = 2

abbrev pub atoms_at : ℕ
atoms_at = principals_at + 1

abbrev pub formulas_at : ℕ
formulas_at = principals_at + 2

abbrev pub form_at : ℕ → ℕ
form_at i = principals_at + 3 + i

abbrev pub clauses_at : ℕ → ℕ
clauses_at formulas = principals_at + 3 + formulas

abbrev pub clause_at : ℕ → ℕ → ℕ
clause_at formulas j = principals_at + 4 + formulas + j

abbrev pub goal_at : ℕ → ℕ → ℕ
goal_at formulas clauses = principals_at + 4 + formulas + clauses

abbrev pub steps_at : ℕ → ℕ → ℕ
steps_at formulas clauses = principals_at + 5 + formulas + clauses

abbrev pub step_at : ℕ → ℕ → ℕ → ℕ
step_at formulas clauses s = principals_at + 5 + formulas + clauses + s

abbrev pub end_at : ℕ → ℕ → ℕ → ℕ
end_at formulas clauses steps = principals_at + 6 + formulas + clauses + steps
