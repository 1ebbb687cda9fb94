-- 'The request file': its lines, and the text of a request.
use Rattle.std.specs.Prelude.{ℕ, List, [], ◌∷◌, ◌++◌, cond}
use Prim.Native.String.{String}
use Rattle.scope.specs.Logic.Facts.{Logic}
use Rattle.scope.specs.Limits.{has_logic}
use Rattle.scope.specs.File.Request.{Row, Request}
use Rattle.scope.specs.File.Bytes.{bytes, joined}
use Rattle.scope.specs.File.Number.{number, numeral}
use Rattle.scope.specs.File.Stops.{digits_stop, end_stop}
use Rattle.scope.specs.File.Line.{Shape, Line, line_text, counted_text}
use Rattle.scope.specs.File.Kinds.{Kind, form_kinds, step_kinds, row_text, row_shape, logic_text, logic_shape}

abbrev pub number_shape : Shape ℕ
number_shape = record { thing = number; text = numeral; stop = digits_stop end_stop }

abbrev pub number_line : String → Line ℕ
number_line key = record { key = bytes key; shape = number_shape }

abbrev pub row_line : String → List Kind → Line Row
row_line key kinds = record { key = bytes key; shape = row_shape kinds }

-- 'ASCII lines `key=value`, .. in this order: `version=1`, `principals=`, `atoms=`, `formulas=` and that many `form=` lines, `clauses=` and
-- that many `clause=` lines, `goal=`, `steps=` and that many `step=` lines.'
abbrev pub version_line : Line ℕ
version_line = number_line "version="

-- l) 'a second line `logic=plain` or `logic=unit`', in version 2
abbrev pub logic_line : Line Logic
logic_line = record { key = bytes "logic="; shape = logic_shape }

abbrev pub principals_line : Line ℕ
principals_line = number_line "principals="

abbrev pub atoms_line : Line ℕ
atoms_line = number_line "atoms="

abbrev pub formulas_line : Line ℕ
formulas_line = number_line "formulas="

abbrev pub form_line : Line Row
form_line = row_line "form=" form_kinds

abbrev pub clauses_line : Line ℕ
clauses_line = number_line "clauses="

abbrev pub clause_line : Line ℕ
clause_line = number_line "clause="

abbrev pub goal_line : Line ℕ
goal_line = number_line "goal="

abbrev pub steps_line : Line ℕ
steps_line = number_line "steps="

abbrev pub step_line : Line Row
step_line = row_line "step=" step_kinds

-- The lines from `principals=` on.
unfoldable pub body_text : Request → List ℕ
unfolding joined line_text counted_text numeral row_text form_kinds step_kinds
body_text q =
    joined
    (line_text principals_line q.principals ∷
    line_text atoms_line q.atoms ∷
    counted_text formulas_line form_line q.forms ∷
    counted_text clauses_line clause_line q.policy ∷
    line_text goal_line q.goal ∷
    counted_text steps_line step_line q.steps ∷
    [])

-- The line of the logic, where the version has one.
unfoldable pub logic_lines : ℕ → Logic → List ℕ
unfolding line_text logic_text
logic_lines version logic = cond (has_logic version) (line_text logic_line logic) []

unfoldable pub request_text : Request → List ℕ
unfolding line_text numeral logic_lines body_text
request_text q = line_text version_line q.version ++ (logic_lines q.version q.logic ++ body_text q)
