-- What is asked of each part of lent tables, in the order of the text.
use Rattle.std.specs.Prelude.{ℕ, suc, List, [], ◌∷◌, length}
use Rattle.refusals.specs.Rows.{class_refusal}
use Rattle.scope.specs.Logic.Facts.{Logic}
use Rattle.scope.specs.File.Request.{Row}
use Rattle.scope.specs.Call.Answer.{Answer, answer}
use Rattle.scope.specs.Limits.{version_at, principals_at, atoms_at, formulas_at, form_at, clause_at, goal_at, steps_at, step_at}
use Rattle.scope.specs.File.Refusals.{demand, version_refusal, unit_refusal, principals_refusal, atoms_refusal, formulas_refusal, steps_refusal, step_refusal, form_refusal}
use Rattle.scope.specs.Call.Checked.{each_of}
use Rattle.scope.specs.Call.Tables.{has_room}
use Rattle.classes.specs.declared.Class.{Class}
use Rattle.classes.specs.Class.{no_class, goal_in, policy_in}

-- Before the lines that follow it: the room, unit told with version 1, and the version.
unfoldable pub head_answers : ℕ → ℕ → ℕ → ℕ → Logic → List Answer
head_answers forms policy steps version logic =
    answer (demand (has_room forms policy steps) 13 0) 0 ∷
    answer (unit_refusal version logic) 0 ∷
    answer (version_refusal version) version_at ∷
    []

unfoldable pub count_answers : ℕ → ℕ → ℕ → List Answer
count_answers principals atoms formulas =
    answer (principals_refusal principals) principals_at ∷
    answer (atoms_refusal atoms) atoms_at ∷
    answer (formulas_refusal formulas) formulas_at ∷
    []

-- The answer about the row of a formula behind those before it.
abbrev pub form_answer : ℕ → ℕ → List Row → Row → Answer
form_answer principals atoms before r = answer (form_refusal principals atoms before r) (form_at (length before))

unfoldable pub form_answers : ℕ → ℕ → List Row → List Answer
form_answers principals atoms rows = each_of (form_answer principals atoms) [] rows

unfoldable pub policy_answers : List Class → ℕ → List ℕ → List Answer
policy_answers classes formulas fs =
    each_of (λ before f. answer (class_refusal policy_in no_class classes formulas f) (clause_at formulas (length before))) [] fs

unfoldable pub goal_answers : List Class → ℕ → ℕ → ℕ → ℕ → List Answer
goal_answers classes formulas policy goal steps =
    answer (class_refusal goal_in no_class classes formulas goal) (goal_at formulas policy) ∷
    answer (steps_refusal steps) (steps_at formulas policy) ∷
    []

unfoldable pub step_answers : ℕ → ℕ → List Row → List Answer
step_answers formulas policy rows =
    each_of (λ before r. answer (step_refusal r) (step_at formulas policy (suc (length before)))) [] rows
