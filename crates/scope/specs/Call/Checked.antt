-- What writer and judge ask of lent tables before anything else: 'It gives 13; then 3, 4 or 5 at the line where the text would have it;
-- then 3 at place 0 for a nonzero entry past the counts.' l) 'unit told with version 1 is 16 at place 0, after 13.'
use Rattle.std.specs.Prelude.{ℕ, zero, suc, ◌*◌, List, [], ◌∷◌, ◌++◌, map, Bool, true, eqb, length, drop}
use Rattle.scope.specs.Logic.Form.{both}
use Rattle.scope.specs.File.Request.{Request}
use Rattle.scope.specs.Call.Answer.{Answer, told, answer, further_down}
use Rattle.scope.specs.File.Bytes.{joined}
use Rattle.scope.specs.Limits.{most_steps, version_at, extra_lines, principals_at, atoms_at, formulas_at, form_at, clauses_at, clause_at, goal_at, steps_at, step_at}
use Rattle.scope.specs.File.Refusals.{demand, count_refusal, version_refusal, unit_refusal, principals_refusal, atoms_refusal, formulas_refusal, form_refusal, clauses_refusal, clause_refusal, goal_refusal, steps_refusal, step_refusal}
use Rattle.scope.specs.Call.Tables.{Lent, step_entry, table, has_room, request_of}

-- 'The first met is the answer, with no other given.' An answer numbered 0 is no refusal.
unfoldable pub first_met : List Answer → Answer
first_met [] = answer 0 0
first_met (told zero place column ∷ more) = first_met more
first_met (told (suc k) place column ∷ more) = told (suc k) place column

-- The answer about each of several things, in the light of those before it.
unfoldable pub each_of : {A : Type 0} → (List A → A → Answer) → List A → List A → List Answer
each_of about before [] = []
each_of about before (x ∷ xs) = about before x ∷ each_of about (before ++ (x ∷ [])) xs

-- The lines that the text of a request would have from `principals=` on, as version 1 counts them.
unfoldable pub body_answers : Request → List Answer
unfolding joined each_of count_refusal form_refusal clause_refusal goal_refusal step_refusal
body_answers q =
    joined
    ((answer (principals_refusal q.principals) principals_at ∷
    answer (atoms_refusal q.atoms) atoms_at ∷
    answer (formulas_refusal (length q.forms)) formulas_at ∷
    []) ∷
    each_of (λ before r. answer (form_refusal q.principals q.atoms before r) (form_at (length before))) [] q.forms ∷
    (answer (clauses_refusal (length q.policy)) (clauses_at (length q.forms)) ∷ []) ∷
    each_of (λ before f. answer (clause_refusal q.forms f) (clause_at (length q.forms) (length before))) [] q.policy ∷
    (answer (goal_refusal q.forms q.goal) (goal_at (length q.forms) (length q.policy)) ∷
    answer (steps_refusal (length q.steps)) (steps_at (length q.forms) (length q.policy)) ∷
    []) ∷
    each_of
    (λ before r. answer (step_refusal r) (step_at (length q.forms) (length q.policy) (suc (length before))))
    []
    q.steps ∷
    [])

-- All lines: no logic is out of shape, so that its line has no refusal.
unfoldable pub line_answers : Request → List Answer
unfolding count_refusal further_down body_answers
line_answers q = answer (version_refusal q.version) version_at ∷ map (further_down (extra_lines q.version)) (body_answers q)

unfoldable pub all_zero : List ℕ → Bool
unfolding both
all_zero [] = true
all_zero (n ∷ ns) = both (eqb n 0) (all_zero ns)

-- No nonzero entry past the counts, anywhere in the lent length.
unfoldable pub past_zero : Lent → Bool
unfolding both all_zero
past_zero t =
    both
    (all_zero (drop (3 * t.formulas) t.form_table))
    (both (all_zero (drop t.policy t.policy_table)) (all_zero (drop (2 * t.steps) t.step_table)))

unfoldable pub checked : Lent → Answer
unfolding first_met joined demand has_room unit_refusal request_of line_answers past_zero
checked t =
    first_met
    (joined
    ((answer (demand (has_room (length t.form_table) (length t.policy_table) (length t.step_table)) 13 0) 0 ∷ []) ∷
    (answer (unit_refusal t.version t.logic) 0 ∷ []) ∷
    line_answers (request_of t) ∷
    (answer (demand (past_zero t) 3 0) 0 ∷ []) ∷
    []))

-- 'the writer's first, steps left out', 'the judge's by line, steps left out': what is asked of the same tables with the one step `top`, in a
-- table of just the room.
abbrev pub one_step : List ℕ
one_step = table step_entry (2 * most_steps) (record { kind = 5; left = 0; right = 0 } ∷ [])

unfoldable pub without_steps : Lent → Lent
without_steps t =
    record {
      version = t.version;
      logic = t.logic;
      principals = t.principals;
      atoms = t.atoms;
      formulas = t.formulas;
      policy = t.policy;
      goal = t.goal;
      steps = 1;
      form_table = t.form_table;
      policy_table = t.policy_table;
      step_table = one_step;
    }

unfoldable pub line_answer : Lent → Answer
unfolding checked without_steps
line_answer t = checked (without_steps t)
