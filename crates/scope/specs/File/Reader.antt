-- The request that a text gives, or its refusal: 'lines in order, each 2, 3, 4, 5; then 6', with 15 after 4.
use Rattle.std.specs.Prelude.{ℕ, suc, List, [], ◌∷◌, cond, length}
use Rattle.scope.specs.Call.Result.{Result, result, refused}
use Rattle.scope.specs.Logic.Facts.{Logic, plain}
use Rattle.scope.specs.Call.Answer.{answer, further_down}
use Rattle.scope.specs.File.Request.{Row, Request}
use Rattle.scope.specs.File.Number.{number}
use Rattle.scope.specs.File.Line.{Read, ok, bad, Reader, line, counted, done, further, ◌>>=◌}
use Rattle.scope.specs.Limits.{version_at, has_logic, logic_at, extra_lines, principals_at, atoms_at, formulas_at, form_at, clauses_at, clause_at, goal_at, steps_at, step_at, end_at}
use Rattle.scope.specs.File.Stops.{digits_stop, end_stop}
use Rattle.scope.specs.File.Kinds.{form_kinds, step_kinds, logic_kinds, row_in, kinds_stop, logic_word}
use Rattle.scope.specs.File.Refusals.{count_refusal, version_refusal, principals_refusal, atoms_refusal, formulas_refusal, form_refusal, clauses_refusal, clause_refusal, goal_refusal, steps_refusal, step_refusal}
use Rattle.scope.specs.File.Text.{version_line, logic_line, principals_line, atoms_line, formulas_line, form_line, clauses_line, clause_line, goal_line, steps_line, step_line}

abbrev pub Outcome : Type 0
Outcome = Result Request

-- One more `form=` line, behind the formulas before it; and the like.
abbrev pub form_item : ℕ → ℕ → List Row → Reader Row
form_item principals atoms before = line form_line (form_refusal principals atoms before) (form_at (length before))

abbrev pub clause_item : List Row → List ℕ → Reader ℕ
clause_item forms before = line clause_line (clause_refusal forms) (clause_at (length forms) (length before))

abbrev pub step_item : ℕ → ℕ → List Row → Reader Row
step_item formulas clauses before = line step_line step_refusal (step_at formulas clauses (suc (length before)))

-- The lines from `principals=` on, as version 1 counts them.
unfoldable pub body_lines : ℕ → Logic → Reader Request
unfolding line counted ◌>>=◌ number row_in digits_stop end_stop kinds_stop form_kinds step_kinds count_refusal form_refusal clause_refusal goal_refusal step_refusal
body_lines version logic = do
  principals ← line principals_line principals_refusal principals_at
  atoms ← line atoms_line atoms_refusal atoms_at
  forms ← counted formulas_line formulas_refusal formulas_at (form_item principals atoms)
  policy ← counted clauses_line clauses_refusal (clauses_at (length forms)) (clause_item forms)
  goal ← line goal_line (goal_refusal forms) (goal_at (length forms) (length policy))
  steps ← counted steps_line steps_refusal (steps_at (length forms) (length policy)) (step_item (length forms) (length policy))
  done record { version = version; logic = logic; principals = principals; atoms = atoms; forms = forms; policy = policy; goal = goal; steps = steps }

-- l) '`version=2` with a second line `logic=plain` or `logic=unit`. Version 1 is read as before and means plain.'
unfoldable pub read_logic : ℕ → Reader Logic
unfolding line logic_word kinds_stop logic_kinds
read_logic version = cond (has_logic version) (line logic_line (λ logic. 0) logic_at) (done plain)

unfoldable pub request_lines : Reader Request
unfolding line ◌>>=◌ number digits_stop end_stop count_refusal read_logic further body_lines
request_lines = do
  version ← line version_line version_refusal version_at
  logic ← read_logic version
  further (extra_lines version) (body_lines version logic)

-- 'Nothing follows.' 'bytes after the last step'
unfoldable pub ended : Read Request → Outcome
unfolding further_down
ended (ok q []) = result q
ended (ok q (b ∷ rest)) =
    refused (further_down (extra_lines q.version) (answer 6 (end_at (length q.forms) (length q.policy) (length q.steps))))
ended (bad a) = refused a

unfoldable pub read_request : List ℕ → Outcome
unfolding request_lines ended
read_request s = ended (request_lines s)
