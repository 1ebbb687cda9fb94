-- What the judge answers for lent tables, and what the gate prints for a file.
use Rattle.std.specs.Prelude.{ℕ, zero, suc, ◌*◌, List, [], ◌∷◌, map, length}
use Rattle.scope.specs.Call.Result.{result, refused}
use Rattle.scope.specs.Logic.Form.{Form}
use Rattle.scope.specs.File.Request.{Request, formula}
use Rattle.scope.specs.Call.Answer.{Answer, told}
use Rattle.scope.specs.Limits.{most_formulas, most_policy_lines, most_steps}
use Rattle.scope.specs.Logic.Obligation.{Obligation, Step, step_of, start}
use Rattle.scope.specs.Logic.Room.{within}
use Rattle.scope.specs.Logic.Walk.{walk}
use Rattle.scope.specs.File.Reader.{Outcome}
use Rattle.scope.specs.Call.Tables.{Lent, request_of}
use Rattle.scope.specs.Call.Checked.{checked}
use Rattle.scope.specs.Call.Calls.{reading}

-- The policy, the goal and the steps that a request means.
unfoldable pub policy_of : Request → List Form
unfolding formula
policy_of q = map (formula q.forms) q.policy

unfoldable pub goal_of : Request → Form
unfolding formula
goal_of q = formula q.forms q.goal

unfoldable pub steps_of : Request → List Step
unfolding step_of
steps_of q = map step_of q.steps

unfoldable pub start_of : Request → Obligation
unfolding start policy_of goal_of
start_of q = start q.logic q.principals (policy_of q) (goal_of q)

-- The answers about steps.
unfoldable pub steps_answer : Request → Answer
unfolding walk within start_of steps_of
steps_answer q = walk within 0 (start_of q ∷ []) (steps_of q)

-- The first met is the answer.
unfoldable pub else : Answer → Answer → Answer
else (told zero place column) next = next
else (told (suc k) place column) next = told (suc k) place column

-- 'The judge takes the same tables and counts, gives the writer's refusals without 14 in that same order, and then the answers about steps.'
unfoldable pub judge : Lent → Answer
unfolding checked request_of steps_answer else
judge t = else (checked t) (steps_answer (request_of t))

-- 'it prints the refusal number, the place, and the steps read (0 if reading is refused)'; and the column, as d) of document 02 asks
pub data Printed : Type 0 where
  prints : ℕ → ℕ → ℕ → ℕ → Printed

unfoldable pub printed : Answer → ℕ → Printed
printed (told k place column) steps = prints k place steps column

unfoldable pub printed_after : Outcome → Printed
unfolding printed steps_answer
printed_after (result q) = printed (steps_answer q) (length q.steps)
printed_after (refused a) = printed a 0

-- The gate reads into tables of just the room that is asked for.
unfoldable pub gate : List ℕ → Printed
unfolding reading printed_after
gate s = printed_after (reading (3 * most_formulas) most_policy_lines (2 * most_steps) s)
