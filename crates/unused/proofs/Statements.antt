-- m) 'Lines nobody used': requests that differ only in them get the same answer at the same place, grants and refusals of steps alike.
use Rattle.std.specs.Prelude.{ℕ, ◌*◌, ◌≡◌, List, length}
use Rattle.std.proofs.Common.{sym, ap, ◌∙◌}
use Rattle.std.proofs.lemmas.List.{length-map}
use Rattle.scope.specs.Call.Result.{result}
use Rattle.scope.specs.File.Request.{Request}
use Rattle.scope.specs.Call.Answer.{answer}
use Rattle.scope.specs.Limits.{most_formulas, most_policy_lines, most_steps}
use Rattle.scope.specs.Logic.Obligation.{step_of}
use Rattle.scope.specs.Call.Tables.{Lent, request_of}
use Rattle.scope.specs.Call.Checked.{checked}
use Rattle.scope.specs.Call.Calls.{reading}
use Rattle.scope.specs.Logic.Room.{within}
use Rattle.scope.specs.Call.Judge.{steps_of, steps_answer, else, judge, printed_after, gate}
use Rattle.unused.specs.Alike.{Alike}
use Rattle.unused.specs.Twins.{within_blind}
use Rattle.unused.specs.Walks.{walk_alike}
use Rattle.unused.proofs.Starts.{starts_alike}

-- Over requests, whether or not they would read without refusal.
pub same_answer : (q r : Request) → Alike q r → steps_answer q ≡ steps_answer r
unfolding steps_answer
same_answer q r a = rw (← a.steps) (walk_alike within within_blind 0 (steps_of q) (starts_alike q r a) (λ i u. u))

steps_read_lem : (q r : Request) → Alike q r → length q.steps ≡ length r.steps
unfolding steps_of
steps_read_lem q r a = sym (length-map q.steps step_of) ∙ ap length a.steps ∙ length-map r.steps step_of

-- Over files that both read without refusal: the gate prints the same four numbers.
pub same_printed : (s t : List ℕ) (q r : Request) →
    reading (3 * most_formulas) most_policy_lines (2 * most_steps) s ≡ result q →
    reading (3 * most_formulas) most_policy_lines (2 * most_steps) t ≡ result r → Alike q r → gate s ≡ gate t
unfolding gate printed_after
same_printed s t q r d e a = rw (d, e, same_answer q r a, steps_read_lem q r a)

-- Over tables that both pass their checks.
pub same_judged : (t u : Lent) → checked t ≡ answer 0 0 → checked u ≡ answer 0 0 → Alike (request_of t) (request_of u) →
    judge t ≡ judge u
unfolding judge else
same_judged t u d e a = rw (d, e, same_answer (request_of t) (request_of u) a)
