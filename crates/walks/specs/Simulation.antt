-- The machine over numbers answers as document 01's walk does, for every call whose tables pass their checks: `ran_walks`.
use Rattle.std.specs.Prelude.{◌≡◌, List, [], ◌∷◌}
use Rattle.std.proofs.Common.{ap, ◌∙◌, arith}
use Rattle.scope.specs.Logic.Facts.{is_unit}
use Rattle.scope.specs.Call.Answer.{answer}
use Rattle.scope.specs.Logic.Obligation.{Step}
use Rattle.scope.specs.Logic.Room.{within}
use Rattle.scope.specs.Logic.Walk.{walk}
use Rattle.scope.specs.Call.Tables.{Lent, policy_entry, unpack, request_of}
use Rattle.scope.specs.Tools.Unpack.{unpack_length}
use Rattle.scope.specs.Call.Checked.{checked}
use Rattle.scope.specs.Call.Judge.{steps_of, start_of, steps_answer}
use Rattle.trip.proofs.Trip.{checked_fine}
use Rattle.machine.specs.Machine.{begun, ran, walked_answer}
use Rattle.walks.specs.Unpacked.{line_at, steps_are}
use Rattle.walks.specs.Passed.{Passed, unrefused_passed}
use Rattle.walks.specs.Readable.{reading_of}
use Rattle.walks.specs.Related.{Related}
use Rattle.walks.specs.Begun.{begun_related}
use Rattle.walks.specs.Ran.{steps_from, ran_from_lem}

-- What the machine begins with stands for the start, and its steps are the request's.
module _ (t : Lent) (p : Passed t) where
  pub begins : Related (reading_of t p) (begun t.form_table t.policy_table t.policy t.goal) (start_of (request_of t) ∷ [])
  unfolding request_of start_of
  begins =
      begun_related (reading_of t p) t.policy_table (unpack policy_entry t.policy t.policy_table) t.policy
      (unpack_length policy_entry t.policy t.policy_table) (omega (arith, p.few_lines)) (λ i h. line_at t.policy i t.policy_table h)
      p.each_line t.goal p.goal_named

  steps_same : steps_from t.step_table t.steps 0 ≡ steps_of (request_of t)
  unfolding request_of steps_of
  steps_same = steps_are t.step_table t.steps

pub ran_walks : (t : Lent) → checked t ≡ answer 0 0 →
    walked_answer (ran (is_unit t.logic) t.form_table t.policy_table t.step_table t.policy t.goal t.steps) ≡ steps_answer (request_of t)
unfolding ran steps_answer
ran_walks t e =
    let p = unrefused_passed t (checked_fine t e).unrefused in
    ran_from_lem {T = reading_of t p} t.step_table t.steps 0 (begun t.form_table t.policy_table t.policy t.goal)
    (start_of (request_of t) ∷ []) (begins t p) ∙
    ap (λ (xs : List Step). walk within 0 (start_of (request_of t) ∷ []) xs) (steps_same t p)
