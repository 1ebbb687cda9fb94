-- What this crate proves of the machine over numbers, for every call whose tables pass their checks. Each is proved in the file named beside it.
use Rattle.std.specs.Prelude.{ℕ, ◌≡◌, false, List, ◌∷◌, eqb}
use Rattle.scope.specs.Logic.Facts.{is_unit}
use Rattle.scope.specs.Call.Answer.{answer}
use Rattle.scope.specs.Call.Tables.{Lent, request_of}
use Rattle.scope.specs.Call.Checked.{checked}
use Rattle.scope.specs.Call.Judge.{steps_answer}
use Rattle.scope.specs.Logic.Obligation.{Obligation}
use Rattle.machine.specs.Machine.{State, ran, walked_answer}
use Rattle.walks.specs.Simulation as Simulation
use Rattle.walks.specs.Afresh as Afresh
use Rattle.walks.specs.Afresh.{MachineAt, WalkAt}

-- It answers as document 01's walk does (Simulation).
pub ran_walks : (t : Lent) → checked t ≡ answer 0 0 →
    walked_answer (ran (is_unit t.logic) t.form_table t.policy_table t.step_table t.policy t.goal t.steps) ≡ steps_answer (request_of t)
ran_walks = Simulation.ran_walks

-- At every step its rows tell what closing the current sequent's facts afresh computes: wherever the machine stands with something open, so
-- does the walk, and the other way round (Afresh).
pub kept_afresh : (t : Lent) → checked t ≡ answer 0 0 → (i : ℕ) (s : State) → MachineAt t i s → eqb s.opened 0 ≡ false →
    (o : Obligation) × (waiting : List Obligation) × WalkAt t i (o ∷ waiting) × Afresh.Afresh s o
kept_afresh t c i s a some = Afresh.kept_afresh t c a some

pub afresh_kept : (t : Lent) → checked t ≡ answer 0 0 → (i : ℕ) (o : Obligation) (waiting : List Obligation) → WalkAt t i (o ∷ waiting) →
    (s : State) × MachineAt t i s × Afresh.Afresh s o
afresh_kept t c i o waiting w = Afresh.afresh_kept t c w
