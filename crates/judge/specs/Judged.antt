-- The judge's answer by its two parts: a refusal of the checks is the answer, and else what the walk answers.
use Rattle.std.specs.Prelude.{ℕ, zero, suc, ◌≡◌, refl, Bool, true, false, not, eqb, ⊤, Result, Ok, Err, MatchResult, IsErrAnd}
use Rattle.std.proofs.Common.{sym, ap, ◌∙◌, arith, ne_eqb}
use Rattle.scope.specs.Logic.Facts.{is_unit}
use Rattle.scope.specs.File.Kinds.{logic_of}
use Rattle.scope.specs.Call.Answer as S
use Rattle.scope.specs.Call.Answer.{told, answer}
use Rattle.scope.specs.Call.Tables.{Lent, request_of}
use Rattle.scope.specs.Call.Checked.{checked}
use Rattle.scope.specs.Call.Judge.{steps_answer, judge, else}
use Rattle.common.specs.declared.refused.Answer.{Answer as Returned}
use Rattle.common.specs.Refused.{number_of}
use Rattle.checks.specs.Met.{checked_of}
use Rattle.machine.specs.declared.StepRefusal.{StepRefusal}
use Rattle.machine.specs.Machine.{ran, walked_answer}
use Rattle.scope.specs.Tools.Tests.{never}
use Rattle.trip.specs.Trip.{unmet}
use Rattle.walks.specs.Simulation.{ran_walks}
use Rattle.demands.specs.Judged.{judge_law, else_passes, else_refused}
use Rattle.common.specs.Answers.{answer_of}
use Rattle.judge.specs.Answers.{refusal_answer, walked_to}

pub checks_refuse : (t : Lent) (r : Returned) → checked_of (checked t) ≡ Err r → refusal_answer (Err r) ≡ answer_of (judge t)
unfolding refusal_answer checked_of
checks_refuse t r e = go (checked t) refl e
  where
    go : (a : S.Answer) → checked t ≡ a → checked_of a ≡ Err r → refusal_answer (Err r) ≡ answer_of (judge t)
    go (told zero p n) c d = never cc
    go (told (suc k) p n) c d =
        let j : judge t ≡ told (suc k) p n = judge_law t ∙ ap (λ a. else a (steps_answer (request_of t))) c ∙ else_refused k p n (steps_answer (request_of t)) in
        rw j (ap refusal_answer (sym d))

fine_zero : (t : Lent) → checked_of (checked t) ≡ Ok tt → checked t ≡ answer 0 0
unfolding checked_of
fine_zero t e = go (checked t) refl e
  where
    go : (a : S.Answer) → checked t ≡ a → checked_of a ≡ Ok tt → checked t ≡ answer 0 0
    go (told zero p n) c d = unmet t p n c
    go (told (suc k) p n) c d = never cc

walked_is : (w : Result ⊤ StepRefusal) → walked_to w ≡ answer_of (walked_answer w)
unfolding walked_to walked_answer
walked_is (Ok u) = refl
walked_is (Err r) = refl

pub walk_answers : (t : Lent) (unit : Bool) → unit ≡ is_unit t.logic → checked_of (checked t) ≡ Ok tt →
    walked_to (ran unit t.form_table t.policy_table t.step_table t.policy t.goal t.steps) ≡ answer_of (judge t)
walk_answers t unit u e =
    let c = fine_zero t e in
    let j : judge t ≡ steps_answer (request_of t) = judge_law t ∙ ap (λ a. else a (steps_answer (request_of t))) c ∙ else_passes 0 0 (steps_answer (request_of t)) in
    let w : walked_answer (ran unit t.form_table t.policy_table t.step_table t.policy t.goal t.steps) ≡ steps_answer (request_of t) =
    rw u (ran_walks t c) in
    walked_is _ ∙ ap answer_of (w ∙ sym j)

pub plain_told : (logic : ℕ) → logic ≡ 0 → false ≡ is_unit (logic_of logic)
unfolding logic_of
plain_told logic e = rw e refl

pub unit_told : (logic : ℕ) → (logic ≡ 0 → ⊥) → true ≡ is_unit (logic_of logic)
unfolding logic_of
unit_told zero h = absurd (h refl)
unit_told (suc logic) h = refl

pub unit_is : (logic : ℕ) → not (eqb logic 0) ≡ is_unit (logic_of logic)
unit_is zero = plain_told 0 refl
unit_is (suc logic) =
    let some : suc logic ≡ 0 → ⊥ = λ e. omega arith in
    rw (ne_eqb (suc logic) 0 some) (unit_told (suc logic) some)

-- What the code makes of the walk's answer.
pub told_at : (r : StepRefusal) (a : Returned) → a ≡ answer_of (answer (number_of r.refusal) r.step) → a ≡ walked_to (Err r)
unfolding walked_to
told_at r a e = e

pub walked_said : (w : Result ⊤ StepRefusal) (q : Result ⊤ Returned) (P : StepRefusal → Returned → Type 0) →
    ((r : StepRefusal) (a : Returned) → P r a → a ≡ walked_to (Err r)) → MatchResult w (λ x. q ≡ Ok x) (λ r. IsErrAnd q (P r)) →
    refusal_answer q ≡ walked_to w
unfolding refusal_answer walked_to
walked_said (Ok u) q P h m = rw m refl
walked_said (Err r) (Ok u) P h m = absurd m
walked_said (Err r) (Err a) P h m = h r a m
