-- Demands 2 and 3 for the judge: its answer for every lent tables and counts is the refusal of their checks, or else granted exactly when the
-- steps are a derivation within the limits, or else the first step that breaks the rules; and what is granted holds in every model of its logic.
use Rattle.std.specs.Prelude.{ℕ, zero, suc, ◌≡◌, refl, ◌↔◌}
use Rattle.std.proofs.Common.{◌∙◌, arith}
use Rattle.scope.specs.Call.Answer.{Answer, told, answer}
use Rattle.scope.specs.File.Request.{Request}
use Rattle.scope.specs.Call.Tables.{Lent, request_of}
use Rattle.scope.specs.Call.Checked.{checked}
use Rattle.scope.specs.Logic.Derivation.{Derivation}
use Rattle.scope.specs.Logic.Room.{within}
use Rattle.scope.specs.Call.Judge.{policy_of, goal_of, steps_of, start_of, steps_answer, else, judge}
use Rattle.scope.specs.Logic.Models.{Entailed}
use Rattle.granted.specs.Reasons.{Settled, grants, breaks}
use Rattle.granted.proofs.Statements.{granted, settled}
use Rattle.granted.proofs.FirstBreak.{break_range}
use Rattle.sound.proofs.Rows.{request_sound}
use Rattle.scope.specs.Tools.Tests.{never}
use Rattle.trip.specs.File.{Unrefused}
use Rattle.trip.specs.Trip.{unmet}
use Rattle.demands.specs.InRange.{rows_in}
use Rattle.demands.specs.Ranges.{checked_range}

-- Every answer about the steps of a request is settled by the rules.
pub steps_settled : (q : Request) (a : Answer) → steps_answer q ≡ a ↔ Settled within (start_of q) (steps_of q) a
unfolding steps_answer
steps_settled q a = settled within (start_of q) (steps_of q) a

-- Settled with number 0 is derived: no break has it.
pub zero_granted : (q : Request) (a : Answer) (r c : ℕ) → Settled within (start_of q) (steps_of q) a → a ≡ told 0 r c →
    Derivation within (start_of q) (steps_of q)
zero_granted q a r c (grants d) e = d
zero_granted q a r c (breaks {k = k} b) e =
    let z : k ≡ 0 = cc in
    let h = break_range b in
    absurd (omega arith)

-- Granted steps of a request without refusal: in every model, at each world where every policy line holds, the goal holds.
pub steps_entail : (q : Request) → Unrefused q → steps_answer q ≡ answer 0 0 → Entailed q.logic q.principals q.atoms (policy_of q) (goal_of q)
unfolding steps_answer start_of policy_of goal_of
steps_entail q s e =
    request_sound within q (steps_of q) (rows_in q.principals q.atoms s.forms) ((granted within (start_of q) (steps_of q)).0 e)

-- The answers that are allowed for lent tables.
pub data Answers (t : Lent) : Answer → Type 0 where
  -- a refusal of the tables and counts
  by_tables : {k place : ℕ} → checked t ≡ answer (suc k) place → Answers t (answer (suc k) place)
  -- or granted, or the first break
  by_steps : {a : Answer} → checked t ≡ answer 0 0 → Settled within (start_of (request_of t)) (steps_of (request_of t)) a → Answers t a

pub judge_law : (t : Lent) → judge t ≡ else (checked t) (steps_answer (request_of t))
unfolding judge
judge_law t = refl

pub else_refused : (k place column : ℕ) (b : Answer) → else (told (suc k) place column) b ≡ told (suc k) place column
unfolding else
else_refused k place column b = refl

pub else_passes : (place column : ℕ) (b : Answer) → else (told 0 place column) b ≡ b
unfolding else
else_passes place column b = refl

-- The judge's answer is allowed, and no other is.
pub judge_allowed : (t : Lent) → Answers t (judge t)
judge_allowed t = go (checked t) refl
  where
    go : (c : Answer) → checked t ≡ c → Answers t (judge t)
    go (told zero place column) e =
        rw (judge_law t, e, else_passes place column (steps_answer (request_of t)))
        (by_steps (unmet t place column e) ((steps_settled (request_of t) (steps_answer (request_of t))).0 refl))
    go (told (suc k) place column) e =
        let z = (checked_range t k place column e).1 in
        rw (judge_law t, e, else_refused k place column (steps_answer (request_of t)), z) (by_tables (rw z at e))

pub allowed_judge : (t : Lent) (a : Answer) → Answers t a → judge t ≡ a
allowed_judge t a (by_tables {k} {place} e) = rw (judge_law t, e) (else_refused k place 0 (steps_answer (request_of t)))
allowed_judge t a (by_steps e s) =
    rw (judge_law t, e) (else_passes 0 0 (steps_answer (request_of t)) ∙ (steps_settled (request_of t) a).1 s)

-- Tables and counts that pass their checks, and steps that are a derivation by the rules within the limits.
pub record Grants (t : Lent) : Type 0 where
  pub fine : checked t ≡ answer 0 0
  pub derives : Derivation within (start_of (request_of t)) (steps_of (request_of t))

-- An answer with number 0 is allowed only there.
pub allowed_grants : (t : Lent) (a : Answer) (r c : ℕ) → a ≡ told 0 r c → Answers t a → Grants t
allowed_grants t a r c e (by_tables d) = never cc
allowed_grants t a r c e (by_steps d s) = record { fine = d; derives = zero_granted (request_of t) a r c s e }
