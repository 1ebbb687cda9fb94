-- The numbers, places and columns of the judge's and of the gate's answers, as document 01's table 'What comes back' has them. That the answers
-- have them is proofs/AnswerRanges:
--     judge_range : judge t ≡ told k place column → ByJudging t k place × (column ≡ 0)
--     gate_range : gate s ≡ prints k place n column → ByGate s k place n column
use Rattle.std.specs.Prelude.{ℕ, suc, ◌*◌, ◌<◌, ◌≤◌, ◌≡◌, refl, true, List, length}
use Rattle.std.proofs.Common.{arith}
use Rattle.std.proofs.lemmas.List.{length-map}
use Rattle.scope.specs.Limits.{most_formulas, most_policy_lines, most_steps}
use Rattle.scope.specs.File.Request.{Request}
use Rattle.scope.specs.Logic.Obligation.{step_of}
use Rattle.scope.specs.Logic.Room.{within}
use Rattle.scope.specs.Call.Answer.{Answer, told}
use Rattle.scope.specs.Call.Tables.{Lent, step_entry, has_room, request_of}
use Rattle.scope.specs.Call.Judge.{steps_of, start_of}
use Rattle.scope.specs.Tools.Unpack.{unpack_length}
use Rattle.granted.specs.Reasons.{Settled, grants, breaks}
use Rattle.granted.proofs.FirstBreak.{break_range}
use Rattle.trip.specs.Places.{Where}
use Rattle.demands.specs.Judged.{Answers, by_tables, by_steps}
use Rattle.demands.specs.Ranges.{ByChecks, checked_range}

-- An answer about steps, n of them: granted at place 0, or 7 to 12 at a step or behind the last.
pub data BySteps (n k place : ℕ) : Type 0 where
  granted : k ≡ 0 → place ≡ 0 → BySteps n k place
  at_step : 7 ≤ k → k ≤ 12 → 0 < place → place ≤ suc n → BySteps n k place

-- Of the judge: a refusal of the tables, or an answer about their steps.
pub data ByJudging (t : Lent) (k place : ℕ) : Type 0 where
  by_checks : ByChecks k place → ByJudging t k place
  about_steps : BySteps t.steps k place → ByJudging t k place

-- Of the gate: 1 at place 0 or 2 to 6 or 15 at a line, with no steps read; or an answer about the steps read. Only 2 has a column.
pub data ByGate (s : List ℕ) (k place n column : ℕ) : Type 0 where
  too_long : k ≡ 1 → place ≡ 0 → n ≡ 0 → column ≡ 0 → ByGate s k place n column
  at_line : Where s k place column → n ≡ 0 → ByGate s k place n column
  about_steps : BySteps n k place → column ≡ 0 → ByGate s k place n column

step_count : (q : Request) → length (steps_of q) ≡ length q.steps
unfolding steps_of
step_count q = length-map q.steps step_of

pub settled_range : (q : Request) (a : Answer) (k place column : ℕ) → Settled within (start_of q) (steps_of q) a → a ≡ told k place column →
    BySteps (length q.steps) k place × (column ≡ 0)
settled_range q a k place column (grants d) e = (granted (cc) (cc), cc)
settled_range q a k place column (breaks {k = n} {place = p} b) e =
    let z : n ≡ k = cc in
    let y : p ≡ place = cc in
    let h = break_range b in
    let c = step_count q in
    (at_step (omega arith) (omega arith) (omega arith) (omega arith), cc)

table_count : (t : Lent) → length (request_of t).steps ≡ t.steps
unfolding request_of
table_count t = unpack_length step_entry t.steps t.step_table

pub allowed_range : (t : Lent) (a : Answer) (k place column : ℕ) → Answers t a → a ≡ told k place column → ByJudging t k place × (column ≡ 0)
allowed_range t a k place column (by_tables {k = n} {place = p} c) e =
    let z : suc n ≡ k = cc in
    let y : p ≡ place = cc in
    (by_checks (rw (z, y) at (checked_range t n p 0 c).0), cc)
allowed_range t a k place column (by_steps c s) e =
    let r = settled_range (request_of t) a k place column s e in
    (about_steps (rw (table_count t) at r.0), r.1)

pub gate_room : has_room (3 * most_formulas) most_policy_lines (2 * most_steps) ≡ true
unfolding has_room
gate_room = refl

pub steps_number : {n k place : ℕ} → BySteps n k place → k ≤ 12
steps_number (granted e p) = omega arith
steps_number (at_step a b c d) = b
