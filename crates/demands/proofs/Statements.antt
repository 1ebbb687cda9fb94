-- What this crate proves: the three demands over the judge's and the gate's answers, and the numbers and places that come back. Each is proved
-- in the file named beside it, of specs/ or, where it rests on a definition that a must-fail edit turns, of proofs/.
use Rattle.std.specs.Prelude.{ℕ, suc, ◌≡◌, List, ◌↔◌, ◌⊎◌, length}
use Rattle.scope.specs.Call.Result.{refused}
use Rattle.scope.specs.Call.Answer.{Answer, told, answer}
use Rattle.scope.specs.Call.Tables.{Lent, request_of}
use Rattle.scope.specs.Call.Checked.{checked}
use Rattle.scope.specs.Call.Calls.{reading, writing}
use Rattle.scope.specs.Call.Judge.{policy_of, goal_of, judge, Printed, prints, gate}
use Rattle.scope.specs.File.Request.{Request}
use Rattle.scope.specs.Logic.Models.{Entailed}
use Rattle.demands.specs.Judged as Judged
use Rattle.demands.proofs.Judged as JudgedProved
use Rattle.demands.specs.Judged.{Answers, Grants}
use Rattle.demands.specs.Gate as Gate
use Rattle.demands.proofs.Gate as GateProved
use Rattle.demands.specs.Gate.{Prints, Granting}
use Rattle.demands.specs.Ranges as Ranges
use Rattle.demands.proofs.Ranges as RangesProved
use Rattle.demands.specs.Ranges.{Between, ByReading, ByChecks, ByWriting}
use Rattle.demands.proofs.AnswerRanges as AnswerRanges
use Rattle.demands.specs.AnswerRanges.{ByJudging, ByGate}

-- The judge answers, for every lent tables and counts, what is allowed, and nothing else is allowed (Judged).
pub judge_allowed : (t : Lent) → Answers t (judge t)
judge_allowed = Judged.judge_allowed

pub allowed_judge : (t : Lent) (a : Answer) → Answers t a → judge t ≡ a
allowed_judge = Judged.allowed_judge

pub judge_grants : (t : Lent) → judge t ≡ answer 0 0 ↔ Grants t
judge_grants = JudgedProved.judge_grants

pub judge_entails : (t : Lent) → judge t ≡ answer 0 0 →
    Entailed t.logic t.principals t.atoms (policy_of (request_of t)) (goal_of (request_of t))
judge_entails = JudgedProved.judge_entails

-- So does the gate, for every file (Gate).
pub gate_prints : (s : List ℕ) → Prints s (gate s)
gate_prints = Gate.gate_prints

pub prints_gate : (s : List ℕ) (p : Printed) → Prints s p → gate s ≡ p
prints_gate = Gate.prints_gate

pub gate_grants : (s : List ℕ) (q : Request) → Granting s q → gate s ≡ prints 0 0 (length q.steps) 0
gate_grants = Gate.gate_grants

pub granted_gate : (s : List ℕ) (place n column : ℕ) → gate s ≡ prints 0 place n column → (q : Request) × Granting s q × (length q.steps ≡ n)
granted_gate = GateProved.granted_gate

pub gate_entails : (s : List ℕ) (q : Request) → Granting s q → Entailed q.logic q.principals q.atoms (policy_of q) (goal_of q)
gate_entails = Gate.gate_entails

-- The numbers, places and columns of refusals (Ranges) and of answers (AnswerRanges).
pub reading_range : (forms policy steps : ℕ) (s : List ℕ) (k place column : ℕ) → reading forms policy steps s ≡ refused (told k place column) →
    ByReading s k place column
reading_range = Ranges.reading_range

pub read_number : (forms policy steps : ℕ) (s : List ℕ) (k place column : ℕ) → reading forms policy steps s ≡ refused (told k place column) →
    Between 1 6 k ⊎ (k ≡ 13)
read_number = RangesProved.read_number

pub checked_range : (t : Lent) (k place column : ℕ) → checked t ≡ told (suc k) place column → ByChecks (suc k) place × (column ≡ 0)
checked_range = Ranges.checked_range

pub writing_range : (t : Lent) (len k place column : ℕ) → writing t len ≡ refused (told k place column) → ByWriting k place × (column ≡ 0)
writing_range = Ranges.writing_range

pub judge_range : (t : Lent) (k place column : ℕ) → judge t ≡ told k place column → ByJudging t k place × (column ≡ 0)
judge_range = AnswerRanges.judge_range

pub gate_range : (s : List ℕ) (k place n column : ℕ) → gate s ≡ prints k place n column → ByGate s k place n column
gate_range = AnswerRanges.gate_range

pub gate_number : (s : List ℕ) (k place n column : ℕ) → gate s ≡ prints k place n column → Between 0 12 k
gate_number = AnswerRanges.gate_number
