-- What the gate grants: a file whose request reads and whose steps are a derivation.
use Rattle.std.specs.Prelude.{ℕ, ◌*◌, ◌≡◌, List, length}
use Rattle.std.proofs.Common.{ap, arith}
use Rattle.scope.specs.Call.Answer.{answer}
use Rattle.scope.specs.Limits.{most_formulas, most_policy_lines, most_steps}
use Rattle.scope.specs.File.Request.{Request}
use Rattle.scope.specs.Call.Judge.{Printed, prints, gate}
use Rattle.demands.proofs.Ranges.{reading_firm}
use Rattle.demands.specs.Judged.{zero_granted}
use Rattle.demands.specs.Gate.{Prints, answered, unread, gate_prints, Granting}

granting : (s : List ℕ) (p : Printed) (place n column : ℕ) → Prints s p → p ≡ prints 0 place n column →
    (q : Request) × Granting s q × (length q.steps ≡ n)
granting s p place n column (unread {k = k} {place = i} {column = c} e) z =
    let y : k ≡ 0 = cc in
    let f = reading_firm (3 * most_formulas) most_policy_lines (2 * most_steps) s k i c e in
    absurd (omega arith)
granting s p place n column (answered {q = q} {k = k} {place = r} e f) z =
    let a : k ≡ 0 = cc in
    let b : length q.steps ≡ n = cc in
    (q, record { reads = e; derives = zero_granted q (answer k r) r 0 f (ap (λ x. answer x r) a) }, b)

-- and nothing else is: an answer 0 comes of a request that was read, whose steps are a derivation, and counts its steps.
pub granted_gate : (s : List ℕ) (place n column : ℕ) → gate s ≡ prints 0 place n column → (q : Request) × Granting s q × (length q.steps ≡ n)
granted_gate s place n column e = granting s (gate s) place n column (gate_prints s) e
