-- What a caller may conclude from the gate's four numbers: answer 0 exactly where the file reads to a request whose steps are a derivation
-- within the limits; and then the goal holds in every finite model, at each world where the policy holds.
use Rattle.std.specs.Prelude.{ℕ, ◌≡◌, refl, List, length}
use Rattle.std.proofs.Common.{sym, ap, ◌∙◌}
use Rattle.scope.specs.File.Request.{Request}
use Rattle.scope.specs.Call.Judge as J
use Rattle.scope.specs.Call.Judge.{policy_of, goal_of, prints, gate}
use Rattle.scope.specs.Logic.Models.{Entailed}
use Rattle.demands.specs.Gate.{Granting, gate_grants, gate_entails}
use Rattle.demands.proofs.Gate.{granted_gate}
use Rattle.gatelib.specs.declared.Printed.{Printed}
use Rattle.gatelib.specs.Printing.{printed_of}

zero_read : (s : List ℕ) (p : J.Printed) → gate s ≡ p → (printed_of p).answer ≡ 0 → (q : Request) × Granting s q × (length q.steps ≡ (printed_of p).steps)
unfolding printed_of
zero_read s (prints k place n column) e z = granted_gate s place n column (e ∙ ap (λ x. prints x place n column) z)

pub answer_zero : (s : List ℕ) (r : Printed) → r ≡ printed_of (gate s) → r.answer ≡ 0 →
    (q : Request) × Granting s q × (length q.steps ≡ r.steps)
answer_zero s r e z =
    let g = zero_read s (gate s) refl (sym (ap (λ (p : Printed). p.answer) e) ∙ z) in
    (g.0, g.1, g.2 ∙ sym (ap (λ (p : Printed). p.steps) e))

pub zero_answer : (s : List ℕ) (r : Printed) (q : Request) → r ≡ printed_of (gate s) → Granting s q →
    (r.answer ≡ 0) × (r.place ≡ 0) × (r.steps ≡ length q.steps) × (r.column ≡ 0)
unfolding printed_of
zero_answer s r q e g =
    let h = e ∙ ap printed_of (gate_grants s q g) in
    (ap (λ (p : Printed). p.answer) h, ap (λ (p : Printed). p.place) h, ap (λ (p : Printed). p.steps) h, ap (λ (p : Printed). p.column) h)

pub zero_entails : (s : List ℕ) (r : Printed) → r ≡ printed_of (gate s) → r.answer ≡ 0 →
    (q : Request) × Granting s q × Entailed q.logic q.principals q.atoms (policy_of q) (goal_of q)
zero_entails s r e z =
    let g = answer_zero s r e z in
    (g.0, g.1, gate_entails s g.0 g.1)
