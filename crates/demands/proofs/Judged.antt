-- What the judge grants: tables without refusal whose steps are a derivation; and then the goal is entailed.
use Rattle.std.specs.Prelude.{ℕ, ◌<◌, ◌≡◌, ◌↔◌}
use Rattle.std.proofs.Common.{sym, ◌∙◌}
use Rattle.scope.specs.Call.Answer.{Answer, answer}
use Rattle.scope.specs.Call.Tables.{Lent, request_of}
use Rattle.scope.specs.Call.Judge.{policy_of, goal_of, judge}
use Rattle.scope.specs.Logic.Models.{Model, ModelOf, Sat, SatAll, Entailed}
use Rattle.granted.specs.Reasons.{grants}
use Rattle.trip.proofs.Trip.{checked_fine}
use Rattle.demands.specs.Judged.{steps_settled, steps_entail, Answers, by_steps, judge_allowed, allowed_judge, Grants, allowed_grants}

-- So any two answers allowed are equal.
pub one_judgement : (t : Lent) (a b : Answer) → Answers t a → Answers t b → a ≡ b
one_judgement t a b p q = sym (allowed_judge t a p) ∙ allowed_judge t b q

-- Demand 2: granted exactly then.
pub judge_grants : (t : Lent) → judge t ≡ answer 0 0 ↔ Grants t
judge_grants t = (λ e. allowed_grants t (judge t) 0 0 e (judge_allowed t), back)
  where
    back : Grants t → judge t ≡ answer 0 0
    back g = allowed_judge t (answer 0 0) (by_steps g.fine (grants g.derives))

-- Demand 3: what is granted holds in every finite model of its logic over the request's principals and atoms, at each world where the policy holds.
pub judge_entails : (t : Lent) → judge t ≡ answer 0 0 →
    Entailed t.logic t.principals t.atoms (policy_of (request_of t)) (goal_of (request_of t))
unfolding request_of
judge_entails t e =
    let g = (judge_grants t).0 e in
    steps_entail (request_of t) (checked_fine t g.fine).unrefused ((steps_settled (request_of t) (answer 0 0)).1 (grants g.derives))

-- In the other form: a request that some model refutes is not granted.
pub judge_refuted : (t : Lent) (m : Model) → ModelOf t.logic t.principals t.atoms m → (w : ℕ) → w < m.worlds →
    SatAll m w (policy_of (request_of t)) → (Sat m w (goal_of (request_of t)) → ⊥) → judge t ≡ answer 0 0 → ⊥
unfolding Entailed
judge_refuted t m f w b p r e = r (judge_entails t e m f w b p)
