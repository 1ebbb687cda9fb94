-- What a caller may conclude from the judge's answer: refusal 0 exactly where tables and counts pass and the steps are a derivation within the
-- limits; and then the goal holds in every finite model, at each world where the policy holds.
use Rattle.std.specs.Prelude.{◌≡◌, refl}
use Rattle.std.proofs.Common.{sym, ap, ◌∙◌}
use Rattle.scope.specs.Call.Answer as S
use Rattle.scope.specs.Call.Answer.{told}
use Rattle.scope.specs.Call.Tables.{Lent, request_of}
use Rattle.scope.specs.Call.Judge.{policy_of, goal_of, judge}
use Rattle.scope.specs.Logic.Models.{Entailed}
use Rattle.demands.specs.Judged.{Grants, judge_allowed, allowed_grants}
use Rattle.demands.proofs.Judged.{judge_grants, judge_entails}
use Rattle.common.specs.declared.refused.Answer.{Answer}
use Rattle.common.specs.Answers.{answer_of}

zero_allowed : (t : Lent) (a : S.Answer) → judge t ≡ a → (answer_of a).refusal ≡ 0 → Grants t
zero_allowed t (told k place column) e z =
    allowed_grants t (told k place column) place column (ap (λ n. told n place column) z) (rw e at (judge_allowed t))

pub refusal_zero : (t : Lent) (r : Answer) → r ≡ answer_of (judge t) → r.refusal ≡ 0 → Grants t
refusal_zero t r e z = zero_allowed t (judge t) refl (sym (ap (λ a. a.refusal) e) ∙ z)

pub grants_zero : (t : Lent) (r : Answer) → r ≡ answer_of (judge t) → Grants t → (r.refusal ≡ 0) × (r.place ≡ 0) × (r.column ≡ 0)
grants_zero t r e g =
    let h = e ∙ ap answer_of ((judge_grants t).1 g) in
    (ap (λ a. a.refusal) h, ap (λ a. a.place) h, ap (λ a. a.column) h)

pub zero_entails : (t : Lent) (r : Answer) → r ≡ answer_of (judge t) → r.refusal ≡ 0 →
    Entailed t.logic t.principals t.atoms (policy_of (request_of t)) (goal_of (request_of t))
zero_entails t r e z = judge_entails t ((judge_grants t).1 (refusal_zero t r e z))
