-- The refusals of one step, number by number, and no other number:
--     seven : step_on x o.sequent o.phase ≡ refuse 7 ↔ ¬ Fits o x
--     eight : .. ≡ refuse 8 ↔ Fits o x × Unnamed o x
--     nine : .. ≡ refuse 9 ↔ Fits o x × Named o x × Unbacked o x
--     no_other : .. ≡ refuse k → 7 ≤ k × k ≤ 9
--     applies : there is a Rule o x os ↔ Fits o x × Named o x × Backed o x
use Rattle.std.specs.Prelude.{ℕ, ◌≤◌, ◌≡◌, List, ◌↔◌}
use Rattle.std.proofs.Common.{arith}
use Rattle.scope.specs.Logic.Derivation.{Rule}
use Rattle.scope.specs.Logic.Obligation.{Obligation, Step}
use Rattle.scope.specs.Logic.Walk.{Onward, refuse, step_on}
use Rattle.granted.specs.Reasons.{Fits, Unnamed, Named, Unbacked, Backed, Refuses, misfits, unnamed, unbacked}
use Rattle.granted.proofs.Steps.{rule_named, rule_backed, Told, ruled, barred, rule_fits, told, refuses_step}

is_seven : {o : Obligation} {x : Step} → Refuses o x 7 → ¬ Fits o x
is_seven (misfits n) = n

is_eight : {o : Obligation} {x : Step} → Refuses o x 8 → Fits o x × Unnamed o x
is_eight (unnamed f u) = (f, u)

is_nine : {o : Obligation} {x : Step} → Refuses o x 9 → Fits o x × Named o x × Unbacked o x
is_nine (unbacked f n b) = (f, n, b)

pub in_range_lem : {o : Obligation} {x : Step} {k : ℕ} → Refuses o x k → (7 ≤ k) × (k ≤ 9)
in_range_lem (misfits n) = omega arith
in_range_lem (unnamed f u) = omega arith
in_range_lem (unbacked f n b) = omega arith

-- Nothing stands in the way of a step that is not refused.
told_rule : {o : Obligation} {x : Step} {m : Onward} → Told o x m → Fits o x → Named o x → Backed o x →
    (os : List Obligation) × Rule o x os
told_rule (ruled {os} r) f n b = (os, r)
told_rule (barred (misfits l)) f n b = absurd (l f)
told_rule (barred (unnamed g u)) f n b = absurd (n u)
told_rule (barred (unbacked g l c)) f n b = absurd (b c)

module _ (o : Obligation) (x : Step) where
  pub seven : step_on x o.sequent o.phase ≡ refuse 7 ↔ ¬ Fits o x
  seven = (λ e. is_seven ((refuses_step o x 7).1 e), λ n. (refuses_step o x 7).0 (misfits n))

  pub eight : step_on x o.sequent o.phase ≡ refuse 8 ↔ (Fits o x × Unnamed o x)
  eight = (λ e. is_eight ((refuses_step o x 8).1 e), λ p. (refuses_step o x 8).0 (unnamed p.0 p.1))

  pub nine : step_on x o.sequent o.phase ≡ refuse 9 ↔ (Fits o x × Named o x × Unbacked o x)
  nine = (λ e. is_nine ((refuses_step o x 9).1 e), λ p. (refuses_step o x 9).0 (unbacked p.0 p.1 p.2))

  pub no_other : (k : ℕ) → step_on x o.sequent o.phase ≡ refuse k → (7 ≤ k) × (k ≤ 9)
  no_other k e = in_range_lem ((refuses_step o x k).1 e)

  pub applies : ((os : List Obligation) × Rule o x os) ↔ (Fits o x × Named o x × Backed o x)
  applies = (
    λ r. (rule_fits r.1, λ u. rule_named u r.1, λ b. rule_backed b r.1),
    λ p. told_rule (told o x) p.0 p.1 p.2,
  )
