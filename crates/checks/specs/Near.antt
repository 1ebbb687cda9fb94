-- The place of a refusal is near: behind counts that are not refused no line stands past 10,000.
use Rattle.std.specs.Prelude.{ℕ, zero, suc, ◌+◌, ◌<◌, ◌≤◌, ◌≡◌, refl, List, [], ◌∷◌, ◌++◌, leb, length}
use Rattle.std.proofs.Common.{arith, leb-true, length-append}
use Rattle.scope.specs.Logic.Form.{both}
use Rattle.scope.specs.Tools.Tests.{both_true, demand_met}
use Rattle.scope.specs.Call.Answer.{Answer, told, answer}
use Rattle.scope.specs.Call.Checked.{each_of, first_met, body_answers}
use Rattle.scope.specs.File.Request.{Request}
use Rattle.scope.specs.File.Refusals.{count_refusal, form_refusal, clause_refusal, step_refusal}
use Rattle.scope.specs.Limits.{most_formulas, most_policy_lines, most_steps, formulas_at, form_at, clauses_at, clause_at, steps_at, step_at}
use Rattle.checks.specs.Met.{checked_of, met_in, place_of}

pub record Near (list : List Answer) : Type 0 where
  pub near : place_of (met_in list) ≤ 10000

near_none : Near []
unfolding met_in first_met checked_of place_of
near_none = record { near = omega arith }

near_refused : (k place : ℕ) (more : List Answer) → place ≤ 10000 → Near (answer (suc k) place ∷ more)
unfolding met_in first_met checked_of place_of
near_refused k place more h = record { near = h }

near_first : (k place : ℕ) (more : List Answer) → place ≤ 10000 → Near more → Near (answer k place ∷ more)
unfolding met_in first_met checked_of place_of
near_first zero place more h n = record { near = n.near }
near_first (suc k) place more h n = record { near = (near_refused k place more h).near }

near_all : (xs ys : List Answer) → Near xs → Near ys → Near (xs ++ ys)
unfolding met_in first_met checked_of place_of
near_all [] ys n m = m
near_all (told zero p c ∷ xs) ys n m = record { near = (near_all xs ys (record { near = n.near }) m).near }
near_all (told (suc k) p c ∷ xs) ys n m = record { near = n.near }

near_each : {A : Type 0} (refusal : List A → A → ℕ) (place : List A → ℕ) (most : ℕ) → ((b : List A) → length b < most → place b ≤ 10000) →
    (before xs : List A) → length before + length xs ≤ most → Near (each_of (λ b x. answer (refusal b x) (place b)) before xs)
unfolding each_of
near_each refusal place most h before [] m = near_none
near_each refusal place most h before (x ∷ xs) m =
    let l = length-append before (x ∷ []) in
    near_first (refusal before x) (place before) _ (h before (omega arith)) (near_each refusal place most h (before ++ (x ∷ [])) xs (omega arith))

count_most : (least most n : ℕ) → count_refusal least most n ≡ 0 → n ≤ most
unfolding count_refusal
count_most least most n e =
    leb-true n most (both_true (leb least n) (leb n most) (demand_met (both (leb least n) (leb n most)) 2 0 e).0).1

-- Behind a count that is not refused, it is known.
near_counted : (least most n place : ℕ) (more : List Answer) → place ≤ 10000 → (n ≤ most → Near more) → Near (answer (count_refusal least most n) place ∷ more)
near_counted least most n place more h next = go (count_refusal least most n) refl
  where
    go : (k : ℕ) → count_refusal least most n ≡ k → Near (answer (count_refusal least most n) place ∷ more)
    go zero e = rw e (near_first 0 place more h (next (count_most least most n e)))
    go (suc k) e = rw e (near_refused k place more h)

pub near_body : (q : Request) → Near (body_answers q)
unfolding body_answers
near_body q =
    near_first _ _ _ (omega arith)
    (near_first _ _ _ (omega arith)
    (near_counted 1 most_formulas (length q.forms) formulas_at _ (omega arith) λ f.
    near_all _ _
    (near_each (form_refusal q.principals q.atoms) (λ b. form_at (length b)) most_formulas (λ b h. omega arith) [] q.forms (omega arith))
    (near_counted 0 most_policy_lines (length q.policy) (clauses_at (length q.forms)) _ (omega arith) λ l.
    near_all _ _
    (near_each (λ b. clause_refusal q.forms) (λ b. clause_at (length q.forms) (length b)) most_policy_lines (λ b h. omega arith) [] q.policy (omega arith))
    (near_first _ _ _ (omega arith)
    (near_counted 1 most_steps (length q.steps) (steps_at (length q.forms) (length q.policy)) _ (omega arith) λ n.
    near_all _ _
    (near_each (λ b. step_refusal) (λ b. step_at (length q.forms) (length q.policy) (suc (length b))) most_steps (λ b h. omega arith) [] q.steps (omega arith))
    near_none)))))
