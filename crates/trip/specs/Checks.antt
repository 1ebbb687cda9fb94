-- The checks of writer and judge pass exactly on the requests without refusal.
use Rattle.std.specs.Prelude.{ℕ, zero, suc, ◌≡◌, length}
use Rattle.std.proofs.Math.Path.{refl}
use Rattle.std.proofs.Common.{◌∙◌}
use mathlib.Core.List.{List, [], ◌∷◌, ◌++◌, map}
use Rattle.scope.specs.Call.Answer.{Answer, told, answer, further_down}
use Rattle.scope.specs.File.Request.{Request}
use Rattle.scope.specs.Call.Checked.{first_met, each_of, body_answers, line_answers}
use Rattle.scope.specs.File.Refusals.{unit_refusal}
use Rattle.scope.specs.Limits.{extra_lines}
use Rattle.scope.specs.Tools.Tests.{never}
use Rattle.trip.specs.Several.{Two, two, Each, none_left, one_more}
use Rattle.trip.specs.File.{Unrefused}

pub nothing_met : first_met [] ≡ answer 0 0
unfolding first_met
nothing_met = refl

-- Nothing is met in a list if nothing is met in its first answer and in the rest.
pub met_first : (k place : ℕ) (more : List Answer) → first_met (answer k place ∷ more) ≡ answer 0 0 → Two (k ≡ 0) (first_met more ≡ answer 0 0)
unfolding first_met
met_first zero place more e = two refl e
met_first (suc k) place more e = never cc

pub passes : (k place : ℕ) (more : List Answer) → k ≡ 0 → first_met (answer k place ∷ more) ≡ first_met more
unfolding first_met
passes k place more e = rw e refl

pub met_apart : (xs ys : List Answer) → first_met (xs ++ ys) ≡ answer 0 0 → Two (first_met xs ≡ answer 0 0) (first_met ys ≡ answer 0 0)
unfolding first_met
met_apart [] ys e = two refl e
met_apart (told zero p c ∷ xs) ys e = met_apart xs ys e
met_apart (told (suc k) p c ∷ xs) ys e = never cc

pub passes_all : (xs ys : List Answer) → first_met xs ≡ answer 0 0 → first_met (xs ++ ys) ≡ first_met ys
unfolding first_met
passes_all [] ys e = refl
passes_all (told zero p c ∷ xs) ys e = passes_all xs ys e
passes_all (told (suc k) p c ∷ xs) ys e = never cc

-- Where no refusal is met, place and column are 0.
pub met_nothing : (xs : List Answer) (place column : ℕ) → first_met xs ≡ told 0 place column → first_met xs ≡ answer 0 0
unfolding first_met
met_nothing [] place column e = refl
met_nothing (told zero p c ∷ xs) place column e = met_nothing xs place column e
met_nothing (told (suc k) p c ∷ xs) place column e = never cc

module _ {A : Type 0} (refusal : List A → A → ℕ) (place : List A → ℕ) where
  each_met :
      (before xs : List A) → first_met (each_of (λ b x. answer (refusal b x) (place b)) before xs) ≡ answer 0 0
      → Each (λ b x. refusal b x ≡ 0) (length xs) before xs
  unfolding each_of
  each_met before [] e = none_left
  each_met before (x ∷ xs) e =
      let p = met_first (refusal before x) (place before) (each_of (λ b y. answer (refusal b y) (place b)) (before ++ (x ∷ [])) xs) e in
      one_more p.one (each_met (before ++ (x ∷ [])) xs p.two)

  each_passes :
      {n : ℕ} {before xs : List A} → Each (λ b x. refusal b x ≡ 0) n before xs
      → first_met (each_of (λ b x. answer (refusal b x) (place b)) before xs) ≡ answer 0 0
  unfolding each_of first_met
  each_passes none_left = refl
  each_passes (one_more {before = before} {x = x} {xs = xs} g e) =
      passes (refusal before x) (place before) (each_of (λ b y. answer (refusal b y) (place b)) (before ++ (x ∷ [])) xs) g ∙
      each_passes e

-- Answers about lines further down: nothing is met in them if nothing is met in the lines.
moved_met : (n : ℕ) (xs : List Answer) → first_met (map (further_down n) xs) ≡ answer 0 0 → first_met xs ≡ answer 0 0
unfolding first_met further_down
moved_met n [] e = refl
moved_met n (told zero p c ∷ xs) e = moved_met n xs e
moved_met n (told (suc k) p c ∷ xs) e = never cc

met_moved : (n : ℕ) (xs : List Answer) → first_met xs ≡ answer 0 0 → first_met (map (further_down n) xs) ≡ answer 0 0
unfolding first_met further_down
met_moved n [] e = refl
met_moved n (told zero p c ∷ xs) e = met_moved n xs e
met_moved n (told (suc k) p c ∷ xs) e = never cc

-- Told with its own version and logic, which no line refuses.
pub lines_unrefused : (q : Request) → unit_refusal q.version q.logic ≡ 0 → first_met (line_answers q) ≡ answer 0 0 → Unrefused q
unfolding line_answers body_answers
lines_unrefused q u e =
    let v = met_first _ _ _ e in
    let a = met_first _ _ _ (moved_met (extra_lines q.version) (body_answers q) v.two) in
    let b = met_first _ _ _ a.two in
    let c = met_first _ _ _ b.two in
    let d = met_apart _ _ c.two in
    let f = met_first _ _ _ d.two in
    let g = met_apart _ _ f.two in
    let h = met_first _ _ _ g.two in
    let i = met_first _ _ _ h.two in
    let j = met_apart _ _ i.two in
    record {
      version = v.one;
      logic = u;
      principals = a.one;
      atoms = b.one;
      formulas = c.one;
      forms = each_met _ _ [] q.forms d.one;
      clauses = f.one;
      policy = each_met _ _ [] q.policy g.one;
      goal = h.one;
      step_count = i.one;
      steps = each_met _ _ [] q.steps j.one;
    }

pub unrefused_lines : (q : Request) → Unrefused q → first_met (line_answers q) ≡ answer 0 0
unfolding line_answers body_answers
unrefused_lines q g =
    passes _ _ _ g.version ∙
    met_moved (extra_lines q.version) (body_answers q)
    (passes _ _ _ g.principals ∙
    passes _ _ _ g.atoms ∙
    passes _ _ _ g.formulas ∙
    passes_all _ _ (each_passes _ _ g.forms) ∙
    passes _ _ _ g.clauses ∙
    passes_all _ _ (each_passes _ _ g.policy) ∙
    passes _ _ _ g.goal ∙
    passes _ _ _ g.step_count ∙
    passes_all _ _ (each_passes _ _ g.steps) ∙
    nothing_met)
