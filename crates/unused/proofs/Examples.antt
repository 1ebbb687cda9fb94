-- P1 of document 01 with a fourth line that no step uses; the same with another such line, and its formulas numbered anew; and two changes
-- that do sway the answer.
use Rattle.std.specs.Prelude.{ℕ, zero, suc, ◌<◌, ◌≡◌, refl, List, [], ◌∷◌}
use Rattle.std.proofs.Common.{sym, ◌∙◌, arith}
use Rattle.scope.specs.Call.Answer.{answer}
use Rattle.scope.specs.Logic.Facts.{plain}
use Rattle.scope.specs.File.Request.{Row, Request}
use Rattle.scope.specs.Logic.Form.{is_sf}
use Rattle.scope.specs.Call.Judge.{goal_of, steps_of, steps_answer}
use Rattle.unused.specs.Alike.{Used, later, policy_line, LineAlike, same, unused, Alike}
use Rattle.unused.proofs.Statements.{same_answer}

abbrev row : ℕ → ℕ → ℕ → Row
row k l r = record { kind = k; left = l; right = r }

-- P1: p0 under steps use 0, to 0, hit, says, use 2, to 1, hit.
abbrev p1 : List Row → List ℕ → ℕ → Request
p1 forms lines goal =
    record {
      version = 1;
      logic = plain;
      principals = 2;
      atoms = 1;
      forms = forms;
      policy = lines;
      goal = goal;
      steps = row 7 0 0 ∷ row 10 0 0 ∷ row 11 0 0 ∷ row 4 0 0 ∷ row 7 2 0 ∷ row 10 1 0 ∷ row 11 0 0 ∷ [];
    }

-- Formulas 0 to 5: p0, 0 says p0, (0 says p0) imp p0, 1 sf 0, 1 says p0, 0 sf 1.
abbrev our_forms : List Row
our_forms = row 0 0 0 ∷ row 6 0 0 ∷ row 5 1 0 ∷ row 7 1 0 ∷ row 6 1 0 ∷ row 7 0 1 ∷ []

-- The fourth line is p0.
abbrev ours : Request
ours = p1 our_forms (2 ∷ 3 ∷ 4 ∷ 0 ∷ []) 0

-- The fourth line is 0 says top. Formulas 0 to 6: top, 0 says top, p0, 0 says p0, (0 says p0) imp p0, 1 sf 0, 1 says p0.
abbrev theirs : Request
theirs = p1 (row 1 0 0 ∷ row 6 0 0 ∷ row 0 0 0 ∷ row 6 0 2 ∷ row 5 3 2 ∷ row 7 1 0 ∷ row 6 1 2 ∷ []) (4 ∷ 5 ∷ 6 ∷ 1 ∷ []) 2

three_unused : ¬ Used 3 (steps_of ours)
unfolding steps_of
three_unused (later (later (later (later (later (later (later u))))))) = elim u [ ]

line : (i : ℕ) → i < 4 → LineAlike ours theirs i
unfolding policy_line is_sf
line zero b = same refl
line (suc zero) b = same refl
line (suc (suc zero)) b = same refl
line (suc (suc (suc zero))) b = unused refl refl three_unused
line (suc (suc (suc (suc i)))) b = absurd (omega arith)

pub ours_theirs : Alike ours theirs
unfolding goal_of steps_of
ours_theirs = record { logic = refl; principals = refl; atoms = refl; count = refl; policy = line; goal = refl; steps = refl }

pub ours_granted : steps_answer ours ≡ answer 0 0
unfolding steps_answer
ours_granted = refl

pub theirs_granted : steps_answer theirs ≡ answer 0 0
theirs_granted = sym (same_answer ours theirs ours_theirs) ∙ ours_granted

-- Another line in the place of one that `use 2` names: p0 for 1 says p0.
pub used_sways : steps_answer (p1 our_forms (2 ∷ 3 ∷ 0 ∷ 0 ∷ []) 0) ≡ answer 7 6
unfolding steps_answer
used_sways = refl

-- Another `sf`: 0 sf 1 for 1 sf 0, as in P2.
pub sf_sways : steps_answer (p1 our_forms (2 ∷ 5 ∷ 4 ∷ 0 ∷ []) 0) ≡ answer 9 6
unfolding steps_answer
sf_sways = refl
