-- The loop over the rows of formulas: the first i answers are fine, and the slots keep the first i rows.
use Rattle.std.specs.Prelude.{ℕ, ◌+◌, ◌<◌, ◌≤◌, ◌≡◌, List, [], ◌∷◌, leb, replicate}
use Rattle.std.proofs.Common.{arith, add-one, sym, ◌∙◌, leb-true}
use Rattle.std.proofs.Math.Path.{ap}
use Rattle.scope.specs.Call.Answer.{answer}
use Rattle.scope.specs.Call.Tables.{unpack, form_entry}
use Rattle.scope.specs.File.Kinds.{form_kinds}
use Rattle.scope.specs.File.Refusals.{demand, count_refusal, principals_refusal, atoms_refusal, formulas_refusal, row_refusal, is_among, first_of, form_refusal}
use Rattle.scope.specs.Logic.Form.{both, negate}
use Rattle.scope.specs.Tools.Tests.{both_true, demand_met}
use Rattle.scope.specs.Limits.{most_formulas, principals_at, atoms_at, formulas_at, form_at}
use Rattle.classes.specs.Rows.{form_row, form_rows, unpack_length}
use Rattle.numbering.specs.Slots.{most_slots, place_in, kept_at, earlier_at}
use Rattle.numbering.specs.Numbered.{Numbered, numbered_none}
use Rattle.numbering.specs.Refused.{repeat_refusal, repeat_told, neither_refused}
use Rattle.numbering.proofs.Refused.{fresh_kept}
use Rattle.checks.specs.Met.{Checked, Fine, checked_of, met_in}
use Rattle.checks.specs.MetLaws.{Passed, passed_none, Turn, turn_of, turn_go, met_one, met_back, fine_none}
use Rattle.checks.specs.Answers.{count_answers, form_answers}
use Rattle.checks.specs.Sections.{forms_length, form_at_lem}

-- Counts that pass are few enough for the slots.
pub few_formulas : (p a n : ℕ) → met_in (count_answers p a n) ≡ Fine → n ≤ most_formulas
unfolding count_answers count_refusal
few_formulas p a n e =
    let last : met_in (answer (formulas_refusal n) formulas_at ∷ []) ≡ Fine =
    met_back (answer (principals_refusal p) principals_at ∷ answer (atoms_refusal a) atoms_at ∷ []) (answer (formulas_refusal n) formulas_at ∷ []) e in
    let none = fine_none (formulas_refusal n) formulas_at (sym (met_one (answer (formulas_refusal n) formulas_at)) ∙ last) in
    let range = demand_met (both (leb 1 n) (leb n most_formulas)) 2 0 none in
    leb-true n most_formulas (both_true (leb 1 n) (leb n most_formulas) range.0).1

pub record FormsPassed (p a n : ℕ) (t slots : List ℕ) (i : ℕ) : Type 0 where
  pub passed : Passed n (form_answers p a (unpack form_entry n t)) i
  pub keeps : Numbered t i slots

pub forms_none : (p a n : ℕ) (t : List ℕ) → FormsPassed p a n t (replicate most_slots 0) 0
forms_none p a n t = record { passed = passed_none (forms_length p a n t); keeps = numbered_none t }

-- What the code asks of row i, by its numbers and by the slots.
abbrev pub asked : ℕ → ℕ → List ℕ → List ℕ → ℕ → ℕ
asked p a t slots i =
    first_of (row_refusal form_kinds p a i (form_row t i)) (repeat_refusal (earlier_at (place_in t slots (form_row t i))))

module _ (p a n : ℕ) (t slots : List ℕ) (i : ℕ) (f : FormsPassed p a n t slots i) (h : i < n) (g : Checked)
    (gave : g ≡ checked_of (answer (asked p a t slots i) (form_at i))) where
  asked_is : asked p a t slots i ≡ form_refusal p a (unpack form_entry i t) (form_row t i)
  unfolding form_refusal
  asked_is =
      ap (first_of (row_refusal form_kinds p a i (form_row t i))) (repeat_told t i slots f.keeps (form_row t i)) ∙
      ap
      (λ (m : ℕ). first_of (row_refusal form_kinds p a m (form_row t i)) (demand (negate (is_among (form_row t i) (unpack form_entry i t))) 15 0))
      (sym (unpack_length form_entry i t))

  pub form_turn : Turn n (form_answers p a (unpack form_entry n t)) i g
  form_turn = turn_of h f.passed (form_at_lem p a n t i h) (gave ∙ ap (λ (k : ℕ). checked_of (answer k (form_at i))) asked_is)

  pub forms_more : n ≤ most_formulas → g ≡ Fine → FormsPassed p a n t (kept_at (place_in t slots (form_row t i)) i slots) (i + 1)
  forms_more few fine =
      let none = neither_refused _ _ (fine_none (asked p a t slots i) (form_at i) (sym gave ∙ fine)) in
      record {
        passed = turn_go form_turn fine;
        keeps = rw (add-one i) (fresh_kept t i slots f.keeps (form_row t i) none.1 t (omega arith) (form_rows t i));
      }
