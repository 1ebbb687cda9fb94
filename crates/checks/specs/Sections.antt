-- The answers about the things of a table: as many as there are things, and answer i is that about thing i.
use Rattle.std.specs.Prelude.{ℕ, zero, suc, ◌+◌, ◌*◌, ◌<◌, ◌≤◌, ◌≡◌, refl, List, [], ◌∷◌, ◌++◌, Bool, true, false, length, get_or, take, drop, ltb, eqb}
use Rattle.std.proofs.Common.{not-suc-le-zero, le_of_suc-le-suc, arith, ap, sym, ◌∙◌, append-nil, append_assoc, drop_of_length-le, drop-cons, add-one, ne_eqb}
use Rattle.std.specs.List.{list_all}
use Rattle.scope.specs.File.Request.{Row}
use Rattle.scope.specs.Call.Answer.{Answer, answer}
use Rattle.scope.specs.Limits.{form_at, clause_at, step_at}
use Rattle.scope.specs.Tools.Tests.{demand_both}
use Rattle.scope.specs.File.Refusals.{demand, form_refusal, step_refusal}
use Rattle.scope.specs.Call.Checked.{each_of, all_zero, past_zero}
use Rattle.scope.specs.Call.Tables.{Lent, Entry, unpack, form_entry, policy_entry, step_entry}
use Rattle.classes.specs.declared.Class.{Class}
use Rattle.classes.specs.Class.{no_class, policy_in}
use Rattle.classes.specs.Rows.{unpack_at, unpack_before, unpack_length, number_at, form_row, form_row_lem}
use Rattle.checks.specs.MetLaws.{answer_at}
use Rattle.refusals.specs.Rows.{class_refusal}
use Rattle.checks.specs.Answers.{form_answer, form_answers, policy_answers, step_answers}

each_length : {A : Type 0} (about : List A → A → Answer) (before xs : List A) → length (each_of about before xs) ≡ length xs
unfolding each_of
each_length about before [] = refl
each_length about before (x ∷ xs) = ap suc (each_length about (before ++ (x ∷ [])) xs)

each_at : {A : Type 0} (about : List A → A → Answer) (before xs : List A) (i : ℕ) (d : A) → i < length xs →
    answer_at (each_of about before xs) i ≡ about (before ++ take i xs) (get_or xs i d)
unfolding each_of
each_at about before [] i d h = absurd (not-suc-le-zero h)
each_at about before (x ∷ xs) zero d h = ap (λ b. about b x) (sym (append-nil before))
each_at about before (x ∷ xs) (suc i) d h =
    each_at about (before ++ (x ∷ [])) xs i d (le_of_suc-le-suc h) ∙
    ap (λ b. about b (get_or xs i d)) (append_assoc before (x ∷ []) (take i xs))

module _ {A : Type 0} (e : Entry A) (about : List A → A → Answer) (n : ℕ) (t : List ℕ) where
  abbrev pub section : List Answer
  section = each_of about [] (unpack e n t)

  pub section_length : length section ≡ n
  section_length = each_length about [] (unpack e n t) ∙ unpack_length e n t

  -- Answer i is about thing i behind the i things before it.
  pub section_at : (i : ℕ) → i < n → answer_at section i ≡ about (unpack e i t) (e.get (take e.width (drop (e.width * i) t)))
  section_at i h =
      let x = e.get [] in
      let k : i < length (unpack e n t) = rw (unpack_length e n t) h in
      each_at about [] (unpack e n t) i x k ∙
      ap (λ b. about b (get_or (unpack e n t) i x)) (unpack_before e n t i (omega arith)) ∙
      ap (about (unpack e i t)) (unpack_at e n t i x h)

-- The three sections.
pub forms_length : (p a n : ℕ) (t : List ℕ) → length (form_answers p a (unpack form_entry n t)) ≡ n
unfolding form_answers
forms_length p a n t = section_length form_entry (form_answer p a) n t

pub form_at_lem : (p a n : ℕ) (t : List ℕ) (i : ℕ) → i < n →
    answer_at (form_answers p a (unpack form_entry n t)) i ≡ answer (form_refusal p a (unpack form_entry i t) (form_row t i)) (form_at i)
unfolding form_answers
form_at_lem p a n t i h =
    section_at form_entry (form_answer p a) n t i h ∙ ap (form_answer p a (unpack form_entry i t)) (form_row_lem t i) ∙
    ap (λ m. answer (form_refusal p a (unpack form_entry i t) (form_row t i)) (form_at m)) (unpack_length form_entry i t)

pub lines_length : (cs : List Class) (m n : ℕ) (t : List ℕ) → length (policy_answers cs m (unpack policy_entry n t)) ≡ n
unfolding policy_answers
lines_length cs m n t = section_length policy_entry (λ b f. answer (class_refusal policy_in no_class cs m f) (clause_at m (length b))) n t

pub line_at : (cs : List Class) (m n : ℕ) (t : List ℕ) (i : ℕ) → i < n →
    answer_at (policy_answers cs m (unpack policy_entry n t)) i ≡ answer (class_refusal policy_in no_class cs m (get_or t i 0)) (clause_at m i)
unfolding policy_answers
line_at cs m n t i h =
    section_at policy_entry (λ b f. answer (class_refusal policy_in no_class cs m f) (clause_at m (length b))) n t i h ∙
    ap (λ (j : ℕ). answer (class_refusal policy_in no_class cs m (policy_entry.get (take 1 (drop (1 * i) t)))) (clause_at m j)) (unpack_length policy_entry i t) ∙
    ap (λ (f : ℕ). answer (class_refusal policy_in no_class cs m f) (clause_at m i)) (number_at t 1 i 0 i (omega arith) (omega arith))

abbrev pub step_row : List ℕ → ℕ → Row
step_row t i = record { kind = get_or t (2 * i) 0; left = get_or t (2 * i + 1) 0; right = 0 }

pub step_row_lem : (t : List ℕ) (i : ℕ) → step_entry.get (take 2 (drop (2 * i) t)) ≡ step_row t i
step_row_lem t i =
    λ j.
    record {
      kind = number_at t 2 i 0 (2 * i) (omega arith) (omega arith) j;
      left = number_at t 2 i 1 (2 * i + 1) (omega arith) (omega arith) j;
      right = 0;
    }

pub steps_length : (m l n : ℕ) (t : List ℕ) → length (step_answers m l (unpack step_entry n t)) ≡ n
unfolding step_answers
steps_length m l n t = section_length step_entry (λ b r. answer (step_refusal r) (step_at m l (suc (length b)))) n t

pub step_at_lem : (m l n : ℕ) (t : List ℕ) (i : ℕ) → i < n →
    answer_at (step_answers m l (unpack step_entry n t)) i ≡ answer (step_refusal (step_row t i)) (step_at m l (suc i))
unfolding step_answers
step_at_lem m l n t i h =
    section_at step_entry (λ b r. answer (step_refusal r) (step_at m l (suc (length b)))) n t i h ∙
    ap (λ (j : ℕ). answer (step_refusal (step_entry.get (take 2 (drop (2 * i) t)))) (step_at m l (suc j))) (unpack_length step_entry i t) ∙
    ap (λ (r : Row). answer (step_refusal r) (step_at m l (suc i))) (step_row_lem t i)

-- A table's zeros, one entry more.
pub zeros_more : (t : List ℕ) (i : ℕ) → i < length t → get_or t i 0 ≡ 0 → all_zero (drop i t) ≡ all_zero (drop (i + 1) t)
unfolding all_zero
zeros_more t i h e = rw (add-one, drop-cons t i 0) (rw e refl)

pub zeros_stop : (t : List ℕ) (i : ℕ) → i < length t → (get_or t i 0 ≡ 0 → ⊥) → all_zero (drop i t) ≡ false
unfolding all_zero
zeros_stop t i h e = rw (drop-cons t i 0) (rw (ne_eqb (get_or t i 0) 0 e) refl)

pub zeros_end : (t : List ℕ) (i : ℕ) → length t ≤ i → all_zero (drop i t) ≡ true
unfolding all_zero
zeros_end t i h = rw (drop_of_length-le t h) refl

pub zeros_all : (t : List ℕ) → list_all (λ x. eqb x 0) t ≡ all_zero t
unfolding all_zero
zeros_all [] = refl
zeros_all (zero ∷ t) = zeros_all t
zeros_all (suc n ∷ t) = refl

-- The three tables past their counts, one after the other.
pub past_three : (t : Lent) →
    demand (past_zero t) 3 0 ≡
    demand (list_all (λ n. eqb n 0) (drop (3 * t.formulas) t.form_table)) 3
    (demand (list_all (λ n. eqb n 0) (drop t.policy t.policy_table)) 3
    (demand (list_all (λ n. eqb n 0) (drop (2 * t.steps) t.step_table)) 3 0))
unfolding past_zero
past_three t = rw (zeros_all (drop (3 * t.formulas) t.form_table), zeros_all (drop t.policy t.policy_table), zeros_all (drop (2 * t.steps) t.step_table), demand_both, demand_both) refl

-- The three tables past their counts, the last asked first.
pub past_asked : (t : Lent) {steps policy forms : Bool} {k m r : ℕ} →
    steps ≡ all_zero (drop (2 * t.steps) t.step_table) → k ≡ demand steps 3 0 →
    policy ≡ all_zero (drop t.policy t.policy_table) → m ≡ demand policy 3 k →
    forms ≡ all_zero (drop (3 * t.formulas) t.form_table) → r ≡ demand forms 3 m →
    r ≡ demand (past_zero t) 3 0
unfolding past_zero
past_asked t s k l m f r = rw (demand_both, demand_both) (rw (s, l, f) at (r ∙ ap (demand _ 3) (m ∙ ap (demand _ 3) k)))

-- A formula that a line names: its classes, the test of them, and the two demands.
pub class_asked : {C : Type 0} (test : C → Bool) (none : C) (cs : List C) (n f : ℕ) {class : C} {k r : ℕ} {asked : Bool} →
    class ≡ get_or cs f none → asked ≡ test class → k ≡ demand asked 5 0 → r ≡ demand (ltb f n) 3 k → r ≡ class_refusal test none cs n f
unfolding class_refusal
class_asked test none cs n f c a k r = r ∙ ap (demand (ltb f n) 3) (k ∙ ap (λ (b : Bool). demand b 5 0) (a ∙ ap test c))
