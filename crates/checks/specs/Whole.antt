-- The checks of document 01 over lent tables, part by part: room, logic and version; counts and formulas, policy lines, goal and steps, which
-- stand further down in version 2; and what is past the counts.
use Rattle.std.specs.Prelude.{ℕ, ◌≤◌, ◌<◌, ◌≡◌, refl, List, [], ◌∷◌, ◌++◌, Err, map, Bool, true, false, length, get_or, leb, ltb}
use Rattle.std.proofs.Common.{arith, ap, sym, ◌∙◌, append_assoc, append-nil, ltb-true, leb-true}
use Rattle.scope.specs.Logic.Form.{both}
use Rattle.scope.specs.File.Request.{goal_class, policy_class}
use Rattle.scope.specs.Call.Answer.{Answer, answer, further_down}
use Rattle.scope.specs.Limits.{extra_lines, clauses_at, clause_at, goal_at, steps_at, most_formulas}
use Rattle.scope.specs.File.Refusals.{demand, count_refusal, principals_refusal, atoms_refusal, formulas_refusal, clauses_refusal, clause_refusal, goal_refusal, steps_refusal}
use Rattle.scope.specs.Call.Checked.{each_of, first_met, body_answers, line_answers, past_zero, checked}
use Rattle.scope.specs.Call.Tables.{Lent, unpack, form_entry, policy_entry, step_entry, request_of}
use Rattle.classes.specs.declared.Class.{Class}
use Rattle.classes.specs.Class.{no_class, goal_in, policy_in, class_table}
use Rattle.classes.specs.Rows.{unpack_length}
use Rattle.classes.specs.Laws.{goal_at_lem, policy_at}
use Rattle.common.specs.declared.refused.Answer.{Answer as Returned}
use Rattle.checks.specs.Met.{Checked, Fine, answer_in, checked_of, met_in, down_of}
use Rattle.checks.specs.MetLaws.{first_answer, met_down, met_stop, met_go, met_front, met_back, met_one, fine_none}
use Rattle.refusals.specs.Rows.{class_refusal}
use Rattle.checks.specs.Answers.{head_answers, count_answers, form_answers, policy_answers, goal_answers, step_answers}

-- What is asked first: the room, the logic with its version, and the version.
abbrev pub head_part : Lent → List Answer
head_part t = head_answers (length t.form_table) (length t.policy_table) (length t.step_table) t.version t.logic

-- The lines from `principals=` on, as version 1 counts them, and where they stand.
abbrev pub body_part : Lent → List Answer
body_part t = body_answers (request_of t)

abbrev pub down_part : Lent → List Answer
down_part t = map (further_down (extra_lines t.version)) (body_part t)

-- The counts of principals, atoms and formulas, and the formulas.
abbrev pub form_part : Lent → List Answer
form_part t = count_answers t.principals t.atoms t.formulas ++ form_answers t.principals t.atoms (unpack form_entry t.formulas t.form_table)

-- The count of policy lines, and those lines.
abbrev pub line_part : Lent → List Class → List Answer
line_part t classes =
    (answer (clauses_refusal t.policy) (clauses_at t.formulas) ∷ []) ++ policy_answers classes t.formulas (unpack policy_entry t.policy t.policy_table)

-- The goal, the count of steps, and the steps.
abbrev pub step_part : Lent → List Class → List Answer
step_part t classes =
    goal_answers classes t.formulas t.policy t.goal t.steps ++ step_answers t.formulas t.policy (unpack step_entry t.steps t.step_table)

-- What is past the counts.
abbrev pub past_part : Lent → List Answer
past_part t = answer (demand (past_zero t) 3 0) 0 ∷ []

-- What document 01 asks after the formulas, where n formulas, l policy lines and s steps are counted.
later_at : Lent → ℕ → ℕ → ℕ → List Answer
later_at t n l s =
    let forms = unpack form_entry t.formulas t.form_table in
    (answer (clauses_refusal l) (clauses_at n) ∷ []) ++
    (each_of (λ before f. answer (clause_refusal forms f) (clause_at n (length before))) [] (unpack policy_entry t.policy t.policy_table) ++
    ((answer (goal_refusal forms t.goal) (goal_at n l) ∷ answer (steps_refusal s) (steps_at n l) ∷ []) ++
    step_answers n l (unpack step_entry t.steps t.step_table)))

pub later : Lent → List Answer
later t = later_at t t.formulas t.policy t.steps

whole_at : Lent → ℕ → ℕ → ℕ → List Answer
whole_at t n l s =
    (count_answers t.principals t.atoms n ++ form_answers t.principals t.atoms (unpack form_entry t.formulas t.form_table)) ++
    later_at t n l s

regroup : (a f c p g s : List Answer) → a ++ (f ++ (c ++ (p ++ (g ++ (s ++ []))))) ≡ (a ++ f) ++ (c ++ (p ++ (g ++ s)))
regroup a f c p g s = simp (append_assoc, append-nil)

as_listed : (t : Lent) →
    body_part t ≡
    whole_at t (length (unpack form_entry t.formulas t.form_table)) (length (unpack policy_entry t.policy t.policy_table))
    (length (unpack step_entry t.steps t.step_table))
unfolding request_of body_answers count_answers form_answers step_answers whole_at later_at
as_listed t =
    let forms = unpack form_entry t.formulas t.form_table in
    let n = length forms in
    let l = length (unpack policy_entry t.policy t.policy_table) in
    regroup (count_answers t.principals t.atoms n) (form_answers t.principals t.atoms forms)
    (answer (clauses_refusal l) (clauses_at n) ∷ [])
    (each_of (λ before f. answer (clause_refusal forms f) (clause_at n (length before))) [] (unpack policy_entry t.policy t.policy_table))
    (answer (goal_refusal forms t.goal) (goal_at n l) ∷ answer (steps_refusal (length (unpack step_entry t.steps t.step_table))) (steps_at n l) ∷ [])
    (step_answers n l (unpack step_entry t.steps t.step_table))

as_counted : (t : Lent) → body_part t ≡ whole_at t t.formulas t.policy t.steps
as_counted t =
    as_listed t ∙
    ap (λ (n : ℕ). whole_at t n (length (unpack policy_entry t.policy t.policy_table)) (length (unpack step_entry t.steps t.step_table)))
    (unpack_length form_entry t.formulas t.form_table) ∙
    ap (λ (l : ℕ). whole_at t t.formulas l (length (unpack step_entry t.steps t.step_table)))
    (unpack_length policy_entry t.policy t.policy_table) ∙
    ap (λ (s : ℕ). whole_at t t.formulas t.policy s) (unpack_length step_entry t.steps t.step_table)

pub body_parts : (t : Lent) → body_part t ≡ form_part t ++ later t
unfolding whole_at later later_at
body_parts t = as_counted t

asked_parts : (t : Lent) → checked t ≡ first_met (head_part t ++ (down_part t ++ past_part t))
unfolding checked head_answers line_answers request_of
asked_parts t = refl

pub checked_parts : (t : Lent) → checked_of (checked t) ≡ met_in (head_part t ++ (down_part t ++ past_part t))
unfolding met_in
checked_parts t = ap checked_of (asked_parts t)

-- The code's answer says all that document 01's does.
pub checked_answer : (t : Lent) → answer_in (checked_of (checked t)) ≡ checked t
unfolding met_in
checked_answer t =
    ap (λ (a : Answer). answer_in (checked_of a)) (asked_parts t) ∙ first_answer (head_part t ++ (down_part t ++ past_part t)) ∙ sym (asked_parts t)

-- The class of a formula below the count, from its classes.
class_go : (b : Bool) (test : Class → Bool) (classes : List Class) (n f : ℕ) (class : Bool) → ltb f n ≡ b →
    (f < n → test (get_or classes f no_class) ≡ class) → demand b 3 (demand class 5 0) ≡ demand b 3 (demand (test (get_or classes f no_class)) 5 0)
unfolding demand
class_go true test classes n f class e h = ap (λ (c : Bool). demand c 5 0) (sym (h (ltb-true f n e)))
class_go false test classes n f class e h = refl

clause_refusal_lem : (t : List ℕ) (n f : ℕ) → n ≤ most_formulas →
    clause_refusal (unpack form_entry n t) f ≡ class_refusal policy_in no_class (class_table t n) n f
unfolding clause_refusal class_refusal
clause_refusal_lem t n f h =
    rw (unpack_length form_entry n t)
    (class_go (ltb f n) policy_in (class_table t n) n f (policy_class (unpack form_entry n t) f) refl (policy_at t n f h))

goal_refusal_lem : (t : List ℕ) (n f : ℕ) → n ≤ most_formulas →
    goal_refusal (unpack form_entry n t) f ≡ class_refusal goal_in no_class (class_table t n) n f
unfolding goal_refusal class_refusal
goal_refusal_lem t n f h =
    rw (unpack_length form_entry n t)
    (class_go (ltb f n) goal_in (class_table t n) n f (goal_class (unpack form_entry n t) f) refl (goal_at_lem t n f h))

pub later_parts : (t : Lent) → t.formulas ≤ most_formulas →
    later t ≡ line_part t (class_table t.form_table t.formulas) ++ step_part t (class_table t.form_table t.formulas)
unfolding later later_at policy_answers goal_answers
later_parts t h =
    let n = t.formulas in
    let forms = unpack form_entry n t.form_table in
    let classes = class_table t.form_table n in
    ap (λ (line : ℕ → ℕ). asked t line (goal_refusal forms t.goal)) (λ i f. clause_refusal_lem t.form_table n f h i) ∙
    ap (λ (goal : ℕ). asked t (class_refusal policy_in no_class classes n) goal) (goal_refusal_lem t.form_table n t.goal h)
  where
    asked : Lent → (ℕ → ℕ) → ℕ → List Answer
    asked t line goal =
        (answer (clauses_refusal t.policy) (clauses_at t.formulas) ∷ []) ++
        (each_of (λ before f. answer (line f) (clause_at t.formulas (length before))) [] (unpack policy_entry t.policy t.policy_table) ++
        ((answer goal (goal_at t.formulas t.policy) ∷ answer (steps_refusal t.steps) (steps_at t.formulas t.policy) ∷ []) ++
        step_answers t.formulas t.policy (unpack step_entry t.steps t.step_table)))

count_go : (b c : Bool) → demand (both b c) 3 0 ≡ 0 → c ≡ true
unfolding demand both
count_go true true e = refl
count_go true false e = let z : ◌≡◌ {A = ℕ} 0 1 = omega arith in absurd (omega arith)
count_go false c e = absurd (omega arith)

pub formulas_within : (t : Lent) → met_in (form_part t) ≡ Fine → t.formulas ≤ most_formulas
unfolding count_answers count_refusal
formulas_within t e =
    let counts = met_front (count_answers t.principals t.atoms t.formulas) (form_answers t.principals t.atoms (unpack form_entry t.formulas t.form_table)) e in
    let fine : met_in (answer (formulas_refusal t.formulas) 4 ∷ []) ≡ Fine =
    met_back (answer (principals_refusal t.principals) 2 ∷ answer (atoms_refusal t.atoms) 3 ∷ []) (answer (formulas_refusal t.formulas) 4 ∷ []) counts in
    let none = fine_none (formulas_refusal t.formulas) 4 (sym (met_one (answer (formulas_refusal t.formulas) 4)) ∙ fine) in
    leb-true t.formulas most_formulas (count_go (leb 1 t.formulas) (leb t.formulas most_formulas) none)

-- A part of one answer.
pub past_met : (t : Lent) (g : Checked) → g ≡ checked_of (answer (demand (past_zero t) 3 0) 0) → g ≡ met_in (past_part t)
past_met t g e = e ∙ sym (met_one (answer (demand (past_zero t) 3 0) 0))

-- Part by part: a part's refusal is the answer, where the parts before it are fine. Of the lines,
module _ (t : Lent) (forms : Checked) (formed : forms ≡ met_in (form_part t)) where
  pub forms_stop : (r : Returned) → forms ≡ Err r → forms ≡ met_in (body_part t)
  forms_stop r e = met_stop (form_part t) (later t) forms r formed e ∙ ap met_in (sym (body_parts t))

  pub after_forms : forms ≡ Fine →
      met_in (line_part t (class_table t.form_table t.formulas) ++ step_part t (class_table t.form_table t.formulas)) ≡ met_in (body_part t)
  after_forms e =
      ap met_in (sym (later_parts t (formulas_within t (sym formed ∙ e)))) ∙
      met_go (form_part t) (later t) forms formed e ∙
      ap met_in (sym (body_parts t))

-- and of the whole, where the answer about the lines is moved to where they stand.
module _ (t : Lent) (head : Checked) (headed : head ≡ met_in (head_part t)) where
  pub head_stop : (r : Returned) → head ≡ Err r → head ≡ checked_of (checked t)
  head_stop r e = met_stop (head_part t) (down_part t ++ past_part t) head r headed e ∙ sym (checked_parts t)

  module _ (fine : head ≡ Fine) (body down : Checked) (bodied : body ≡ met_in (body_part t)) (moved : down ≡ down_of (extra_lines t.version) body) where
    down_met : down ≡ met_in (down_part t)
    down_met = moved ∙ ap (down_of (extra_lines t.version)) bodied ∙ met_down (extra_lines t.version) (body_part t)

    pub down_stop : (r : Returned) → down ≡ Err r → down ≡ checked_of (checked t)
    down_stop r e =
        met_stop (down_part t) (past_part t) down r down_met e ∙ met_go (head_part t) (down_part t ++ past_part t) head headed fine ∙ sym (checked_parts t)

    pub after_down : down ≡ Fine → met_in (past_part t) ≡ checked_of (checked t)
    after_down e =
        met_go (down_part t) (past_part t) down down_met e ∙ met_go (head_part t) (down_part t ++ past_part t) head headed fine ∙ sym (checked_parts t)
