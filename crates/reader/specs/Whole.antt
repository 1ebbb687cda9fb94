-- The whole file from its sections, and what is left of the text behind each. The lines from `principals=` on are read without version and
-- logic, which stand as 0 and plain until they are told.
use Rattle.std.specs.Prelude.{ℕ, suc, ◌≡◌, refl, List, [], ◌∷◌, Bool, true, false, cond, length}
use Rattle.std.proofs.Common.{sym, ap, ◌∙◌}
use Rattle.scope.specs.Call.Result.{result, refused}
use Rattle.scope.specs.Logic.Facts.{Logic, plain}
use Rattle.scope.specs.Call.Answer.{Answer, answer, further_down}
use Rattle.scope.specs.File.Request.{Row, Request}
use Rattle.scope.specs.File.Line.{Read, ok, bad, Reader, line, many, counted, done, and_then, moved_down, further, ◌>>=◌}
use Rattle.scope.specs.File.Refusals.{version_refusal, principals_refusal, atoms_refusal, formulas_refusal, form_refusal, clauses_refusal, clause_refusal, goal_refusal, steps_refusal, step_refusal}
use Rattle.scope.specs.Limits.{version_at, has_logic, logic_at, extra_lines, principals_at, atoms_at, formulas_at, form_at, clauses_at, clause_at, goal_at, steps_at, step_at, end_at}
use Rattle.scope.specs.File.Text.{version_line, logic_line, principals_line, atoms_line, formulas_line, form_line, clauses_line, clause_line, goal_line, steps_line, step_line}
use Rattle.scope.specs.File.Reader.{form_item, clause_item, step_item, body_lines, read_logic, request_lines, Outcome, ended, read_request}
use Rattle.reader.specs.Sections.{Told, Formulas, PolicyRead, start_part, head_part, formulas_part, policy_part, steps_part}
use Rattle.reader.specs.Many.{Ends, done_ends, line_ends, seq_ends, many_ends}

after_assoc : {A B C : Type 0} (r : Read A) (f : A → Reader B) (g : B → Reader C) → and_then (and_then r f) g ≡ and_then r (λ a s. and_then (f a s) g)
unfolding and_then
after_assoc (ok a s) f g = refl
after_assoc (bad z) f g = refl

after_done : {A : Type 0} (r : Read A) → and_then r (λ a. done a) ≡ r
unfolding and_then
after_done (ok a s) = refl
after_done (bad z) = refl

abbrev pub request_with : Formulas → PolicyRead → List Row → Request
request_with f p steps =
    record { version = 0; logic = plain; principals = f.principals; atoms = f.atoms; forms = f.forms; policy = p.policy; goal = p.goal; steps = steps }

unfoldable pub sections : Reader Request
unfolding formulas_part policy_part steps_part ◌>>=◌
sections = do
  f ← formulas_part
  p ← policy_part f.forms
  steps ← steps_part (length f.forms) (length p.policy)
  done (request_with f p steps)

-- What follows the formulas, and what follows the policy.
abbrev steps_then : Formulas → PolicyRead → Reader Request
steps_then f p s = and_then (steps_part (length f.forms) (length p.policy) s) (λ steps. done (request_with f p steps))

abbrev policy_then : Formulas → Reader Request
policy_then f s =
    and_then (counted clauses_line clauses_refusal (clauses_at (length f.forms)) (clause_item f.forms) s)
    (λ policy t. and_then (line goal_line (goal_refusal f.forms) (goal_at (length f.forms) (length policy)) t)
    (λ goal. steps_then f record { policy = policy; goal = goal }))

policy_then_lem : (f : Formulas) (s : List ℕ) → and_then (policy_part f.forms s) (steps_then f) ≡ policy_then f s
unfolding policy_part counted ◌>>=◌ and_then
policy_then_lem f s = simp after_assoc

formulas_then : {B : Type 0} (g : Formulas → Reader B) (s : List ℕ) → and_then (formulas_part s) g
    ≡ and_then (line principals_line principals_refusal principals_at s)
    (λ principals s₂. and_then (line atoms_line atoms_refusal atoms_at s₂)
    (λ atoms s₃. and_then (line formulas_line formulas_refusal formulas_at s₃)
    (λ n s₄. and_then (many (form_item principals atoms) n [] s₄) (λ forms. g record { principals = principals; atoms = atoms; forms = forms }))))
unfolding formulas_part head_part ◌>>=◌ and_then
formulas_then g s = simp after_assoc

pub body_sections : (s : List ℕ) → body_lines 0 plain s ≡ sections s
unfolding body_lines sections counted ◌>>=◌ and_then
body_sections s =
    sym
    ((λ i. and_then (formulas_part s) (λ f t. policy_then_lem f t i)) ∙
    formulas_then policy_then s ∙
    (λ i. and_then (line principals_line principals_refusal principals_at s)
    (λ principals s₂. and_then (line atoms_line atoms_refusal atoms_at s₂)
    (λ atoms s₃. sym (after_assoc (line formulas_line formulas_refusal formulas_at s₃) (λ n. many (form_item principals atoms) n [])
    (λ forms. policy_then record { principals = principals; atoms = atoms; forms = forms })) i))))

-- What the lines from `principals=` on come to, and with version and logic told.
unfoldable pub body_ended : Read Request → Outcome
body_ended (ok q []) = result q
body_ended (ok q (b ∷ rest)) = refused (answer 6 (end_at (length q.forms) (length q.policy) (length q.steps)))
body_ended (bad a) = refused a

unfoldable pub body_request : List ℕ → Outcome
unfolding body_ended
body_request s = body_ended (body_lines 0 plain s)

abbrev pub headed : ℕ → Logic → Request → Request
headed version logic q =
    record {
      version = version;
      logic = logic;
      principals = q.principals;
      atoms = q.atoms;
      forms = q.forms;
      policy = q.policy;
      goal = q.goal;
      steps = q.steps;
    }

unfoldable pub headed_outcome : ℕ → Logic → Outcome → Outcome
unfolding further_down
headed_outcome version logic (result q) = result (headed version logic q)
headed_outcome version logic (refused a) = refused (further_down (extra_lines version) a)

flat : (version : ℕ) (logic : Logic) (s : List ℕ) →
    and_then (body_lines version logic s) (λ q. done q) ≡ and_then (body_lines 0 plain s) (λ q. done (headed version logic q))
unfolding body_lines ◌>>=◌ and_then
flat version logic s = simp after_assoc

body_headed : (version : ℕ) (logic : Logic) (s : List ℕ) →
    body_lines version logic s ≡ and_then (body_lines 0 plain s) (λ q. done (headed version logic q))
body_headed version logic s = sym (after_done (body_lines version logic s)) ∙ flat version logic s

body_told : (version : ℕ) (logic : Logic) (x : Read Request) →
    ended (moved_down (extra_lines version) (and_then x (λ q. done (headed version logic q)))) ≡ headed_outcome version logic (body_ended x)
unfolding ended moved_down and_then body_ended headed_outcome
body_told version logic (ok q []) = refl
body_told version logic (ok q (b ∷ rest)) = refl
body_told version logic (bad a) = refl

-- The file: the first lines, and behind them the others.
abbrev behind_start : Told → Reader Request
behind_start h = further (extra_lines h.version) (body_lines h.version h.logic)

request_start : (s : List ℕ) → request_lines s ≡ and_then (start_part s) behind_start
unfolding request_lines start_part ◌>>=◌ and_then
request_start s = simp after_assoc

pub start_refused_lem : (s : List ℕ) (a : Answer) → start_part s ≡ bad a → read_request s ≡ refused a
unfolding read_request ended and_then
start_refused_lem s a e = rw (request_start s, e) refl

pub start_read : (s : List ℕ) (h : Told) (rest : List ℕ) → start_part s ≡ ok h rest →
    read_request s ≡ headed_outcome h.version h.logic (body_request rest)
unfolding read_request and_then further body_request
start_read s h rest e =
    rw (request_start s, e)
    (ap (λ x. ended (moved_down (extra_lines h.version) x)) (body_headed h.version h.logic rest) ∙
    body_told h.version h.logic (body_lines 0 plain rest))

pub start_ends : Ends start_part
unfolding start_part
start_ends =
    seq_ends _ _ (line_ends version_line version_refusal version_at)
    (λ version. seq_ends _ _ (logic_ends version) (λ logic. done_ends _))
  where
    logic_ends : (version : ℕ) → Ends (read_logic version)
    logic_ends version = go (has_logic version)
      where
        go : (b : Bool) → Ends (cond b (line logic_line (λ l. 0) logic_at) (done plain))
        go true = line_ends logic_line (λ l. 0) logic_at
        go false = done_ends plain

pub head_ends : Ends head_part
unfolding head_part
head_ends =
    seq_ends _ _ (line_ends principals_line principals_refusal principals_at)
    (λ principals. seq_ends _ _ (line_ends atoms_line atoms_refusal atoms_at)
    (λ atoms. seq_ends _ _ (line_ends formulas_line formulas_refusal formulas_at) (λ formulas. done_ends _)))

pub formulas_ends : Ends formulas_part
unfolding formulas_part
formulas_ends = seq_ends _ _ head_ends (λ h. seq_ends _ _
    (many_ends (form_item h.principals h.atoms) h.formulas [] (λ b. line_ends form_line (form_refusal h.principals h.atoms b) (form_at (length b))))
    (λ forms. done_ends _))

pub policy_ends : (forms : List Row) → Ends (policy_part forms)
unfolding policy_part
policy_ends forms =
    seq_ends _ _ (line_ends clauses_line clauses_refusal (clauses_at (length forms)))
    (λ n. seq_ends _ _ (many_ends (clause_item forms) n [] (λ b. line_ends clause_line (clause_refusal forms) (clause_at (length forms) (length b))))
    (λ policy. seq_ends _ _ (line_ends goal_line (goal_refusal forms) (goal_at (length forms) (length policy))) (λ goal. done_ends _)))

pub steps_ends : (formulas clauses : ℕ) → Ends (steps_part formulas clauses)
unfolding steps_part
steps_ends formulas clauses =
    seq_ends _ _ (line_ends steps_line steps_refusal (steps_at formulas clauses))
    (λ n. many_ends (step_item formulas clauses) n []
    (λ b. line_ends step_line step_refusal (step_at formulas clauses (suc (length b)))))
