-- Sections from the lines and loops that they consist of.
use Rattle.std.specs.Prelude.{ℕ, ◌≤◌, ◌≡◌, List, [], Bool, length, get_or}
use Rattle.std.proofs.Common.{sym, ltb-true}
use Rattle.std.proofs.Math.Path.{refl, ap}
use Rattle.std.proofs.Math.Bool.{true, false}
use Rattle.std.proofs.Math.Dec.{ltb}
use Rattle.scope.specs.Call.Answer.{Answer}
use Rattle.scope.specs.File.Request.{Row, goal_class, policy_class}
use Rattle.scope.specs.File.Line.{ok, bad, line, and_then, ◌>>=◌, many}
use Rattle.scope.specs.Limits.{most_formulas, principals_at, atoms_at, formulas_at, clauses_at, clause_at, goal_at, steps_at}
use Rattle.scope.specs.File.Refusals.{demand, principals_refusal, atoms_refusal, formulas_refusal, clauses_refusal, steps_refusal, clause_refusal, goal_refusal}
use Rattle.scope.specs.File.Text.{principals_line, atoms_line, formulas_line, clauses_line, clause_line, goal_line, steps_line}
use Rattle.scope.specs.Call.Tables.{form_entry, unpack}
use Rattle.scope.specs.File.Reader.{form_item, clause_item, step_item}
use Rattle.classes.specs.Class.{goal_in, policy_in, no_class, class_table}
use Rattle.classes.specs.Rows.{unpack_length}
use Rattle.classes.specs.Laws.{goal_at_lem, policy_at}
use Rattle.refusals.specs.Rows.{class_refusal}
use Rattle.reader.specs.Sections.{Counted, head_part, formulas_part, policy_part, steps_part, classed_item}

-- The three counts.
module _ (s : List ℕ) where
  pub head_at_principals : (z : Answer) → line principals_line principals_refusal principals_at s ≡ bad z → head_part s ≡ bad z
  unfolding head_part ◌>>=◌ and_then
  head_at_principals z a = rw a refl

  module _ (p : ℕ) (s₁ : List ℕ) (a : line principals_line principals_refusal principals_at s ≡ ok p s₁) where
    pub head_at_atoms : (z : Answer) → line atoms_line atoms_refusal atoms_at s₁ ≡ bad z → head_part s ≡ bad z
    unfolding head_part ◌>>=◌ and_then
    head_at_atoms z b = rw a (rw b refl)

    module _ (n : ℕ) (s₂ : List ℕ) (b : line atoms_line atoms_refusal atoms_at s₁ ≡ ok n s₂) where
      pub head_at_formulas : (z : Answer) → line formulas_line formulas_refusal formulas_at s₂ ≡ bad z → head_part s ≡ bad z
      unfolding head_part ◌>>=◌ and_then
      head_at_formulas z c = rw a (rw b (rw c refl))

      pub head_whole : (f : ℕ) (s₃ : List ℕ) → line formulas_line formulas_refusal formulas_at s₂ ≡ ok f s₃
          → head_part s ≡ ok record { principals = p; atoms = n; formulas = f } s₃
      unfolding head_part ◌>>=◌ and_then
      head_whole f s₃ c = rw a (rw b (rw c refl))

-- The formulas: three counts, then the `form=` lines.
module _ (s : List ℕ) where
  pub formulas_at_head : (z : Answer) → head_part s ≡ bad z → formulas_part s ≡ bad z
  unfolding formulas_part ◌>>=◌ and_then
  formulas_at_head z e = rw e refl

  module _ (h : Counted) (t : List ℕ) (e : head_part s ≡ ok h t) where
    pub formulas_at_forms : (z : Answer) → many (form_item h.principals h.atoms) h.formulas [] t ≡ bad z → formulas_part s ≡ bad z
    unfolding formulas_part ◌>>=◌ and_then
    formulas_at_forms z f = rw e (rw f refl)

    pub formulas_whole : (forms : List Row) (rest : List ℕ) → many (form_item h.principals h.atoms) h.formulas [] t ≡ ok forms rest
        → formulas_part s ≡ ok record { principals = h.principals; atoms = h.atoms; forms = forms } rest
    unfolding formulas_part ◌>>=◌ and_then
    formulas_whole forms rest f = rw e (rw f refl)

-- The policy: a count, that many `clause=` lines, the goal. The formulas stand in a table, and the classes are asked of a table of them.
module _ (numbers : List ℕ) (n : ℕ) (small : n ≤ most_formulas) where
  abbrev rows : List Row
  rows = unpack form_entry n numbers

  clause_asks : (f : ℕ) → class_refusal policy_in no_class (class_table numbers n) n f ≡ clause_refusal rows f
  unfolding class_refusal clause_refusal
  clause_asks f = rw (unpack_length form_entry n numbers) (go (ltb f n) refl)
    where
      go : (b : Bool) → ltb f n ≡ b → demand b 3 (demand (policy_in (get_or (class_table numbers n) f no_class)) 5 0) ≡ demand b 3
          (demand (policy_class rows f) 5 0)
      go true e = ap (λ c. demand true 3 (demand c 5 0)) (policy_at numbers n f small (ltb-true f n e))
      go false e = refl

  goal_asks : (f : ℕ) → class_refusal goal_in no_class (class_table numbers n) n f ≡ goal_refusal rows f
  unfolding class_refusal goal_refusal
  goal_asks f = rw (unpack_length form_entry n numbers) (go (ltb f n) refl)
    where
      go : (b : Bool) → ltb f n ≡ b → demand b 3 (demand (goal_in (get_or (class_table numbers n) f no_class)) 5 0) ≡ demand b 3
          (demand (goal_class rows f) 5 0)
      go true e = ap (λ c. demand true 3 (demand c 5 0)) (goal_at_lem numbers n f small (ltb-true f n e))
      go false e = refl

  clause_items : classed_item (class_table numbers n) n ≡ clause_item rows
  clause_items = λ i before. line clause_line (λ f. clause_asks f i) (clause_at (sym (unpack_length form_entry n numbers) i) (length before))

  module _ (s : List ℕ) where
    pub policy_at_count : (z : Answer) → line clauses_line clauses_refusal (clauses_at n) s ≡ bad z → policy_part rows s ≡ bad z
    unfolding policy_part ◌>>=◌ and_then
    policy_at_count z e = rw (unpack_length form_entry n numbers, e) refl

    module _ (c : ℕ) (t : List ℕ) (e : line clauses_line clauses_refusal (clauses_at n) s ≡ ok c t) where
      many_clauses : many (classed_item (class_table numbers n) n) c [] t ≡ many (clause_item rows) c [] t
      many_clauses = ap (λ item. many item c [] t) clause_items

      pub policy_at_clauses : (z : Answer) → many (classed_item (class_table numbers n) n) c [] t ≡ bad z → policy_part rows s ≡ bad z
      unfolding policy_part ◌>>=◌ and_then
      policy_at_clauses z f = rw (unpack_length form_entry n numbers, e, ← many_clauses, f) refl

      module _ (policy u : List ℕ) (f : many (classed_item (class_table numbers n) n) c [] t ≡ ok policy u) (l : length policy ≡ c) where
        goal_line_is : line goal_line (class_refusal goal_in no_class (class_table numbers n) n) (goal_at n c) u ≡
            line goal_line (goal_refusal rows) (goal_at n (length policy)) u
        goal_line_is = λ i. line goal_line (λ g. goal_asks g i) (goal_at n (sym l i)) u

        pub policy_at_goal : (z : Answer) → line goal_line (class_refusal goal_in no_class (class_table numbers n) n) (goal_at n c) u ≡ bad z
            → policy_part rows s ≡ bad z
        unfolding policy_part ◌>>=◌ and_then
        policy_at_goal z g = rw (unpack_length form_entry n numbers, e, ← many_clauses, f, ← goal_line_is, g) refl

        pub policy_whole : (goal : ℕ) (rest : List ℕ) → line goal_line (class_refusal goal_in no_class (class_table numbers n) n) (goal_at n c) u ≡ ok goal rest
            → policy_part rows s ≡ ok record { policy = policy; goal = goal } rest
        unfolding policy_part ◌>>=◌ and_then
        policy_whole goal rest g = rw (unpack_length form_entry n numbers, e, ← many_clauses, f, ← goal_line_is, g) refl

-- The steps: a count, that many `step=` lines.
module _ (formulas clauses : ℕ) (s : List ℕ) where
  pub steps_at_count : (z : Answer) → line steps_line steps_refusal (steps_at formulas clauses) s ≡ bad z → steps_part formulas clauses s ≡ bad z
  unfolding steps_part ◌>>=◌ and_then
  steps_at_count z e = rw e refl

  pub steps_whole : (c : ℕ) (t : List ℕ) → line steps_line steps_refusal (steps_at formulas clauses) s ≡ ok c t → steps_part formulas clauses s ≡ many
      (step_item formulas clauses) c [] t
  unfolding steps_part ◌>>=◌ and_then
  steps_whole c t e = rw e refl
