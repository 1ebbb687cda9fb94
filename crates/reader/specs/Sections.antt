-- The sections of the file, each a reader of document 01's lines, and the whole file from them.
use Rattle.std.specs.Prelude.{ℕ, List, [], ltb, length}
use Rattle.refusals.specs.Rows.{class_refusal}
use Rattle.scope.specs.Logic.Facts.{Logic}
use Rattle.scope.specs.File.Request.{Row}
use Rattle.scope.specs.File.Line.{Reader, line, many, done, ◌>>=◌}
use Rattle.scope.specs.Limits.{version_at, principals_at, atoms_at, formulas_at, clauses_at, clause_at, goal_at, steps_at}
use Rattle.scope.specs.File.Refusals.{demand, version_refusal, principals_refusal, atoms_refusal, formulas_refusal, clauses_refusal, goal_refusal, steps_refusal}
use Rattle.scope.specs.File.Text.{version_line, principals_line, atoms_line, formulas_line, clauses_line, clause_line, goal_line, steps_line}
use Rattle.scope.specs.File.Reader.{form_item, clause_item, step_item, read_logic}
use Rattle.classes.specs.Class.{policy_in, no_class}
use Rattle.classes.specs.declared.Class.{Class}

-- The first line, and in version 2 the second.
pub record Told : Type 0 where
  pub version : ℕ
  pub logic : Logic

unfoldable pub start_part : Reader Told
unfolding line read_logic ◌>>=◌
start_part = do
  version ← line version_line version_refusal version_at
  logic ← read_logic version
  done record { version = version; logic = logic }

-- The three lines behind them.
pub record Counted : Type 0 where
  pub principals : ℕ
  pub atoms : ℕ
  pub formulas : ℕ

unfoldable pub head_part : Reader Counted
unfolding line ◌>>=◌
head_part = do
  principals ← line principals_line principals_refusal principals_at
  atoms ← line atoms_line atoms_refusal atoms_at
  formulas ← line formulas_line formulas_refusal formulas_at
  done record { principals = principals; atoms = atoms; formulas = formulas }

-- And the formulas.
pub record Formulas : Type 0 where
  pub principals : ℕ
  pub atoms : ℕ
  pub forms : List Row

unfoldable pub formulas_part : Reader Formulas
unfolding head_part many ◌>>=◌
formulas_part = do
  h ← head_part
  forms ← many (form_item h.principals h.atoms) h.formulas []
  done record { principals = h.principals; atoms = h.atoms; forms = forms }

-- The policy lines and the goal.
pub record PolicyRead : Type 0 where
  pub policy : List ℕ
  pub goal : ℕ

unfoldable pub policy_part : List Row → Reader PolicyRead
unfolding line many ◌>>=◌
policy_part forms = do
  n ← line clauses_line clauses_refusal (clauses_at (length forms))
  policy ← many (clause_item forms) n []
  goal ← line goal_line (goal_refusal forms) (goal_at (length forms) (length policy))
  done record { policy = policy; goal = goal }

-- The steps.
unfoldable pub steps_part : ℕ → ℕ → Reader (List Row)
unfolding line many ◌>>=◌
steps_part formulas clauses = do
  n ← line steps_line steps_refusal (steps_at formulas clauses)
  many (step_item formulas clauses) n []

-- The refusals of a formula number by a table of classes.
unfoldable pub below_refusal : ℕ → ℕ → ℕ
below_refusal n f = demand (ltb f n) 3 0

abbrev pub classed_item : List Class → ℕ → List ℕ → Reader ℕ
classed_item classes formulas before = line clause_line (class_refusal policy_in no_class classes formulas) (clause_at formulas (length before))
